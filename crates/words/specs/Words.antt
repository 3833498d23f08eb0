-- Document 01, "Jobs and replies": little-endian; f64 by its bits. Definitions only.
use Rattle.std.specs.Prelude.{Float, take, drop, ℕ, zero, suc, ◌+◌, ◌*◌, ◌/◌, ◌%◌, List, [], ◌∷◌}
use Rattle.std.specs.Float.{binary64}
use Rattle.std.specs.Float.Ieee.{of_bits, to_bits}

-- the number that bytes stand for, the lowest first
unfoldable pub little : List ℕ → ℕ
little [] = 0
little (b ∷ bs) = b + 256 * little bs

-- the lowest n bytes of a number, the lowest first
unfoldable pub bytes : ℕ → ℕ → List ℕ
bytes zero x = []
bytes (suc n) x = x % 256 ∷ bytes n (x / 256)

-- the k-th operand of eight bytes, as a number and as a float
unfoldable pub word_at : List ℕ → ℕ → ℕ
word_at operands k = little (take 8 (drop (8 * k) operands))

unfoldable pub float_at : List ℕ → ℕ → Float
float_at operands k = of_bits binary64 (word_at operands k)

-- a float as it is written; a NaN is 7FF8000000000000
unfoldable pub float_bytes : Float → List ℕ
float_bytes x = bytes 8 (to_bits binary64 x)
