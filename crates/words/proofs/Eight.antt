-- The library's words for a number's eight bytes say what `little` and `bytes` say.
use Rattle.std.proofs.Common.{length, get_or, drop, drop_of_length-le, take, length-take, arith, ℕ, zero, suc, ◌+◌, ◌*◌, ◌≡◌, refl, ap, ◌∙◌, List, [], ◌∷◌}
use Rattle.std.specs.Array.{IsFirstChunk}
use Rattle.std.specs.Int.{w64, from_le_bytes, to_le_bytes}
use Rattle.words.specs.Words.{little, bytes}

byte_more : (s : List ℕ) (i : ℕ) → little (drop i s) ≡ get_or s i 0 + 256 * little (drop (suc i) s)
unfolding little
byte_more [] zero = refl
byte_more [] (suc i) = refl
byte_more (b ∷ s) zero = refl
byte_more (b ∷ s) (suc i) = byte_more s i

pub little_eight : (s : List ℕ) → length s ≡ 8 → from_le_bytes w64 s ≡ little s
unfolding little
little_eight s l =
    omega (
      arith,
      byte_more s 0,
      byte_more s 1,
      byte_more s 2,
      byte_more s 3,
      byte_more s 4,
      byte_more s 5,
      byte_more s 6,
      byte_more s 7,
      ap little (drop_of_length-le s {i = 8} (omega arith)),
    )

-- the first eight of some bytes
pub little_first : (s y : List ℕ) → IsFirstChunk s y 8 → from_le_bytes w64 y ≡ little (take 8 s)
little_first s y h = little_eight y (rw (h.same, length-take) (omega (arith, h.enough))) ∙ ap little h.same

pub bytes_eight : (x : ℕ) → to_le_bytes w64 x ≡ bytes 8 x
unfolding bytes
bytes_eight x = grind arith
