-- How many bytes are written. By recursion on their number.
use lib.Ieee.{Float, binary64, to_bits}
use lib.ListN.{length}
use Prim.Native.Nat.{ℕ, zero, suc, ◌/◌}
use mathlib.Core.Path.{◌≡◌, refl, ap}
use Rattle.words.specs.Words.{bytes, float_bytes}

pub length_bytes : (n x : ℕ) → length (bytes n x) ≡ n
unfolding bytes
length_bytes zero x = refl
length_bytes (suc n) x = ap suc (length_bytes n (x / 256))

pub length_float : (x : Float) → length (float_bytes x) ≡ 8
unfolding float_bytes
length_float x = length_bytes 8 (to_bits binary64 x)
