-- The pattern of |x| is that of x without the sign bit.
use mathlib.Core.Path.{◌≡◌, refl}
use mathlib.Core.Bool.{Bool, true, false, cond, not, true≢false}
use Prim.Native.Nat.{ℕ, zero, suc, ◌+◌, ◌-◌, ◌*◌, ◌/◌, ◌%◌, ◌^◌, ◌<◌}
use native.Mathlib.Omega.{arith}
use lib.Dec.{T}
use lib.IntN.{ℤ}
use lib.Ieee.{Float, nan, inf, fin, binary64, is_nan, up, down, size, low, prec, hid, nan_bits, of_bits, to_bits, fits}
use lib.Ieee.Bits.{of_bits-to_bits, to_bits-lt, nan_bits_is}
use Rattle.angles.specs.Floats.{abs_of}

without_sign : (a b : ℕ) → 2 ^ 63 + a + b < 2 * 2 ^ 63 → (s : Bool) → (cond s (2 ^ 63) 0 + a + b) % 2 ^ 63 ≡ 0 + a + b
without_sign a b h true = omega arith
without_sign a b h false = omega arith

with_sign : (s t : Bool) (m : ℕ) (e : ℤ) → T (fits binary64 (fin s m e)) → T (fits binary64 (fin t m e))
unfolding fits
with_sign s t zero e h = h
with_sign s t (suc m) e h = h

abs_fits : (x : Float) → T (fits binary64 x) → T (fits binary64 (abs_of x))
unfolding abs_of fits
abs_fits nan h = h
abs_fits (inf s) h = h
abs_fits (fin s m e) h = with_sign s false m e h

abs_bits : (x : Float) → T (fits binary64 x) → is_nan x ≡ false → to_bits binary64 x % 2 ^ 63 ≡ to_bits binary64 (abs_of x)
unfolding is_nan abs_of to_bits
abs_bits nan h n = absurd (true≢false n)
abs_bits (inf true) h n = refl
abs_bits (inf false) h n = refl
abs_bits (fin s m e) h n =
    let q = m * up e * 2 ^ low binary64 / down e in
    let k = size q - prec binary64 in
    without_sign (k * hid binary64) (q / 2 ^ k) (to_bits-lt binary64 (fin true m e) (with_sign s true m e h)) s

abs_nan : (x : Float) → is_nan (abs_of x) ≡ is_nan x
unfolding is_nan abs_of
abs_nan nan = refl
abs_nan (inf s) = refl
abs_nan (fin s m e) = refl

module _ (x : Float) (h : T (fits binary64 x)) (n : is_nan x ≡ false) where
  pub abs_read : of_bits binary64 (to_bits binary64 x % 2 ^ 63) ≡ abs_of x
  abs_read = rw (abs_bits x h n) (of_bits-to_bits binary64 (abs_of x) (abs_fits x h))

  pub abs_no_nan : T (not (nan_bits binary64 (to_bits binary64 x % 2 ^ 63)))
  abs_no_nan = rw (nan_bits_is binary64 (to_bits binary64 x % 2 ^ 63), abs_read, abs_nan x, n) tt
