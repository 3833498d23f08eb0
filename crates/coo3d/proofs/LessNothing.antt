-- A float without a sign is left as it is where no quarter turns are taken off: what rounds is its own value, and the format holds each value in one way.
use Rattle.std.proofs.Common.{◌≡◌, ℕ, ◌-◌, ◌*◌, true, false, T, ℤ, pos, ◌∙◌, true≢false, zero-mul, mul-one, arith}
use native.Mathlib.Nat.{sub-zero}
use lib.Ieee.{Float, nan, inf, fin, binary64, up, down, mul, of_bits, of_int, fits}
use lib.Ieee.Exact.{HasValue}
use lib.Ieee.Fits.{down_pos, round-fits}
use lib.Ieee.Scale.{finite, round_same}
use Rattle.root_rule.proofs.Rounded.{same_value}
use Rattle.angles.specs.Floats.{◌⊖◌, ◌⊗◌, of_nat, sign_of}
use Rattle.angles.specs.Constants.{half_pi}
use Rattle.bounds.proofs.Squares.{own_value}
use Rattle.coo3d.proofs.Remainders.{difference}

of_value : (z : Float) (m : ℕ) (e : ℤ) → T (fits binary64 z) → T (fits binary64 (fin false m e)) → HasValue z false (m * up e) (down e) → z ≡ fin false m e
of_value nan m e g f v = absurd v
of_value (inf s) m e g f v = absurd v
of_value (fin true n d) m e g f v = absurd (true≢false v.0)
of_value (fin false n d) m e g f v = same_value (fin false n d) (fin false m e) (g, tt) (f, tt) v.1

pub less_nothing : (x : Float) → T (fits binary64 x) → T (finite x) → sign_of x ≡ false → x ⊖ of_nat 0 ⊗ half_pi ≡ x
unfolding sign_of of_bits of_int mul
less_nothing nan f n s = absurd n
less_nothing (inf t) f n s = absurd n
less_nothing (fin true m e) f n s = absurd (true≢false s)
less_nothing (fin false m e) f n s =
    difference m e 0 (pos 0) (omega arith)
    ∙ round_same binary64 false (m * up e * 1 - 0 * 1 * down e) (down e * 1) (m * up e) (down e) (omega (arith, down_pos e)) (down_pos e) (simp (mul-one, zero-mul, sub-zero))
    ∙ of_value _ m e (round-fits binary64 false (m * up e) (down e)) f (own_value (fin false m e) (f, tt))
