-- A product with a negated factor is the negated product, on all floats.
use Rattle.std.proofs.Common.{◌≡◌, ℕ, ◌*◌, Bool, true, false, cond, not, eqb, sym, refl, ap, ◌∙◌}
use lib.Ieee.{Float, nan, inf, fin, binary64, up, down, unlike, round, mul, neg}
use Rattle.angles.specs.Floats.{◌⊗◌}
use Rattle.bounds.proofs.Order.{neg_neg}
use Rattle.bounds.proofs.Rounding.{round_neg}
use Rattle.bounds.proofs.Exchanged.{times_comm}

either_sign : (s t : Bool) (a c : ℕ) → round binary64 (unlike s (not t)) a c ≡ neg (round binary64 (unlike s t) a c)
either_sign true true a c = round_neg a c
either_sign false false a c = round_neg a c
either_sign true false a c = sym (ap neg (round_neg a c) ∙ neg_neg (round binary64 false a c))
either_sign false true a c = sym (ap neg (round_neg a c) ∙ neg_neg (round binary64 false a c))

either_infinity : (s t b : Bool) → cond b nan (inf (unlike s (not t))) ≡ neg (cond b nan (inf (unlike s t)))
unfolding neg
either_infinity s t true = refl
either_infinity true true false = refl
either_infinity true false false = refl
either_infinity false true false = refl
either_infinity false false false = refl

-- a product with a negated factor is the negated product
pub mul_neg : (x y : Float) → x ⊗ neg y ≡ neg (x ⊗ y)
unfolding mul neg
mul_neg nan y = refl
mul_neg (inf s) nan = refl
mul_neg (inf s) (inf t) = either_infinity s t false
mul_neg (inf s) (fin t n d) = either_infinity s t (eqb n 0)
mul_neg (fin s m e) nan = refl
mul_neg (fin s m e) (inf t) = either_infinity s t (eqb m 0)
mul_neg (fin s m e) (fin t n d) = either_sign s t (m * up e * (n * up d)) (down e * down d)

pub neg_mul : (x y : Float) → neg x ⊗ y ≡ neg (x ⊗ y)
neg_mul x y = times_comm (neg x) y ∙ mul_neg y x ∙ ap neg (times_comm y x)
