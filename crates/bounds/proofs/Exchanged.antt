-- Products and differences with their operands exchanged: the same, and of the same size.
use mathlib.Core.Path.{◌≡◌, refl, sym, ap, ◌∙◌}
use mathlib.Core.Bool.{Bool, true, false, not, cond}
use Prim.Native.Nat.{ℕ, ◌+◌, ◌-◌, ◌*◌}
use native.Mathlib.Nat.{mul_comm, add_comm}
use native.Mathlib.Omega.{arith}
use lib.Dec.{T, ltb}
use borrow.Author.Tests.{ltb-true, ltb-false}
use lib.Ieee.{Float, nan, inf, fin, binary64, up, down, unlike, round, sum, add, sub, mul, neg}
use Rattle.angles.specs.Floats.{◌⊖◌, ◌⊗◌, abs_of}
use Rattle.bounds.proofs.Rounding.{round_neg, round_unsigned, unsigned}

unlike_comm : (s t : Bool) → unlike s t ≡ unlike t s
unlike_comm true true = refl
unlike_comm true false = refl
unlike_comm false true = refl
unlike_comm false false = refl

pub times_comm : (x y : Float) → x ⊗ y ≡ y ⊗ x
unfolding mul
times_comm nan nan = refl
times_comm nan (inf t) = refl
times_comm nan (fin t n d) = refl
times_comm (inf s) nan = refl
times_comm (inf s) (inf t) = ap inf (unlike_comm s t)
times_comm (inf s) (fin t n d) = rw (unlike_comm s t)
times_comm (fin s m e) nan = refl
times_comm (fin s m e) (inf t) = rw (unlike_comm s t)
times_comm (fin s m e) (fin t n d) = rw (unlike_comm s t, mul_comm (m * up e) (n * up d), mul_comm (down e) (down d))

-- ---- the size of a difference
abs_unsigned : (x : Float) → T (unsigned x) → abs_of x ≡ x
unfolding abs_of
abs_unsigned nan u = refl
abs_unsigned (inf true) u = absurd u
abs_unsigned (inf false) u = refl
abs_unsigned (fin true m e) u = absurd u
abs_unsigned (fin false m e) u = refl

pub abs_neg : (x : Float) → abs_of (neg x) ≡ abs_of x
unfolding abs_of neg
abs_neg nan = refl
abs_neg (inf s) = refl
abs_neg (fin s m e) = refl

abs_round : (s : Bool) (a c : ℕ) → abs_of (round binary64 s a c) ≡ round binary64 false a c
abs_round false a c = abs_unsigned (round binary64 false a c) (round_unsigned a c)
abs_round true a c = ap abs_of (round_neg a c) ∙ abs_neg (round binary64 false a c) ∙ abs_unsigned (round binary64 false a c) (round_unsigned a c)

-- of a and b with the same sign, the size of the sum of one and the other's opposite
abs_sum : (s : Bool) (a b c : ℕ) → abs_of (sum binary64 s a (not s) b c) ≡ round binary64 false (cond (ltb a b) (b - a) (a - b)) c
unfolding sum
abs_sum true a b c = go (ltb a b) (ltb b a)
  where
    go : (t u : Bool) → abs_of (cond t (round binary64 false (b - a) c) (round binary64 u (a - b) c)) ≡ round binary64 false (cond t (b - a) (a - b)) c
    go true u = abs_round false (b - a) c
    go false u = abs_round u (a - b) c
abs_sum false a b c = go (ltb a b)
  where
    go : (t : Bool) → abs_of (cond t (round binary64 true (b - a) c) (round binary64 false (a - b) c)) ≡ round binary64 false (cond t (b - a) (a - b)) c
    go true = abs_round true (b - a) c
    go false = abs_round false (a - b) c

distance : (a b : ℕ) → cond (ltb a b) (b - a) (a - b) ≡ cond (ltb b a) (a - b) (b - a)
distance a b = go (ltb a b) (ltb b a) refl refl
  where
    go : (t u : Bool) → ltb a b ≡ t → ltb b a ≡ u → cond t (b - a) (a - b) ≡ cond u (a - b) (b - a)
    go true true p q = omega (arith, ltb-true a b p, ltb-true b a q)
    go true false p q = refl
    go false true p q = refl
    go false false p q = omega (arith, ltb-false a b p, ltb-false b a q)

abs_fin : (s t : Bool) (a b c c' : ℕ) → c ≡ c' → abs_of (sum binary64 s a (not t) b c) ≡ abs_of (sum binary64 t b (not s) a c')
unfolding sum
abs_fin true true a b c c' e =
    abs_sum true a b c
    ∙ ap (λ (x : ℕ). round binary64 false x c) (distance a b)
    ∙ ap (λ (x : ℕ). round binary64 false (cond (ltb b a) (a - b) (b - a)) x) e
    ∙ sym (abs_sum true b a c')
abs_fin false false a b c c' e =
    abs_sum false a b c
    ∙ ap (λ (x : ℕ). round binary64 false x c) (distance a b)
    ∙ ap (λ (x : ℕ). round binary64 false (cond (ltb b a) (a - b) (b - a)) x) e
    ∙ sym (abs_sum false b a c')
abs_fin true false a b c c' e =
    abs_round true (a + b) c
    ∙ ap (λ (x : ℕ). round binary64 false x c) (add_comm a b)
    ∙ ap (λ (x : ℕ). round binary64 false (b + a) x) e
    ∙ sym (abs_round false (b + a) c')
abs_fin false true a b c c' e =
    abs_round false (a + b) c
    ∙ ap (λ (x : ℕ). round binary64 false x c) (add_comm a b)
    ∙ ap (λ (x : ℕ). round binary64 false (b + a) x) e
    ∙ sym (abs_round true (b + a) c')

pub abs_sub : (x y : Float) → abs_of (x ⊖ y) ≡ abs_of (y ⊖ x)
unfolding sub add neg abs_of
abs_sub nan nan = refl
abs_sub nan (inf t) = refl
abs_sub nan (fin t n d) = refl
abs_sub (inf s) nan = refl
abs_sub (inf true) (inf true) = refl
abs_sub (inf true) (inf false) = refl
abs_sub (inf false) (inf true) = refl
abs_sub (inf false) (inf false) = refl
abs_sub (inf s) (fin t n d) = refl
abs_sub (fin s m e) nan = refl
abs_sub (fin s m e) (inf t) = refl
abs_sub (fin s m e) (fin t n d) = abs_fin s t (m * up e * down d) (n * up d * down e) (down e * down d) (down d * down e) (mul_comm (down e) (down d))

pub square_of_size : (x : Float) → x ⊗ x ≡ abs_of x ⊗ abs_of x
unfolding mul abs_of
square_of_size nan = refl
square_of_size (inf true) = refl
square_of_size (inf false) = refl
square_of_size (fin true m e) = refl
square_of_size (fin false m e) = refl

pub same_square : (x y : Float) → abs_of x ≡ abs_of y → x ⊗ x ≡ y ⊗ y
same_square x y e = square_of_size x ∙ ap (λ (t : Float). t ⊗ t) e ∙ sym (square_of_size y)
