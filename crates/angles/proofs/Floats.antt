-- What std's methods on f64 give, as specs/Floats.antt says it, by the float's form.
use lib.Ieee.{Float, nan, inf, fin, is_nan, lt, eq, ne, up, down}
use borrow.Author.Tests.{eq-eqb}
use Prim.Native.Nat.{◌*◌}
use mathlib.Core.Path.{◌≡◌, refl, sym}
use mathlib.Core.Bool.{Bool, true, false, cond, ◌||◌, true≢false}
use Rattle.std.specs.Float.{is_sign_negative, float_is_finite, float_with_sign}
use Rattle.angles.specs.Floats.{sign_of, finite_of, abs_of, min_of, max_of}

pub sign_is : (x : Float) → is_sign_negative x ≡ sign_of x
unfolding is_sign_negative sign_of
sign_is nan = refl
sign_is (inf s) = refl
sign_is (fin s m e) = refl

pub no_sign : (x : Float) → is_nan x ≡ true → false ≡ sign_of x
unfolding is_nan sign_of
no_sign nan h = refl
no_sign (inf s) h = absurd (true≢false (sym h))
no_sign (fin s m e) h = absurd (true≢false (sym h))

pub finite_is : (x : Float) → float_is_finite x ≡ finite_of x
unfolding float_is_finite finite_of
finite_is nan = refl
finite_is (inf s) = refl
finite_is (fin s m e) = refl

pub abs_is : (x : Float) → float_with_sign false x ≡ abs_of x
unfolding float_with_sign abs_of
abs_is nan = refl
abs_is (inf s) = refl
abs_is (fin s m e) = refl

pub nan_by_test : (x : Float) → ne x x ≡ is_nan x
unfolding ne eq is_nan
nan_by_test nan = refl
nan_by_test (inf true) = refl
nan_by_test (inf false) = refl
nan_by_test (fin true m e) = simp (eq-eqb (m * up e * down e) _ refl)
nan_by_test (fin false m e) = simp (eq-eqb (m * up e * down e) _ refl)

either : (a b : Bool) (x y : Float) → cond (a || b) y x ≡ cond a y (cond b y x)
either true b x y = refl
either false b x y = refl

pub min_is : (x y : Float) → cond (is_nan x || lt y x) y x ≡ min_of x y
unfolding min_of
min_is x y = rw nan_by_test (either (is_nan x) (lt y x) x y)

pub max_is : (x y : Float) → cond (is_nan x || lt x y) y x ≡ max_of x y
unfolding max_of
max_is x y = rw nan_by_test (either (is_nan x) (lt x y) x y)
