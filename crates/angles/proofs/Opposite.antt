-- A number and its negative have the same size and, where they are numbers, opposite signs.
use lib.Ieee.{Float, nan, inf, fin, neg}
use lib.Ieee.Bits.{is_true}
use lib.Ieee.Fits.{and_l, and_r}
use mathlib.Core.Path.{◌≡◌, refl}
use mathlib.Core.Bool.{true, false, not, ◌&&◌, false≢true}
use Rattle.angles.specs.Floats.{sign_of, finite_of, abs_of, signed_of}
use Rattle.angles.specs.Inverse.{reflected_of, first_quadrant, atan2_of}

same_finite : (x : Float) → finite_of (neg x) ≡ finite_of x
unfolding finite_of neg
same_finite nan = refl
same_finite (inf s) = refl
same_finite (fin s m e) = refl

same_size : (x : Float) → abs_of (neg x) ≡ abs_of x
unfolding abs_of neg
same_size nan = refl
same_size (inf s) = refl
same_size (fin s m e) = refl

other_sign : (x : Float) → finite_of x ≡ true → sign_of (neg x) ≡ not (sign_of x)
unfolding sign_of finite_of neg
other_sign nan h = absurd (false≢true h)
other_sign (inf s) h = absurd (false≢true h)
other_sign (fin s m e) h = refl

-- The finite x and y, and any others.
pub of_numbers : (y x : Float) → (finite_of y && finite_of x) ≡ true
    → (atan2_of y x ≡ signed_of (sign_of y) (reflected_of (sign_of x) (first_quadrant (abs_of y) (abs_of x))))
    × (atan2_of (neg y) (neg x) ≡ signed_of (not (sign_of y)) (reflected_of (not (sign_of x)) (first_quadrant (abs_of y) (abs_of x))))
unfolding atan2_of
of_numbers y x h =
    let fy = is_true (finite_of y) (and_l (finite_of y) (finite_of x) (rw h tt)) in
    let fx = is_true (finite_of x) (and_r (finite_of y) (finite_of x) (rw h tt)) in
    (rw h refl, rw (same_finite y, same_finite x, h, same_size y, same_size x, other_sign y fy, other_sign x fx) refl)

pub of_others : (y x : Float) → (finite_of y && finite_of x) ≡ false → (atan2_of y x ≡ nan) × (atan2_of (neg y) (neg x) ≡ nan)
unfolding atan2_of
of_others y x h = (rw h refl, rw (same_finite y, same_finite x, h) refl)
