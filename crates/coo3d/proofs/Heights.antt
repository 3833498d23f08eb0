-- The height of a point from angles lies from −1 to 1 where the latitude is in range: `HeightInRange` (specs/Points.antt). It is the sine of the
-- latitude, so this is the range of the sine (crate bounds, proofs/Ranges.antt).
use Rattle.std.proofs.Common.{◌≡◌, Bool, true, false, cond, ◌&&◌, T, refl, ap}
use lib.Ieee.{Float, neg, of_bits, le}
use lib.Ieee.Bits.{is_true}
use lib.Ieee.Fits.{and_l, and_r}
use Rattle.angles.specs.Floats.{one, abs_of}
use Rattle.angles.specs.Constants.{half_pi, two_pi}
use Rattle.angles.specs.Circular.{sin_cos_of}
use Rattle.bounds.specs.Ranges.{between, is_number}
use Rattle.bounds.proofs.Order.{finite_between, not_nan, abs_below, le_trans_at}
use Rattle.bounds.proofs.Ranges.{ranges}
use Rattle.coo3d.specs.LonLats.{is_longitude, is_latitude, vec3_of}
use Rattle.coo3d.specs.Points.{from_vec3, from_sph_coo, vect_of, HeightInRange}
use Rattle.coo3d.specs.declared.point.Coo3D.{Coo3D}
use Rattle.coo3d.specs.declared.vect3.Vect3.{Vect3}

-- a latitude in range is an angle of less than a turn
within_a_turn : (lat : Float) → T (is_latitude lat) → le (abs_of lat) two_pi ≡ true
unfolding is_latitude of_bits neg le
within_a_turn lat h =
    let low = and_l (le (neg half_pi) lat) (le lat half_pi) h in
    let high = and_r (le (neg half_pi) lat) (le lat half_pi) h in
    let number = finite_between (neg half_pi) lat half_pi tt tt low high in
    is_true (le (abs_of lat) two_pi) (le_trans_at (abs_of lat) half_pi two_pi tt (abs_below half_pi lat number low high) tt)

-- what holds of a point from angles, whether or not they stay as they are
pub either_point : (P : Coo3D → Type 0) (b : Bool) (p q : Coo3D) → P p → P q → P (cond b p q)
either_point P true p q h k = h
either_point P false p q h k = k

pub vector : (lon lat : Float) → vect_of (from_sph_coo lon lat) ≡ vec3_of lon lat
unfolding from_sph_coo from_vec3 vect_of
vector lon lat = either_point (λ p. vect_of p ≡ vec3_of lon lat) (is_longitude lon && is_latitude lat) _ _ refl refl

height : (lon lat : Float) → (from_sph_coo lon lat).z ≡ (sin_cos_of lat).sin
unfolding vect_of vec3_of
height lon lat = ap (λ (v : Vect3). v.z) (vector lon lat)

pub height_in_range : HeightInRange
height_in_range lon lat h = rw (height lon lat) (ranges.sine_range lat (within_a_turn lat (rw h tt)))

-- and so a number
pub height_is_number : (lon lat : Float) → is_latitude lat ≡ true → is_number (from_sph_coo lon lat).z
unfolding between of_bits neg
height_is_number lon lat h =
    let z = (from_sph_coo lon lat).z in
    let t : T (le (neg one) z && le z one) = rw (height_in_range lon lat h) tt in
    not_nan z (finite_between (neg one) z one tt tt (and_l (le (neg one) z) (le z one) t) (and_r (le (neg one) z) (le z one) t))
