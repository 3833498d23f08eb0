-- A longitude and what is left of it without its quarters: their sines and cosines are the same numbers, with signs and places as the quarters tell. So a point of
-- angles is moved to the first quarter of the sphere with no sine worked out. Definitions and claims; `proofs/TurnedBack.antt` proves them.
use Rattle.std.specs.Float.{binary64}
use Rattle.std.specs.Float.Ieee.{neg, fits}
use Rattle.std.specs.Prelude.{◌≡◌, eqb, ℕ, true, cond, T, Float}
use Rattle.angles.specs.Floats.{◌⊗◌, of_nat, plus_zero, one}
use Rattle.angles.specs.Constants.{pi, half_pi}
use Rattle.angles.specs.Circular.{turned_by, sin_cos_of}
use Rattle.coo3d.specs.declared.vect3.Vect3.{Vect3}
use Rattle.coo3d.specs.declared.point.Coo3D.{Coo3D}
use Rattle.coo3d.specs.Vectors.{vect}
use Rattle.coo3d.specs.LonLats.{is_longitude, is_latitude, vec3_of}
use Rattle.coo3d.specs.Points.{from_sph_coo}
use Rattle.coo3d.specs.Quarters.{quarter_of, lon_mod_half_pi}

-- a vector turned back by k quarters about the axis; for k = 0..3: (x, y, z), (y, −x, z), (−x, −y, z), (−y, x, z)
unfoldable pub turned_back : ℕ → Vect3 → Vect3
turned_back k v =
    cond (eqb k 0) v
    (cond (eqb k 1) (vect v.y (neg v.x) v.z)
    (cond (eqb k 2) (vect (neg v.x) (neg v.y) v.z)
    (vect (neg v.y) v.x v.z)))

-- the point that `from_sph_coo` makes of a longitude and a latitude in their ranges
abbrev pub OfAngles : Coo3D → Type 0
OfAngles p = (from_sph_coo p.lon p.lat ≡ p) × (is_longitude p.lon ≡ true) × (is_latitude p.lat ≡ true)

-- of every f64 in the range of longitudes, −0 included, whatever the latitude
pub record TurnedBack : Type 0 where
  pub sines : (lon : Float) → T (fits binary64 lon) → is_longitude lon ≡ true
      → sin_cos_of lon ≡ turned_by (quarter_of lon) (sin_cos_of (lon_mod_half_pi lon))
  pub vector : (lon lat : Float) → T (fits binary64 lon) → is_longitude lon ≡ true
      → vec3_of (lon_mod_half_pi lon) lat ≡ turned_back (quarter_of lon) (vec3_of lon lat)

-- the vector of a longitude on the equator, and that vector turned back by the longitude's quarters
abbrev pub OnEquator : Float → Vect3 → Vect3 → Type 0
OnEquator lon v w = (vec3_of lon plus_zero ≡ v) × (turned_back (quarter_of lon) v ≡ w)

-- each quarter at its start; −0, which is not turned, keeps its sign
pub record TurnedBackExamples : Type 0 where
  pub first : OnEquator plus_zero (vect one plus_zero plus_zero) (vect one plus_zero plus_zero)
  pub minus_zero : OnEquator (neg plus_zero) (vect one (neg plus_zero) plus_zero) (vect one (neg plus_zero) plus_zero)
  pub second : OnEquator half_pi (vect (neg plus_zero) one plus_zero) (vect one plus_zero plus_zero)
  pub third : OnEquator pi (vect (neg one) (neg plus_zero) plus_zero) (vect one plus_zero plus_zero)
  pub fourth : OnEquator (of_nat 3 ⊗ half_pi) (vect plus_zero (neg one) plus_zero) (vect one plus_zero plus_zero)
