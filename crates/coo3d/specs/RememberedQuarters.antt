-- Document 02, ask 8: a point remembers its quarter. Claims and examples; `proofs/RememberedQuarters.antt` proves them.
use Rattle.std.specs.Float.{nan, binary64}
use Rattle.std.specs.Float.Ieee.{neg, fits}
use Rattle.std.specs.Prelude.{◌≡◌, ℕ, T, Float}
use Rattle.angles.specs.Floats.{◌⊕◌, ◌⊖◌, ◌⊗◌, of_nat, plus_zero, one}
use Rattle.angles.specs.Constants.{two, half_pi, two_pi, quarter_pi}
use Rattle.angles.specs.Circular.{quarter_turns}
use Rattle.coo3d.specs.LonLats.{InTurn}
use Rattle.coo3d.specs.Points.{from_vec3, from_sph_coo}
use Rattle.coo3d.specs.Quarters.{quarter_of, lon_mod_half_pi}
use Rattle.coo3d.specs.declared.point.Coo3D.{Coo3D}

-- "The point record shall hold both", "equal to what its longitude gives"
abbrev pub Remembers : Coo3D → Type 0
Remembers p = (p.quarter ≡ quarter_of p.lon) × (p.lon_mod ≡ lon_mod_half_pi p.lon)

pub record RememberedQuarters : Type 0 where
  -- "Every function that makes a point establishes them", whatever the floats
  pub of_vec3 : (x y z : Float) → Remembers (from_vec3 x y z)
  pub of_sph_coo : (lon lat : Float) → Remembers (from_sph_coo lon lat)
  -- of a NaN longitude the quarter is 0 and the modulo NaN
  pub nan_quarter : quarter_of nan ≡ 0
  pub nan_lon_mod : lon_mod_half_pi nan ≡ nan
  -- For every f64 in the turn, −0 and the NaN included, no quotient and no remainder is needed: the quarter is the number of its quarter turns, and the modulo what is
  -- left without them.
  pub by_order : (lon : Float) → T (fits binary64 lon) → InTurn lon → quarter_of lon ≡ quarter_turns lon
  pub by_difference : (lon : Float) → T (fits binary64 lon) → InTurn lon → lon ⊖ of_nat (quarter_of lon) ⊗ half_pi ≡ lon_mod_half_pi lon

abbrev pub Holds : Coo3D → ℕ → Float → Type 0
Holds p quarter lon_mod = (p.quarter ≡ quarter) × (p.lon_mod ≡ lon_mod)

pub record QuarterExamples : Type 0 where
  -- from angles: at the start of a quarter, and at longitude −0
  pub second : Holds (from_sph_coo half_pi plus_zero) 1 plus_zero
  pub minus_zero : Holds (from_sph_coo (neg plus_zero) plus_zero) 0 (neg plus_zero)
  -- from a vector: in the middle of the fourth quarter; and of a NaN
  pub fourth : Holds (from_vec3 one (neg one) plus_zero) 3 quarter_pi
  pub of_nan : Holds (from_vec3 nan one one) 0 nan
  -- from a longitude of 2π, which is out of range: the point's own is that of its vector, −0
  pub out_of_range : Holds (from_sph_coo two_pi plus_zero) 0 (neg plus_zero)
  -- 2π is not in the turn: its quarter is 4, and its quarter turns are counted to 3
  pub quarter_of_two_pi : quarter_of two_pi ≡ 4
  pub turns_of_two_pi : quarter_turns two_pi ≡ 3
  -- nor is −2: its quarter is 0, so that nothing is taken off, and its remainder is that of the size, with the sign
  pub quarter_of_minus_two : quarter_of (neg two) ≡ 0
  pub lon_mod_of_minus_two : lon_mod_half_pi (neg two) ≡ neg two ⊕ half_pi
