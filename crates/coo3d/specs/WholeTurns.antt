-- Document 02, ask 2: no longitude is a whole turn, and quarter numbers are 0 to 3. Claims and examples; `proofs/WholeTurns.antt` and
-- `proofs/TurnExamples.antt` prove them.
use Rattle.std.specs.Float.{nan, binary64}
use Rattle.std.specs.Float.Ieee.{neg, eq, fits}
use Rattle.std.specs.Prelude.{◌≡◌, ℕ, ◌<◌, false, T, from_bits, Float}
use Rattle.angles.specs.Floats.{◌⊗◌, of_nat, plus_zero, one}
use Rattle.angles.specs.Constants.{pi, half_pi, two_pi}
use Rattle.angles.specs.Inverse.{atan2_of}
use Rattle.coo3d.specs.LonLats.{lon_of, InTurn}
use Rattle.coo3d.specs.Points.{from_vec3, from_sph_coo}
use Rattle.coo3d.specs.Quarters.{quarter_of}

pub record WholeTurns : Type 0 where
  -- "at least 0 and below 2π, or NaN", whatever the floats
  pub longitude : (x y : Float) → InTurn (lon_of x y)
  -- the source's `lonlat_of` has a branch for an angle of exactly 2π; no angle is, so one definition serves both of its functions
  pub no_angle_of_a_turn : (y x : Float) → eq (atan2_of y x) two_pi ≡ false
  -- "Quarter numbers are then 0 to 3": of every f64 in the turn, and of every point that is made
  pub quarter : (lon : Float) → T (fits binary64 lon) → InTurn lon → quarter_of lon < 4
  pub quarter_of_vec3 : (x y z : Float) → quarter_of (from_vec3 x y z).lon < 4
  pub quarter_of_sph_coo : (lon lat : Float) → T (fits binary64 lon) → quarter_of (from_sph_coo lon lat).lon < 4
  -- every pattern is such a float
  pub each_fits : (w : ℕ) → T (fits binary64 (from_bits binary64 w))

-- the last f64 below 2π
abbrev pub last_of_turn : Float
last_of_turn = from_bits binary64 0x4019_21fb_5444_2d17

pub record TurnExamples : Type 0 where
  -- of x = 1: a y of −2⁻⁵⁰ is the whole step below 2π, −2⁻⁵¹ half of it, which comes to 2π, and so does −1e-300; the angle of the least y is −0, and that is no
  -- negative longitude
  pub a_step_below : lon_of one (neg (from_bits binary64 0x3cd0_0000_0000_0000)) ≡ last_of_turn
  pub half_a_step : lon_of one (neg (from_bits binary64 0x3cc0_0000_0000_0000)) ≡ plus_zero
  pub tiny : lon_of one (neg (from_bits binary64 0x01a5_6e1f_c2f8_f359)) ≡ plus_zero
  pub least : lon_of one (neg (from_bits binary64 1)) ≡ neg plus_zero
  pub minus_zero : lon_of one (neg plus_zero) ≡ neg plus_zero
  pub not_a_number : lon_of nan one ≡ nan
  -- each of the quarters, at its first f64; the last ends below 2π
  pub first : quarter_of plus_zero ≡ 0
  pub second : quarter_of half_pi ≡ 1
  pub third : quarter_of pi ≡ 2
  pub fourth : quarter_of (of_nat 3 ⊗ half_pi) ≡ 3
  pub at_the_end : quarter_of last_of_turn ≡ 3
