-- Signs of slopes in the equatorial region by the order of floats, without a root: what an answer says. Definitions, and examples of signs;
-- `proofs/SignsByOrder.antt` proves them. What the code asks for an answer is in `specs/Sides.antt`, and no one need believe that.
use Rattle.std.specs.Float.Ieee.{neg}
use Rattle.std.specs.Prelude.{◌≡◌, ℕ, Bool, true, false, Float}
use Rattle.root.specs.Root.{root_of}
use Rattle.angles.specs.Floats.{◌⊕◌, ◌⊗◌, ◌⊘◌, plus_zero, abs_of}
use Rattle.angles.specs.Constants.{half}
use Rattle.newton.specs.Slopes.{have_same_sign, slope_at}
use Rattle.newton.specs.Regions.{slope_in_eqr}

-- whether the slopes at z1 and z2 of the great circle whose normal has the height z0 have the same sign
abbrev pub same_sign_at : Float → Float → Float → Bool
same_sign_at z0 z1 z2 = let slope = slope_in_eqr z0 in have_same_sign (slope_at slope z1) (slope_at slope z2)

-- What an answer says of a vector with the squared norm s and a height of cz's size: 1, the slopes at z1 and z2 of the great circle with this normal have the same
-- sign; 2, they have not; any other number says nothing. The sign of the height makes no difference, so the ends of an arc may come in either order.
pub record Told (told : ℕ) (s cz z1 z2 : Float) : Type 0 where
  pub same : told ≡ 1 → (c : Float) → abs_of c ≡ abs_of cz → same_sign_at (c ⊘ root_of s) z1 z2 ≡ true
  pub differ : told ≡ 2 → (c : Float) → abs_of c ≡ abs_of cz → same_sign_at (c ⊘ root_of s) z1 z2 ≡ false

abbrev three_quarters : Float
three_quarters = half ⊕ half ⊗ half

-- of a normal of the height 3/4: at 1/2 and −1/2 the same sign, at 0 and 1/2 not
pub record SignsExamples : Type 0 where
  pub same : same_sign_at three_quarters half (neg half) ≡ true
  pub differ : same_sign_at three_quarters plus_zero half ≡ false
