-- The constants of the slopes in the two regions, in the source's names, the slope of an arc in the equatorial one, and the south cap seen as the north one.
-- Definitions only.
use Rattle.std.specs.Prelude.{Float, Bool, cond}
use Rattle.std.specs.Float.Ieee.{neg, lt}
use Rattle.angles.specs.Floats.{◌⊗◌, plus_zero, one}
use Rattle.angles.specs.Constants.{one_over_transition_z, quarter_pi, eighth_pi}
use Rattle.newton.specs.Slopes.{cone_of, equatorial}
use Rattle.newton.specs.declared.slope.Slope.{Slope}

-- cte in the equatorial region, for the north point and for the south
unfoldable pub cte_eqr : Bool → Float
cte_eqr north = cond north (neg one_over_transition_z ⊗ quarter_pi) (one_over_transition_z ⊗ quarter_pi)

-- the slope of a great circle in the equatorial region: z0 is the height of its normal, r is 0
unfoldable pub slope_in_eqr : Float → Slope
slope_in_eqr z0 = equatorial (cone_of z0 plus_zero) (cte_eqr (lt z0 plus_zero))

-- cte in the north cap
unfoldable pub cte_npc : Bool → Float
cte_npc north = cond north (neg eighth_pi) eighth_pi

unfoldable pub direction_of : Bool → Float
direction_of east = cond east one (neg one)

-- the south cap is searched as the north one, with every height negated
unfoldable pub mirrored_of : Bool → Float → Float
mirrored_of south z = cond south (neg z) z
