-- The quarter of a longitude, and the longitude within it (document 01, "Tempting mistakes"; the source's `div_eucl(FRAC_PI_2) as u8`). Definitions only.
use Rattle.std.specs.Float.{binary64}
use Rattle.std.specs.Float.Ieee.{rem, to_unsigned}
use Rattle.std.specs.Prelude.{ℕ, Float}
use Rattle.angles.specs.Floats.{◌⊘◌}
use Rattle.angles.specs.Constants.{half_pi}

-- the truncated rounded quotient lon / (π/2), NaN giving 0
unfoldable pub quarter_of : Float → ℕ
quarter_of lon = to_unsigned 8 (lon ⊘ half_pi)

-- the longitude modulo π/2, which is exact
unfoldable pub lon_mod_half_pi : Float → Float
lon_mod_half_pi lon = rem binary64 lon half_pi
