-- Document 02, ask 7, a second try at the equator: "halve from z1 and z2 exactly 60 times". Definitions only.
use Rattle.std.specs.Prelude.{Float, ℕ, zero, suc, cond}
use Rattle.angles.specs.Floats.{◌⊕◌, ◌⊗◌}
use Rattle.angles.specs.Constants.{half}
use Rattle.newton.specs.Slopes.{have_same_sign, slope_at}
use Rattle.newton.specs.declared.slope.Slope.{Slope}
use Rattle.newton.specs.declared.halving.Heights.{Heights}

abbrev pub heights : Float → Float → Heights
heights z1 z2 = record { z1 = z1; z2 = z2 }

-- "The middle, half the sum"
unfoldable pub middle_of : Heights → Float
middle_of h = half ⊗ (h.z1 ⊕ h.z2)

-- it "replaces z1 if its slope has the same sign as the slope at the z1 the halving began with, by the existing sign rule, else z2"; that slope is first
unfoldable pub halved_of : Slope → Float → Heights → Heights
halved_of slope first h =
    let z = middle_of h in cond (have_same_sign (slope_at slope z) first) (heights z h.z2) (heights h.z1 z)

-- after so many halvings
unfoldable pub halvings : Slope → Float → ℕ → Heights → Heights
halvings slope first zero h = h
halvings slope first (suc n) h = halved_of slope first (halvings slope first n h)

-- "The last middle": the sixtieth, so that of the heights after 59; which of them it would replace makes no difference
unfoldable pub last_middle : Slope → Heights → Float
last_middle slope h = middle_of (halvings slope (slope_at slope h.z1) 59 h)
