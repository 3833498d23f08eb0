-- The constants that the papers and the source name, as bit patterns. Definitions only; that each is what they write is a claim of the crate bounds.
use Rattle.std.specs.Prelude.{Float}
use Rattle.std.specs.Float.{binary64}
use Rattle.std.specs.Float.Ieee.{of_bits}

-- small numbers that the source writes
abbrev pub half : Float
half = of_bits binary64 0x3fe0_0000_0000_0000

abbrev pub two : Float
two = of_bits binary64 0x4000_0000_0000_0000

abbrev pub three : Float
three = of_bits binary64 0x4008_0000_0000_0000

abbrev pub four : Float
four = of_bits binary64 0x4010_0000_0000_0000

-- π, "the f64 constant"; π/2, π/4, π/8 and 2π
abbrev pub pi : Float
pi = of_bits binary64 0x4009_21fb_5444_2d18

abbrev pub half_pi : Float
half_pi = of_bits binary64 0x3ff9_21fb_5444_2d18

abbrev pub quarter_pi : Float
quarter_pi = of_bits binary64 0x3fe9_21fb_5444_2d18

abbrev pub eighth_pi : Float
eighth_pi = of_bits binary64 0x3fd9_21fb_5444_2d18

abbrev pub two_pi : Float
two_pi = of_bits binary64 0x4019_21fb_5444_2d18

-- T, "2/3 rounded", which the source calls TRANSITION_Z
abbrev pub transition_z : Float
transition_z = of_bits binary64 0x3fe5_5555_5555_5555

-- 1.5, which the source calls ONE_OVER_TRANSITION_Z
abbrev pub one_over_transition_z : Float
one_over_transition_z = of_bits binary64 0x3ff8_0000_0000_0000

-- 2⁻⁵², the source's f64::EPSILON
abbrev pub epsilon : Float
epsilon = of_bits binary64 0x3cb0_0000_0000_0000

-- the limit of the near-meridian rule ("Crossing a parallel")
abbrev pub meridian_limit : Float
meridian_limit = of_bits binary64 0x3d06_849b_86a1_2b9b

-- the limit of the short-arc rule, "π / 648000 radians, one division, which is one arcsecond" (document 02, ask 5)
abbrev pub short_limit : Float
short_limit = of_bits binary64 0x3ed4_55a5_b2ff_8f9d

-- 0.02 and 1e-15, in the limit of a walk ("Walks")
abbrev pub fiftieth : Float
fiftieth = of_bits binary64 0x3f94_7ae1_47ae_147b

abbrev pub least_limit : Float
least_limit = of_bits binary64 0x3cd2_03af_9ee7_5616
