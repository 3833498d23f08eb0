-- Each pattern is the rounded number that its field names: both sides compute to the same float.
use lib.Ieee.{of_bits, of_int, mul, div, round}
use Rattle.std.proofs.Common.{refl}
use Rattle.bounds.specs.Constants.{Constants}

pub constants : Constants
unfolding of_bits of_int mul div round
constants =
    record {
      plus_zero_is = refl;
      one_is = refl;
      half_is = refl;
      two_is = refl;
      three_is = refl;
      four_is = refl;
      pi_is = refl;
      half_pi_is = refl;
      quarter_pi_is = refl;
      eighth_pi_is = refl;
      two_pi_is = refl;
      transition_z_is = refl;
      one_over_transition_z_is = refl;
      epsilon_is = refl;
      meridian_limit_is = refl;
      short_limit_is = refl;
      fiftieth_is = refl;
      least_limit_is = refl;
    }
