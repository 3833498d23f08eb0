-- `TurnExamples` (specs/WholeTurns.antt), computed.
use Rattle.std.proofs.Common.{refl}
use lib.Ieee.{of_bits, of_int, neg, lt, le, eq, add, sub, mul, div, to_unsigned}
use Rattle.root.specs.Root.{root_of}
use Rattle.angles.specs.Floats.{finite_of, abs_of, sign_of, signed_of}
use Rattle.angles.specs.Inverse.{atan2_of, reflected_of, first_quadrant, arctangent_of, half_angle, horner}
use Rattle.coo3d.specs.LonLats.{lon_of}
use Rattle.coo3d.specs.Quarters.{quarter_of}
use Rattle.coo3d.specs.WholeTurns.{TurnExamples}

pub turn_examples : TurnExamples
unfolding lon_of atan2_of signed_of reflected_of first_quadrant arctangent_of half_angle horner root_of finite_of abs_of sign_of of_bits of_int neg lt le eq add sub mul div to_unsigned quarter_of
turn_examples =
    record {
      a_step_below = refl;
      half_a_step = refl;
      tiny = refl;
      least = refl;
      minus_zero = refl;
      not_a_number = refl;
      first = refl;
      second = refl;
      third = refl;
      fourth = refl;
      at_the_end = refl;
    }
