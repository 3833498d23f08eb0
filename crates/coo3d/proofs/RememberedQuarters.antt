-- The claims of specs/RememberedQuarters.antt: both makers give a point of `coo3_d`, and the examples are computed.
use Rattle.std.proofs.Common.{◌&&◌, refl}
use lib.Ieee.{Float, of_bits, of_int, neg, lt, le, eq, ne, add, sub, mul, div, rem, to_unsigned}
use Rattle.root.specs.Root.{root_of}
use Rattle.angles.specs.Floats.{finite_of, abs_of, sign_of, signed_of}
use Rattle.angles.specs.Circular.{sin_cos_of, quarter_turns, turned_by, signed_sine, within_quarter_turn, sine_series, cosine_series, ◌! }
use Rattle.angles.specs.Inverse.{atan2_of, reflected_of, first_quadrant, arctangent_of, half_angle, horner}
use Rattle.coo3d.specs.LonLats.{is_longitude, is_latitude, lon_of, lat_of, lon_lat_of, vec3_of}
use Rattle.coo3d.specs.Points.{from_vec3, from_sph_coo}
use Rattle.coo3d.specs.Quarters.{quarter_of, lon_mod_half_pi}
use Rattle.coo3d.specs.RememberedQuarters.{Remembers, RememberedQuarters, QuarterExamples}
use Rattle.coo3d.proofs.Heights.{either_point}
use Rattle.coo3d.proofs.QuarterTurns.{by_order, by_difference}

by_vec3 : (x y z : Float) → Remembers (from_vec3 x y z)
unfolding from_vec3
by_vec3 x y z = (refl, refl)

pub remembered_quarters : RememberedQuarters
unfolding from_sph_coo quarter_of lon_mod_half_pi to_unsigned div rem
remembered_quarters =
    record {
      of_vec3 = by_vec3;
      of_sph_coo = λ lon lat. either_point Remembers (is_longitude lon && is_latitude lat) _ _ (refl, refl) (by_vec3 _ _ _);
      nan_quarter = refl;
      nan_lon_mod = refl;
      by_order = by_order;
      by_difference = by_difference;
    }

pub quarter_examples : QuarterExamples
unfolding from_vec3 from_sph_coo vec3_of lon_lat_of lon_of lat_of is_longitude is_latitude sin_cos_of quarter_turns turned_by signed_sine within_quarter_turn sine_series cosine_series ◌! atan2_of signed_of reflected_of first_quadrant arctangent_of half_angle horner root_of finite_of abs_of sign_of of_bits of_int neg lt le eq ne add sub mul div rem to_unsigned quarter_of lon_mod_half_pi
quarter_examples =
    record {
      second = (refl, refl);
      minus_zero = (refl, refl);
      fourth = (refl, refl);
      of_nan = (refl, refl);
      out_of_range = (refl, refl);
      quarter_of_two_pi = refl;
      turns_of_two_pi = refl;
      quarter_of_minus_two = refl;
      lon_mod_of_minus_two = refl;
    }
