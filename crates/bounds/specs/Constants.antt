-- The constants of angles/specs/Constants.antt are what the papers and the source write. The claim; `proofs/Constants.antt` proves it.
use Rattle.std.specs.Float.{binary64}
use Rattle.std.specs.Float.Ieee.{round}
use Rattle.std.specs.Prelude.{◌≡◌, ◌^◌, false}
use Rattle.angles.specs.Floats.{◌⊗◌, ◌⊘◌, of_nat, plus_zero, one}
use Rattle.angles.specs.Constants.{half, two, three, four, pi, half_pi, quarter_pi, eighth_pi, two_pi, transition_z, one_over_transition_z, epsilon, meridian_limit, short_limit, fiftieth, least_limit}

-- What each pattern stands for, those of `Floats` included. The decimals of π are those of Rust's `std::f64::consts::PI`.
pub record Constants : Type 0 where
  pub plus_zero_is : plus_zero ≡ of_nat 0
  pub one_is : one ≡ of_nat 1
  pub half_is : half ≡ one ⊘ of_nat 2
  pub two_is : two ≡ of_nat 2
  pub three_is : three ≡ of_nat 3
  pub four_is : four ≡ of_nat 4
  pub pi_is : pi ≡ round binary64 false 314159265358979323846264338327950288 (10 ^ 35)
  pub half_pi_is : half_pi ≡ one ⊘ of_nat 2 ⊗ pi
  pub quarter_pi_is : quarter_pi ≡ pi ⊘ of_nat 4
  pub eighth_pi_is : eighth_pi ≡ pi ⊘ of_nat 8
  pub two_pi_is : two_pi ≡ of_nat 2 ⊗ pi
  pub transition_z_is : transition_z ≡ of_nat 2 ⊘ of_nat 3
  pub one_over_transition_z_is : one_over_transition_z ≡ of_nat 3 ⊘ of_nat 2
  pub epsilon_is : epsilon ≡ round binary64 false 1 (2 ^ 52)
  pub meridian_limit_is : meridian_limit ≡ round binary64 false 1 (10 ^ 14)
  pub short_limit_is : short_limit ≡ pi ⊘ of_nat 648000
  pub fiftieth_is : fiftieth ≡ round binary64 false 2 (10 ^ 2)
  pub least_limit_is : least_limit ≡ round binary64 false 1 (10 ^ 15)
