-- The digits of each value are computed by antt; the claims are applied.
use mathlib.Core.Path.{refl}
use lib.Dec.{lit≤}
use lib.Ieee.{of_int, neg, round, fits, nan}
use Rattle.root_rule.specs.Nearest.{two}
use Rattle.root.specs.RootDigits.{digits_of}
use Rattle.root_rule.specs.DigitsExamples.{nine, DigitsExamples}
use Rattle.root_rule.proofs.DigitsRule.{digits_fewest, one_fewest, digits_counted, digits_exact, digits_inexact}

pub digits_examples : DigitsExamples
unfolding digits_of of_int neg round fits
digits_examples =
    record {
      of_two = refl;
      of_four = refl;
      of_nine = refl;
      of_nine_quarters = refl;
      of_least = refl;
      of_longest = refl;
      of_zero = refl;
      of_minus_zero = refl;
      of_minus_four = refl;
      of_infinity = refl;
      of_minus_infinity = refl;
      of_nan = refl;
      fewest_of_two = digits_fewest two tt tt;
      fewest_of_nine = digits_fewest nine tt tt;
      one_of_nine = λ n. one_fewest nine n tt tt;
      count_of_nine = digits_counted nine tt;
      count_of_nan = digits_counted nan tt;
      inexact_of_two = digits_inexact two tt refl;
      exact_of_nine = digits_exact nine tt (lit≤ tt) (lit≤ tt);
    }
