-- Examples of document 02, ask 4. Of 2 no digits are the exact root; the roots 2 and 2 ^ -537 have one digit, 3 and 3 / 2 two, the longest exact root
-- has 27; of a zero, a negative number, an infinity and NaN the count is 0. And each claim of specs/DigitsRule.antt at a value that meets what it asks. The
-- claim; `proofs/DigitsExamples.antt` proves it.
use Rattle.std.specs.Prelude.{◌≡◌, true, false, ℕ, ◌*◌, ◌^◌, pos, negsuc, Float}
use Rattle.std.specs.Float.{nan, inf, binary64}
use Rattle.std.specs.Float.Ieee.{of_int, neg, round}
use Rattle.root.specs.Root.{root_of}
use Rattle.root_rule.specs.Nearest.{two}
use Rattle.root.specs.RootDigits.{digits_of}
use Rattle.root_rule.specs.DigitsRule.{FewestDigits, CountOf, IsSquare, DigitsOfRoot}

abbrev pub nine : Float
nine = of_int binary64 (pos 9)

pub record DigitsExamples : Type 0 where
  pub of_two : digits_of two ≡ 53
  pub of_four : digits_of (of_int binary64 (pos 4)) ≡ 1
  pub of_nine : digits_of nine ≡ 2
  pub of_nine_quarters : digits_of (round binary64 false 9 4) ≡ 2
  pub of_least : digits_of (round binary64 false 1 (2 ^ 1074)) ≡ 1
  pub of_longest : digits_of (of_int binary64 (pos (94906265 * 94906265))) ≡ 27
  pub of_zero : digits_of (of_int binary64 (pos 0)) ≡ 0
  pub of_minus_zero : digits_of (neg (of_int binary64 (pos 0))) ≡ 0
  pub of_minus_four : digits_of (of_int binary64 (negsuc 3)) ≡ 0
  pub of_infinity : digits_of (inf false) ≡ 0
  pub of_minus_infinity : digits_of (inf true) ≡ 0
  pub of_nan : digits_of nan ≡ 0
  pub fewest_of_two : FewestDigits two 53
  pub fewest_of_nine : FewestDigits nine 2
  pub one_of_nine : (n : ℕ) → FewestDigits nine n → n ≡ 2
  pub count_of_nine : CountOf nine 2
  pub count_of_nan : CountOf nan 0
  pub inexact_of_two : IsSquare two (root_of two) → ⊥
  pub exact_of_nine : IsSquare nine (root_of nine) × DigitsOfRoot (root_of nine) 2
