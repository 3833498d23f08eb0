-- Document 01, "Examples": "Root of 2 is 3FF6A09E667F3BCD; of 4 is 2; of 2⁻¹⁰⁷⁴ is 2⁻⁵³⁷; of −0 is −0; of −1 NaN." And "Jobs
-- and replies": "A NaN is written 7FF8000000000000." The claim; `proofs/RootExamples.antt`
-- proves it.
use Rattle.std.specs.Prelude.{◌≡◌, pos, negsuc, ◌^◌, false}
use Rattle.std.specs.Float.{nan, binary64}
use Rattle.std.specs.Float.Ieee.{of_int, of_bits, to_bits, neg, round}
use Rattle.root.specs.Root.{root_of}

pub record RootExamples : Type 0 where
  pub of_two : root_of (of_int binary64 (pos 2)) ≡ of_bits binary64 0x3ff6_a09e_667f_3bcd
  pub of_four : root_of (of_int binary64 (pos 4)) ≡ of_int binary64 (pos 2)
  pub of_least : root_of (round binary64 false 1 (2 ^ 1074)) ≡ round binary64 false 1 (2 ^ 537)
  pub of_minus_zero : root_of (neg (of_int binary64 (pos 0))) ≡ neg (of_int binary64 (pos 0))
  pub of_minus_one : root_of (of_int binary64 (negsuc 0)) ≡ nan
  pub nan_written : to_bits binary64 nan ≡ 0x7ff8_0000_0000_0000
