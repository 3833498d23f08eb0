-- Document 01's starred examples of the root, and the pattern of a NaN, computed by antt.
use mathlib.Core.Path.{refl}
use lib.Ieee.{of_bits, to_bits, of_int, neg, round}
use Rattle.root.specs.Root.{root_of}
use Rattle.root_rule.specs.RootExamples.{RootExamples}

pub root_examples : RootExamples
unfolding root_of of_bits to_bits of_int neg round
root_examples = record { of_two = refl; of_four = refl; of_least = refl; of_minus_zero = refl; of_minus_one = refl; nan_written = refl }
