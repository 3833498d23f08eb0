-- The constant's pattern is a NaN's.
use lib.Ieee.{of_bits}
use mathlib.Core.Path.{refl}
use Rattle.root.proofs.patterns.not_a_number.Goals as goal

pub returns : goal.returns
unfolding of_bits
returns c = refl
