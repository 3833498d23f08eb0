-- The contract of `half_angle` gives t as `arctangent_of` replaces it, twice; with the literals computed, the code's numbers are those that it names.
use lib.Ieee.{div, neg, of_int, of_bits}
use Rattle.angles.specs.Inverse.{arctangent_of}
use Rattle.angles.proofs.inverse.arctangent.Goals as goal

pub returns : goal.returns
unfolding arctangent_of of_int of_bits div neg
returns c = simp (← c.horner-s.ensures, ← c.half_angle-t.ensures, ← c.half_angle.ensures)
