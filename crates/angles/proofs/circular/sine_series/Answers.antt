-- With the factorials and the literals computed, the code's numbers are those of `sine_series`.
use lib.Ieee.{div, neg, of_int, of_bits}
use Rattle.angles.specs.Circular.{◌!, sine_series}
use Rattle.angles.proofs.circular.sine_series.Goals as goal

pub returns : goal.returns
unfolding sine_series ◌! of_int of_bits div neg
returns c = simp (← c.horner-s.ensures)
