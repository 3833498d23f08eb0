-- With the factorials and the literals computed, the code's numbers are those of `cosine_series`.
use lib.Ieee.{div, neg, of_int, of_bits}
use Rattle.angles.specs.Circular.{◌!, cosine_series}
use Rattle.angles.proofs.circular.cosine_series.Goals as goal

pub returns : goal.returns
unfolding cosine_series ◌! of_int of_bits div neg
returns c = c.horner.ensures
