-- The pattern is at most that of +infinity, so half of it can be taken off, and what is left is no NaN's.
use native.Mathlib.Omega.{arith}
use Rattle.std.proofs.lemmas.Float.{not_nan_f64_bits}
use Rattle.newton.proofs.signs.inverse_root.Goals as goal

pub float_from_bits-y : goal.float_from_bits-y
float_from_bits-y c = not_nan_f64_bits _ (omega arith)
