-- A pattern past an infinity's is a NaN's; any other stands for itself.
use mathlib.Core.Path.{sym, ◌∙◌}
use Rattle.std.proofs.lemmas.Float.{not_nan_f64_bits}
use Rattle.root.proofs.Nan.{nan_pattern}
use Rattle.root.proofs.patterns.float_of.Goals as goal

pub float_from_bits-result : goal.float_from_bits-result
float_from_bits-result c = not_nan_f64_bits _ c.if-bits-gt-INFINITY.false

pub returns-then-bits-gt-INFINITY : goal.returns-then-bits-gt-INFINITY
returns-then-bits-gt-INFINITY c = c.not_a_number.ensures ∙ sym (nan_pattern c.args.bits c.if-bits-gt-INFINITY.true)
