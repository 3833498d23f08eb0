-- What std calls finite is `finite_of`.
use mathlib.Core.Path.{◌∙◌}
use Rattle.angles.proofs.Floats.{finite_is}
use Rattle.angles.proofs.float.is_finite.Goals as goal

pub returns : goal.returns
returns c = c.is_finite.ensures.value ∙ finite_is c.args.x
