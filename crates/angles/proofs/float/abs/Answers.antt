-- What std clears of its sign is `abs_of`.
use mathlib.Core.Path.{◌∙◌}
use Rattle.angles.proofs.Floats.{abs_is}
use Rattle.angles.proofs.float.abs.Goals as goal

pub returns : goal.returns
returns c = c.abs.ensures.value ∙ abs_is c.args.x
