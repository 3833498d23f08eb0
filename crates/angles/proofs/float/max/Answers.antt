-- Each return is the branch of `max_is` that the test chose.
use Rattle.angles.proofs.Floats.{max_is}
use Rattle.angles.proofs.float.max.Goals as goal

pub returns-then-is_nan-x : goal.returns-then-is_nan-x
returns-then-is_nan-x c = simp (← max_is c.args.x c.args.y, ← c.is_nan.ensures.value, c.if-is_nan-x.true)

pub returns-else-is_nan-x : goal.returns-else-is_nan-x
returns-else-is_nan-x c = simp (← max_is c.args.x c.args.y, ← c.is_nan.ensures.value, c.if-is_nan-x.false)
