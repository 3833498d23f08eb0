-- Each return is the branch of `min_is` that the test chose.
use Rattle.angles.proofs.Floats.{min_is}
use Rattle.angles.proofs.float.min.Goals as goal

pub returns-then-is_nan-y : goal.returns-then-is_nan-y
returns-then-is_nan-y c = simp (← min_is c.args.x c.args.y, ← c.is_nan.ensures.value, c.if-is_nan-y.true)

pub returns-else-is_nan-y : goal.returns-else-is_nan-y
returns-else-is_nan-y c = simp (← min_is c.args.x c.args.y, ← c.is_nan.ensures.value, c.if-is_nan-y.false)
