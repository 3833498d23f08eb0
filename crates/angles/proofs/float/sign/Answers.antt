-- A NaN has no sign, and the sign that std reads off any other float is that of `sign_of`.
use mathlib.Core.Path.{sym, ◌∙◌}
use Rattle.angles.proofs.Floats.{sign_is, no_sign}
use Rattle.angles.proofs.float.sign.Goals as goal

pub returns-then-not-is_nan : goal.returns-then-not-is_nan
returns-then-not-is_nan c = c.is_sign_negative.ensures ∙ sign_is c.args.x

pub returns-else-not-is_nan : goal.returns-else-not-is_nan
returns-else-not-is_nan c = rw c.if-not-is_nan.false (no_sign c.args.x (sym c.if-not-is_nan.ensures.value))
