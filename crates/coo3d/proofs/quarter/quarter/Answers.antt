-- In the turn the quarter turns are the quarter.
use mathlib.Core.Path.{sym, ◌∙◌}
use Rattle.coo3d.proofs.QuarterTurns.{by_order}
use Rattle.coo3d.proofs.quarter.quarter.Goals as goal

pub returns : goal.returns
returns c = c.quarter_turns.ensures ∙ sym (by_order c.args.lon (rw c.well_formed.0.1 tt) c.requires)
