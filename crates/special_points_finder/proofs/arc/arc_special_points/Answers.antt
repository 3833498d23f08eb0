-- Of the pieces' ends, those that are ends of the arc are points of angles as both of these are.
use mathlib.Core.Path.{sym, ◌∙◌}
use Rattle.std.proofs.lemmas.Result.{IfOk-at_ok}
use Rattle.coo3d.specs.TurnedBack.{OfAngles}
use Rattle.splits.specs.OwnEnds.{OwnEnds}
use Rattle.splits.proofs.OwnEnds.{own_ends}
use Rattle.special_points_finder.proofs.arc.arc_special_points.Goals as goal

pub slots-requires : goal.slots-requires
slots-requires c =
    IfOk-at_ok (OwnEnds OfAngles) (sym c.split_arc.ensures ∙ c.in_ok-pieces.was)
    (own_ends OfAngles c.args.p1 c.args.p2 c.requires.0 c.requires.1)
