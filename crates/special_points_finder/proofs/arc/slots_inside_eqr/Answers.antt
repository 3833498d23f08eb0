-- Where no walk is told, it is told of either order of the ends; else the order of the heights tells which end is the lower one.
use mathlib.Core.Bool.{true, false}
use Rattle.plans.specs.Plans.{slot_at}
use Rattle.special_points_finder.proofs.Inside.{inside, no_walk_inside}
use Rattle.special_points_finder.proofs.arc.slots_inside_eqr.Goals as goal
use Rattle.special_points_finder.proofs.arc.slots_inside_eqr.Goals.{then-signs_told-eq1, else-signs_told-eq1+else-v1-v2, else-signs_told-eq1+then-v1-v2}

pub returns : goal.returns
unfolding slot_at
returns c p1 p2 e f =
    let a = c.args in
    let h = c.requires in
    let slot = inside a.settings.allowance a.settings.precision a.v1 a.v2 p1 p2 e f h.0 h.1 in
    simp (c.no_slots.ensures a.settings.allowance a.settings.precision, c.no_slots-2.ensures a.settings.allowance a.settings.precision)
    (elim c.if-signs_told-eq1.branch [
      | then-signs_told-eq1 w ↦
          simp (w.equator-is, w.without_walk-equator.ensures)
          (no_walk_inside a.settings.allowance a.settings.precision a.v1 a.v2 p1 p2 e f h.0 h.1 c.signs_told.result c.signs_told.ensures w.if-signs_told-eq1.true)
      | else-signs_told-eq1+then-v1-v2 w ↦ simp (w.equator-is, w.arc_special_point_in_eqr.ensures) (slot true w.if-v1-v2.true)
      | else-signs_told-eq1+else-v1-v2 w ↦ simp (w.equator-is, w.arc_special_point_in_eqr-else-v1-v2.ensures) (slot false w.if-v1-v2.false)
    ])
