-- Where the signs are told, they are those of the definition's slopes; else the callees' contracts give the values in `arc_plan_in_eqr`.
use mathlib.Core.Path.{sym, refl}
use Rattle.special_points_finder.proofs.ToldSigns.{told_same, told_different, no_walk, walk}
use Rattle.special_points_finder.proofs.equator.arc_plan_in_eqr.Goals as goal
use Rattle.special_points_finder.proofs.equator.arc_plan_in_eqr.Goals.{else-told-ne2-via-then-told-ne2+else-have_same_sign, else-told-ne2-via-else-told-ne2}

pub returns-then-told-eq1 : goal.returns-then-told-eq1
returns-then-told-eq1 c =
    let a = c.args in sym (no_walk a.p1 a.p2 a.precision (told_same a.p1 a.p2 c.signs_told-told.result c.signs_told-told.ensures c.if-told-eq1.true))

pub returns-then-have_same_sign : goal.returns-then-have_same_sign
returns-then-have_same_sign c =
    let a = c.args in
    sym
    (no_walk a.p1 a.p2 a.precision
    (simp (← c.new-arc.ensures, ← c.slope_in_eqr-s.ensures, ← c.slope.ensures, ← c.slope-then-told-ne2.ensures, ← c.have_same_sign.ensures) c.if-have_same_sign.true))

pub returns : goal.returns
returns c =
    let a = c.args in
    rw
    (walk a.p1 a.p2 a.precision
    (elim c.else-told-ne2.branch [
      | else-told-ne2-via-then-told-ne2+else-have_same_sign w ↦
          simp (← c.new-arc.ensures, ← c.slope_in_eqr-s.ensures, ← w.slope.ensures, ← w.slope-then-told-ne2.ensures, ← w.have_same_sign.ensures) w.if-have_same_sign.false
      | else-told-ne2-via-else-told-ne2 w ↦ told_different a.p1 a.p2 c.signs_told-told.result c.signs_told-told.ensures w.if-told-ne2.false
    ]))
    (simp (c.new-arc.ensures, c.slope_in_eqr-s.ensures, c.limit.ensures, c.abs.ensures) refl)
