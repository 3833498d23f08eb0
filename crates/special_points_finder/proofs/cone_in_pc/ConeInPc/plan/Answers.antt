-- The callees' contracts give the values in `cone_plan_in_pc`. A file, as an attribute takes no name of the logic's own, here `xor`.
use mathlib.Core.Bool.{xor}
use Rattle.special_points_finder.specs.Cones.{cone_plan_in_pc}
use Rattle.special_points_finder.proofs.cone_in_pc.ConeInPc.plan.Goals as goal

pub returns : goal.returns
unfolding cone_plan_in_pc xor
returns c =
    simp (
      ← c.mirrored-2.ensures,
      ← c.limit.ensures,
      ← c.direction.ensures,
      ← c.cte_npc.ensures,
      ← c.cone_of_radius.ensures,
      ← c.mirrored.ensures,
    )
