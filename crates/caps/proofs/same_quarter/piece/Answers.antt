-- The callees' contracts give the values in `quarter_piece`. A file, as an attribute takes no name of the logic's own, here `xor`.
use mathlib.Core.Bool.{xor}
use Rattle.caps.specs.SameQuarter.{quarter_piece}
use Rattle.caps.proofs.same_quarter.piece.Goals as goal

pub returns : goal.returns
unfolding quarter_piece xor
returns c =
    simp (
      ← c.mirrored-4.ensures,
      ← c.mirrored-3.ensures,
      ← c.mirrored-2.ensures,
      ← c.direction.ensures,
      ← c.cte_npc.ensures,
      ← c.new.ensures,
      ← c.mirrored.ensures,
      ← c.cone_center-center.ensures,
      ← c.from-2.ensures,
      ← c.from.ensures,
    )
