-- Document 01, "Refusals", 10: the split of an arc at −T and T, before any walk, by the cases of the source's `arc_special_points`. Definitions and
-- claims.
use Rattle.std.specs.Prelude.{Float, ◌≡◌, ◌⊎◌, ◌↔◌, Bool, true, false, cond, not, ◌&&◌, Option, None, Some, option_map, unwrap_or, Result, Ok, Err}
use Rattle.std.specs.Float.Ieee.{neg, lt, le}
use Rattle.angles.specs.Floats.{plus_zero}
use Rattle.angles.specs.Constants.{transition_z}
use Rattle.bounds.specs.Ranges.{is_number}
use Rattle.coo3d.specs.Points.{point_of, vect_of}
use Rattle.coo3d.specs.declared.point.Coo3D.{Coo3D}
use Rattle.coo3d.specs.declared.regions.Regions.{Regions}
use Rattle.crossing.specs.GreatArcs.{great_arc}
use Rattle.crossing.specs.Parallels.{Crossing, rule_of, crossing_by, intersect_parallel}
use Rattle.crossing.specs.declared.great_arc.GreatArc.{GreatArc}
use Rattle.crossing.specs.declared.parallel.Rule.{Rule}
use Rattle.crossing.specs.declared.parallel.NoCrossing.TheVariants as crossing
use Rattle.splits.specs.declared.split.Piece.{Piece}
use Rattle.splits.specs.declared.split.Unsplit.{Unsplit}

-- of each region its piece, if there is one; or the arc can't be split
abbrev pub Pieces : Type 0
Pieces = Regions (Option Piece) (Option Piece)

abbrev pub unsplit : Unsplit
unsplit = record {}

abbrev pub Split : Type 0
Split = Result Pieces Unsplit

abbrev pub piece : Coo3D → Coo3D → Piece
piece p q = record { from = p; to = q }

unfoldable pub split_into : Option Piece → Option Piece → Option Piece → Pieces
split_into south equator north = record { south = south; equator = equator; north = north }

-- where an arc is cut, if it has to be
abbrev pub Cut : Type 0
Cut = Result (Option Coo3D) Unsplit

-- at the crossing; it can't be split at kind 5, nor at kind 4 (Rust's `unwrap`)
unfoldable pub cut_of : Crossing → Cut
cut_of (Ok v) = Ok (Some (point_of v))
cut_of (Err e) = Err unsplit

-- a crossing is tried only where it is needed to split the arc
unfoldable pub cut_by : Bool → GreatArc → Rule → Float → Cut
cut_by needed arc rule z = cond needed (cut_of (crossing_by arc rule z)) (Ok None)

-- the pieces from p1 up to p2, cut at these points: from p1 to the lower, between both, and from the upper to p2
unfoldable pub pieces_at : Coo3D → Option Coo3D → Option Coo3D → Coo3D → Pieces
pieces_at p1 lower upper p2 =
    split_into
    (option_map (λ v. piece p1 v) lower)
    (Some (piece (unwrap_or lower p1) (unwrap_or upper p2)))
    (option_map (λ v. piece v p2) upper)

unfoldable pub split_at_cuts : Coo3D → Cut → Cut → Coo3D → Split
split_at_cuts p1 (Ok lower) (Ok upper) p2 = Ok (pieces_at p1 lower upper p2)
split_at_cuts p1 (Ok lower) (Err e) p2 = Err e
split_at_cuts p1 (Err e) upper p2 = Err e

-- an arc of several regions is cut at −T where p1 lies below it, and at T unless p1 lies below −T and p2 at or below T
abbrev pub from_south : Coo3D → Bool
from_south p1 = lt p1.z (neg transition_z)

abbrev pub to_north : Coo3D → Coo3D → Bool
to_north p1 p2 = not (from_south p1 && le p2.z transition_z)

unfoldable pub split_at_transitions : Coo3D → Coo3D → Split
split_at_transitions p1 p2 =
    let arc = great_arc (vect_of p1) (vect_of p2) in
    let lower = cut_by (from_south p1) arc (rule_of arc) (neg transition_z) in
    let upper = cut_by (to_north p1 p2) arc (rule_of arc) transition_z in
    split_at_cuts p1 lower upper p2

-- one region only, or several
abbrev pub in_north : Coo3D → Bool
in_north p1 = le transition_z p1.z

abbrev pub in_south : Coo3D → Bool
in_south p2 = le p2.z (neg transition_z)

abbrev pub in_equator : Coo3D → Coo3D → Bool
in_equator p1 p2 = le (neg transition_z) p1.z && le p2.z transition_z

unfoldable pub split_ordered : Coo3D → Coo3D → Split
split_ordered p1 p2 =
    let all = Some (piece p1 p2) in
    cond (in_north p1) (Ok (split_into None None all))
    (cond (in_south p2) (Ok (split_into all None None))
    (cond (in_equator p1 p2) (Ok (split_into None all None))
    (split_at_transitions p1 p2)))

-- the lower end comes first
unfoldable pub split_of : Coo3D → Coo3D → Split
split_of p1 p2 = cond (lt p2.z p1.z) (split_ordered p2 p1) (split_ordered p1 p2)

-- A height inside the equatorial region, strictly between −T and T. Document 02, ask 8: of an arc with both ends there no points are made. (That a walk's height is accepted there says the
-- same of another height: `accepted_eqr` in plans.)
unfoldable pub inside_eqr : Float → Bool
inside_eqr z = lt (neg transition_z) z && lt z transition_z

-- the ends from the lower one up
abbrev pub lower_end : Coo3D → Coo3D → Coo3D
lower_end p1 p2 = cond (lt p2.z p1.z) p2 p1

abbrev pub upper_end : Coo3D → Coo3D → Coo3D
upper_end p1 p2 = cond (lt p2.z p1.z) p1 p2

-- With both ends inside the equatorial region an arc is one piece there. `proofs/Inside.antt` proves it.
abbrev pub OnePieceInside : Type 0
OnePieceInside =
    (p1 p2 : Coo3D) → inside_eqr p1.z ≡ true → inside_eqr p2.z ≡ true
    → split_of p1 p2 ≡ Ok (split_into None (Some (piece (lower_end p1 p2) (upper_end p1 p2))) None)

pub record InsideExamples : Type 0 where
  -- the equator is inside, T is not; and an arc along the parallel at T is one piece in the north
  pub equator : inside_eqr plus_zero ≡ true
  pub transition : inside_eqr transition_z ≡ false
  pub along_transition : (p1 p2 : Coo3D) → p1.z ≡ transition_z → p2.z ≡ transition_z → split_of p1 p2 ≡ Ok (split_into None None (Some (piece p1 p2)))

-- The crossing with the parallel at z, of the arc from p1 up to p2, is needed to split it, as z lies strictly between their heights; and it is of kind 5.
pub record NeededOfKind5 (z : Float) (p1 p2 : Coo3D) : Type 0 where
  pub above_p1 : lt p1.z z ≡ true
  pub below_p2 : lt z p2.z ≡ true
  pub of_kind_5 : intersect_parallel (vect_of p1) (vect_of p2) z ≡ Err crossing.NoRoot

-- "An arc's crossing with −T or T, needed to split it, is of kind 5", from p1 up to p2
abbrev pub CrossingOfKind5 : Coo3D → Coo3D → Type 0
CrossingOfKind5 p1 p2 = NeededOfKind5 (neg transition_z) p1 p2 ⊎ NeededOfKind5 transition_z p1 p2

-- A split fails on this condition, and on no other, where both heights are numbers; those of ends in range are (`HeightInRange` of coo3d).
-- `proofs/Splits.antt` proves it.
abbrev pub FailsAtKind5 : Type 0
FailsAtKind5 = (p1 p2 : Coo3D) → is_number p1.z → is_number p2.z → (split_of p1 p2 ≡ Err unsplit) ↔ CrossingOfKind5 (lower_end p1 p2) (upper_end p1 p2)
