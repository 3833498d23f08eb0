-- The pieces of an arc in a cap: the source's `arc_special_point_in_pc` up to its walks. The quarter of a point, and its longitude modulo π/2, are those that the
-- point holds (document 02, ask 8). Definitions only.
use Rattle.std.specs.Prelude.{Float, eqb, ℕ, ◌%◌, Bool, cond, not, ◌&&◌}
use Rattle.std.specs.Float.Ieee.{lt}
use Rattle.angles.specs.Floats.{◌⊖◌, plus_zero, one}
use Rattle.angles.specs.Constants.{pi}
use Rattle.coo3d.specs.Vectors.{vect, cross_of, normalized_of, opposite_of}
use Rattle.coo3d.specs.Points.{point_of, vect_of}
use Rattle.coo3d.specs.declared.regions.Cap.{Cap}
use Rattle.coo3d.specs.declared.vect3.Vect3.{Vect3}
use Rattle.coo3d.specs.declared.point.Coo3D.{Coo3D}
use Rattle.newton.specs.Slopes.{have_same_sign}
use Rattle.plans.specs.Plans.{cap_plan}
use Rattle.caps.specs.SameQuarter.{same_quarter_plan}
use Rattle.plans.specs.declared.plan.Plan.{Plan}
use Rattle.plans.specs.declared.plan.Plan.TheVariants.{NoPiece}

-- `intersect_point_pc`: where the arc in the plane with this normal meets the plane with the normal n, with the sign of the height z
unfoldable pub intersect_point_pc : Float → Vect3 → Vect3 → Coo3D
intersect_point_pc z normal n =
    let i = normalized_of (cross_of normal n) in
    cond (have_same_sign i.z z) (point_of i) (point_of (opposite_of i))

-- the plane at which an odd or an even quarter ends has the normal (0, 1, 0) or (1, 0, 0)
unfoldable pub quarter_end : Bool → Vect3
quarter_end odd = cond odd (vect plus_zero one plus_zero) (vect one plus_zero plus_zero)

unfoldable pub odd_quarter : ℕ → Bool
odd_quarter quarter = eqb (quarter % 2) 1

-- where the arc meets the end, and the start, of the quarter of p
unfoldable pub end_of_quarter : Float → Vect3 → Coo3D → Coo3D
end_of_quarter z normal p = intersect_point_pc z normal (quarter_end (odd_quarter p.quarter))

unfoldable pub start_of_quarter : Float → Vect3 → Coo3D → Coo3D
start_of_quarter z normal p = intersect_point_pc z normal (quarter_end (not (odd_quarter p.quarter)))

-- from p to the end of its quarter, unless p lies at its start
unfoldable pub piece_to_end : Float → Vect3 → Coo3D → Float → Plan
piece_to_end z normal p precision =
    cond (lt plus_zero p.lon_mod) (same_quarter_plan p (end_of_quarter z normal p) precision) NoPiece

-- the same, if the end has the larger longitude
unfoldable pub piece_to_larger_end : Float → Vect3 → Coo3D → Float → Plan
piece_to_larger_end z normal p precision =
    let end = end_of_quarter z normal p in
    cond (lt plus_zero p.lon_mod && lt p.lon end.lon) (same_quarter_plan p end precision) NoPiece

-- from the start of p's quarter to p, if the start has the smaller longitude
unfoldable pub piece_from_start : Float → Vect3 → Coo3D → Float → Plan
piece_from_start z normal p precision =
    let start = start_of_quarter z normal p in
    cond (lt start.lon p.lon) (same_quarter_plan start p precision) NoPiece

-- the arc crosses longitude 0
unfoldable pub plan_across_zero : Coo3D → Coo3D → Float → Cap Plan
plan_across_zero p1 p2 precision =
    let p2xp1 = normalized_of (cross_of (vect_of p2) (vect_of p1)) in
    cap_plan
    (same_quarter_plan (start_of_quarter p1.z p2xp1 p1) p1 precision)
    (piece_to_larger_end p1.z p2xp1 p2 precision)

-- it does not cross longitude 0
unfoldable pub plan_within_turn : Coo3D → Coo3D → Float → Cap Plan
plan_within_turn p1 p2 precision =
    let p1xp2 = normalized_of (cross_of (vect_of p1) (vect_of p2)) in
    cap_plan
    (piece_to_end p1.z p1xp2 p1 precision)
    (piece_from_start p1.z p1xp2 p2 precision)

-- a same-quarter arc uses the first slot
unfoldable pub ordered_plan_in_pc : Coo3D → Coo3D → Float → Cap Plan
ordered_plan_in_pc p1 p2 precision =
    cond (eqb p1.quarter p2.quarter)
    (cap_plan (same_quarter_plan p1 p2 precision) NoPiece)
    (cond (lt pi (p2.lon ⊖ p1.lon)) (plan_across_zero p1 p2 precision) (plan_within_turn p1 p2 precision))

-- the end of the smaller longitude comes first
unfoldable pub arc_plan_in_pc : Coo3D → Coo3D → Float → Cap Plan
arc_plan_in_pc p1 p2 precision =
    cond (lt p2.lon p1.lon) (ordered_plan_in_pc p2 p1 precision) (ordered_plan_in_pc p1 p2 precision)
