-- `KindsReplied` and `KindBytes` (specs/SecondTries.antt): each plan in a cap, and a cone's, ends in one of the source's kinds, and one in the equator is never of kind 2.
use Rattle.std.specs.Prelude.{Result, Ok, Err, Bool, eqb, ◌&&◌, Option, None, Some}
use Prim.Native.Nat.{ℕ}
use native.Mathlib.Omega.{arith}
use mathlib.Core.Path.{◌≡◌}
use lib.Ieee.{Float, lt, eq}
use Rattle.angles.specs.Floats.{◌⊖◌, plus_zero}
use Rattle.angles.specs.Constants.{pi}
use Rattle.coo3d.specs.Points.{from_sph_coo, vect_of}
use Rattle.coo3d.specs.declared.regions.Cap.{Cap}
use Rattle.coo3d.specs.declared.point.Coo3D.{Coo3D}
use Rattle.coo3d.specs.declared.vect3.Vect3.{Vect3}
use Rattle.crossing.specs.Parallels.{Crossing, strictly_between, intersect_parallel}
use Rattle.crossing.specs.GreatArcs.{great_arc}
use Rattle.crossing.specs.declared.great_arc.GreatArc.{GreatArc}
use Rattle.crossing.specs.declared.parallel.NoCrossing.TheVariants as crossing
use Rattle.newton.specs.Slopes.{have_same_sign, slope_at}
use Rattle.newton.specs.Regions.{slope_in_eqr, mirrored_of}
use Rattle.newton.specs.Walks.{walk_of}
use Rattle.newton.specs.declared.walk.Start.{Start}
use Rattle.answers.specs.Answers.{without_walk, crossed_of, second_try_of, kind_alone, numbers_of}
use Rattle.answers.specs.declared.answer.Answer.TheVariants as answer
use Rattle.plans.specs.Endings.{accepted_eqr, from_end_to_end, accepted_npc, second_try, eqr_arc, pc_arc, eqr_cone, pc_cone, answer_at}
use Rattle.plans.specs.Plans.{slot_at, cap_slots_at}
use Rattle.plans.specs.declared.ending.CapArc.{CapArc}
use Rattle.plans.specs.declared.ending.Ending.TheVariants.{EqrArc, PcArc, EqrCone, PcCone}
use Rattle.plans.specs.declared.plan.Plan.{Plan}
use Rattle.plans.specs.declared.plan.Plan.TheVariants.{NoPiece, NoWalk, Begins}
use Rattle.caps.specs.SameQuarter.{end_lon, quarter_piece, piece_plan, same_quarter_plan}
use Rattle.caps.specs.Caps.{end_of_quarter, start_of_quarter, piece_to_end, piece_to_larger_end, piece_from_start, plan_across_zero, plan_within_turn, ordered_plan_in_pc, arc_plan_in_pc}
use Rattle.splits.specs.Splits.{Pieces}
use Rattle.splits.specs.declared.split.Piece.{Piece}
use Rattle.special_points_finder.specs.Arcs.{plan_in_pc, plan_in_eqr, arc_plan, slots_at}
use Rattle.special_points_finder.specs.Equator.{arc_plan_in_eqr}
use Rattle.special_points_finder.specs.Cones.{cone_plan_in_eqr, cone_plan_in_pc}
use Rattle.table.specs.Table.{arc, row_of, answer_width}
use Rattle.table.specs.Turns.{turn_of, status_of, answer_bytes, reply_bytes, reply_of}
use Rattle.table.specs.declared.reply.Reply.{Reply}
use Rattle.table.specs.declared.reply.Reply.TheVariants as reply
use Rattle.table.specs.declared.refusal.Refusal.{Refusal}
use Rattle.words.specs.Words.{bytes, float_bytes}
use Rattle.answers.specs.Bytes.{height_bytes, walked_bytes, point_bytes, cone_bytes, slot_bytes, slots_bytes, crossing_bytes}
use Rattle.table.proofs.Cases.{by_test}
use Rattle.claims.proofs.Replies.{of_each_reply}
use Rattle.claims.specs.SecondTries.{NeverKind2, Kind5OrLess, KindsInPlace, KindsReplied, kind_byte, KindBytes}

-- ---- an answer
crossed : (c : Crossing) → Kind5OrLess (crossed_of c)
unfolding Kind5OrLess crossed_of numbers_of kind_alone
crossed (Ok v) = omega arith
crossed (Err crossing.NotBetween) = omega arith
crossed (Err crossing.NoRoot) = omega arith

crossed_at_equator : (c : Crossing) → NeverKind2 (crossed_of c)
unfolding NeverKind2 crossed_of numbers_of kind_alone
crossed_at_equator (Ok v) h = omega arith
crossed_at_equator (Err crossing.NotBetween) h = omega arith
crossed_at_equator (Err crossing.NoRoot) h = omega arith

on_second_try : (c : Crossing) → NeverKind2 (second_try_of (crossed_of c))
unfolding NeverKind2 second_try_of crossed_of numbers_of kind_alone
on_second_try (Ok v) h = omega arith
on_second_try (Err crossing.NotBetween) h = omega arith
on_second_try (Err crossing.NoRoot) h = omega arith

rejected : Kind5OrLess answer.Rejected
unfolding Kind5OrLess numbers_of kind_alone
rejected = omega arith

height : (z : Float) → Kind5OrLess (answer.Height z)
unfolding Kind5OrLess numbers_of kind_alone
height z = omega arith

-- ---- a plan
abbrev InCap : Plan → Type 0
InCap p = (n : ℕ) → Kind5OrLess (slot_at n p).answer

no_piece : InCap NoPiece
unfolding Kind5OrLess slot_at without_walk numbers_of kind_alone
no_piece n = omega arith

no_walk : InCap NoWalk
unfolding Kind5OrLess slot_at without_walk numbers_of kind_alone
no_walk n = omega arith

cap_arc : (a : CapArc) (z : Float) → Kind5OrLess (pc_arc a z)
unfolding pc_arc
cap_arc a z =
    by_test Kind5OrLess (accepted_npc z && strictly_between a.z1 z a.z2)
    (λ e. crossed (intersect_parallel a.p1 a.p2 (mirrored_of a.south z)))
    (λ e. rejected)

walked : (s : Start) (a : CapArc) → InCap (Begins s (PcArc a))
unfolding slot_at answer_at
walked s a n = cap_arc a (walk_of s n).z

of_same_quarter : (p1 p2 : Coo3D) (precision : Float) → InCap (same_quarter_plan p1 p2 precision)
unfolding same_quarter_plan piece_plan
of_same_quarter p1 p2 precision =
    let v1 = from_sph_coo p1.lon_mod p1.lat in
    let v2 = from_sph_coo (end_lon p2.lon_mod) p2.lat in
    let q = quarter_piece v1 v2 in
    by_test InCap (eq p1.lon p2.lon) (λ e. no_walk)
    (λ e. by_test InCap (have_same_sign (slope_at q.slope q.z1) (slope_at q.slope q.z2)) (λ f. no_walk) (λ f. walked _ _))

to_end : (z : Float) (normal : Vect3) (p : Coo3D) (precision : Float) → InCap (piece_to_end z normal p precision)
unfolding piece_to_end
to_end z normal p precision = by_test InCap (lt plus_zero p.lon_mod) (λ e. of_same_quarter p _ precision) (λ e. no_piece)

to_larger_end : (z : Float) (normal : Vect3) (p : Coo3D) (precision : Float) → InCap (piece_to_larger_end z normal p precision)
unfolding piece_to_larger_end
to_larger_end z normal p precision =
    by_test InCap (lt plus_zero p.lon_mod && lt p.lon (end_of_quarter z normal p).lon) (λ e. of_same_quarter p _ precision) (λ e. no_piece)

from_start : (z : Float) (normal : Vect3) (p : Coo3D) (precision : Float) → InCap (piece_from_start z normal p precision)
unfolding piece_from_start
from_start z normal p precision = by_test InCap (lt (start_of_quarter z normal p).lon p.lon) (λ e. of_same_quarter _ p precision) (λ e. no_piece)

abbrev BothInCap : Cap Plan → Type 0
BothInCap c = InCap c.first × InCap c.second

of_ordered : (p1 p2 : Coo3D) (precision : Float) → BothInCap (ordered_plan_in_pc p1 p2 precision)
unfolding ordered_plan_in_pc plan_across_zero plan_within_turn
of_ordered p1 p2 precision =
    by_test BothInCap (eqb p1.quarter p2.quarter)
    (λ e. (of_same_quarter p1 p2 precision, no_piece))
    (λ e. by_test BothInCap (lt pi (p2.lon ⊖ p1.lon))
    (λ e. (of_same_quarter _ p1 precision, to_larger_end _ _ p2 precision))
    (λ e. (to_end _ _ p1 precision, from_start _ _ p2 precision)))

of_pc : (o : Option Piece) (precision : Float) → BothInCap (plan_in_pc o precision)
unfolding plan_in_pc arc_plan_in_pc
of_pc None precision = (no_piece, no_piece)
of_pc (Some p) precision =
    by_test BothInCap (lt p.to.lon p.from.lon) (λ e. of_ordered p.to p.from precision) (λ e. of_ordered p.from p.to precision)

-- ---- slot three
abbrev AtEquator : Plan → Type 0
AtEquator p = (n : ℕ) → NeverKind2 (slot_at n p).answer

no_piece_at_equator : AtEquator NoPiece
unfolding NeverKind2 slot_at without_walk numbers_of kind_alone
no_piece_at_equator n h = omega arith

no_walk_at_equator : AtEquator NoWalk
unfolding NeverKind2 slot_at without_walk numbers_of kind_alone
no_walk_at_equator n h = omega arith

walked_at_equator : (s : Start) (a : GreatArc) → AtEquator (Begins s (EqrArc a))
unfolding slot_at answer_at eqr_arc second_try
walked_at_equator s a n =
    let z = (walk_of s n).z in
    by_test NeverKind2 (accepted_eqr z && from_end_to_end a.p1.z z a.p2.z) (λ p. crossed_at_equator _) (λ p. on_second_try _)

of_eqr : (o : Option Piece) (precision : Float) → AtEquator (plan_in_eqr o precision)
unfolding plan_in_eqr arc_plan_in_eqr
of_eqr None precision = no_piece_at_equator
of_eqr (Some p) precision =
    let v1 = vect_of p.from in
    let v2 = vect_of p.to in
    let slope = slope_in_eqr (great_arc v1 v2).normal.z in
    by_test AtEquator (have_same_sign (slope_at slope v1.z) (slope_at slope v2.z)) (λ e. no_walk_at_equator) (λ e. walked_at_equator _ _)

-- ---- a cone
cone_in_eqr : (s : Start) → InCap (Begins s EqrCone)
unfolding slot_at answer_at eqr_cone
cone_in_eqr s n = by_test Kind5OrLess (accepted_eqr (walk_of s n).z) (λ e. height _) (λ e. rejected)

cone_in_pc : (s : Start) (south : Bool) → InCap (Begins s (PcCone south))
unfolding slot_at answer_at pc_cone
cone_in_pc s south n = by_test Kind5OrLess (accepted_npc (walk_of s n).z) (λ e. height _) (λ e. rejected)

-- ---- a reply
of_slots : (n : ℕ) (r : Pieces) (p : Float) → KindsInPlace (Ok (reply.Slots (slots_at n (arc_plan r p))))
unfolding KindsInPlace slots_at arc_plan cap_slots_at
of_slots n r p =
    let south = of_pc r.south p in
    let north = of_pc r.north p in
    (south.0 n, south.1 n, of_eqr r.equator p n, north.0 n, north.1 n)

pub kinds_replied : KindsReplied
unfolding KindsInPlace Kind5OrLess numbers_of kind_alone cone_plan_in_eqr cone_plan_in_pc
kinds_replied =
    of_each_reply KindsInPlace
    (record {
      of_refused = λ e. tt;
      of_setting = tt;
      of_slots = of_slots;
      of_cone_in_eqr = λ n z z0 radius north p. cone_in_eqr _ n;
      of_cone_in_pc = λ n z lon z0 radius east north p. cone_in_pc _ _ n;
      of_crossing = crossed;
      of_nowhere = omega arith;
    })

-- ---- its bytes
of_bytes : (r : Result Reply Refusal) → KindsInPlace r → kind_byte (reply_bytes 3 r) ≡ 2 → ⊥
unfolding KindsInPlace NeverKind2 reply_bytes status_of answer_bytes answer_width row_of arc slots_bytes slot_bytes walked_bytes cone_bytes height_bytes crossing_bytes point_bytes float_bytes bytes
of_bytes (Err refusal) k h = omega arith
of_bytes (Ok reply.Accepted) k h = omega arith
of_bytes (Ok (reply.Slots s)) k h = k.2 h
of_bytes (Ok (reply.Cone s)) k h = omega arith
of_bytes (Ok (reply.Crossing a)) k h = omega arith

pub kind_bytes : KindBytes
unfolding reply_of
kind_bytes s b = of_bytes (turn_of (row_of 3) s b).reply (kinds_replied s 3 b)
