-- `LongitudesReplied` (specs/Longitudes.antt): a point is found by a crossing alone, and its longitude is that of a vector (crate coo3d).
use Rattle.std.specs.Prelude.{Ok, Err}
use Prim.Native.Nat.{ℕ}
use mathlib.Core.Bool.{Bool, cond, ◌&&◌}
use lib.Ieee.{Float}
use Rattle.coo3d.specs.LonLats.{lon_lat_of}
use Rattle.coo3d.proofs.WholeTurns.{whole_turns}
use Rattle.crossing.specs.Parallels.{Crossing, strictly_between, crossing_of, intersect_parallel}
use Rattle.crossing.specs.declared.parallel.NoCrossing.TheVariants as crossing
use Rattle.newton.specs.Walks.{walk_of}
use Rattle.newton.specs.Regions.{mirrored_of}
use Rattle.answers.specs.Answers.{without_walk, crossed_of, second_try_of}
use Rattle.answers.specs.declared.answer.Answer.{Answer}
use Rattle.answers.specs.declared.answer.Answer.TheVariants.{Rejected, Height}
use Rattle.plans.specs.Endings.{accepted_eqr, accepted_npc, from_end_to_end, second_try, eqr_arc, pc_arc, eqr_cone, pc_cone, answer_at}
use Rattle.plans.specs.Plans.{slot_at, cap_slots_at}
use Rattle.plans.specs.declared.ending.Ending.{Ending}
use Rattle.plans.specs.declared.ending.Ending.TheVariants.{EqrArc, PcArc, EqrCone, PcCone}
use Rattle.plans.specs.declared.plan.Plan.{Plan}
use Rattle.plans.specs.declared.plan.Plan.TheVariants.{NoPiece, NoWalk, Begins}
use Rattle.splits.specs.Splits.{Pieces}
use Rattle.special_points_finder.specs.Arcs.{arc_plan, slots_at}
use Rattle.table.specs.declared.reply.Reply.TheVariants.{Slots}
use Rattle.table.specs.Table.{arc}
use Rattle.table.proofs.Cases.{by_test}
use Rattle.claims.proofs.Replies.{of_each_reply}
use Rattle.claims.specs.Longitudes.{FoundInTurn, RepliedInTurn, LongitudesReplied}

-- ---- an answer
of_crossing : (c : Crossing) → FoundInTurn (crossed_of c)
unfolding FoundInTurn crossed_of lon_lat_of
of_crossing (Ok v) = whole_turns.longitude v.x v.y
of_crossing (Err crossing.NotBetween) = tt
of_crossing (Err crossing.NoRoot) = tt

on_second_try : (c : Crossing) → FoundInTurn (second_try_of (crossed_of c))
unfolding FoundInTurn second_try_of crossed_of lon_lat_of
on_second_try (Ok v) = whole_turns.longitude v.x v.y
on_second_try (Err crossing.NotBetween) = tt
on_second_try (Err crossing.NoRoot) = tt

unless_rejected : (b : Bool) (a : Answer) → FoundInTurn a → FoundInTurn (cond b a Rejected)
unfolding FoundInTurn
unless_rejected b a h = by_test FoundInTurn b (λ e. h) (λ e. tt)

of_height : (z : Float) → FoundInTurn (Height z)
unfolding FoundInTurn
of_height z = tt

of_ending : (e : Ending) (z : Float) → FoundInTurn (answer_at e z)
unfolding answer_at second_try eqr_arc pc_arc eqr_cone pc_cone
of_ending (EqrArc arc) z =
    by_test FoundInTurn (accepted_eqr z && from_end_to_end arc.p1.z z arc.p2.z)
    (λ e. of_crossing (crossing_of arc z))
    (λ e. on_second_try (crossing_of arc _))
of_ending (PcArc arc) z =
    unless_rejected (accepted_npc z && strictly_between arc.z1 z arc.z2) _
    (of_crossing (intersect_parallel arc.p1 arc.p2 (mirrored_of arc.south z)))
of_ending EqrCone z = unless_rejected (accepted_eqr z) _ (of_height z)
of_ending (PcCone south) z = unless_rejected (accepted_npc z) _ (of_height (mirrored_of south z))

of_plan : (n : ℕ) (p : Plan) → FoundInTurn (slot_at n p).answer
unfolding FoundInTurn slot_at without_walk
of_plan n NoPiece = tt
of_plan n NoWalk = tt
of_plan n (Begins start ending) = of_ending ending (walk_of start n).z

-- ---- a reply
of_slots : (n : ℕ) (r : Pieces) (p : Float) → RepliedInTurn (Ok (Slots (slots_at n (arc_plan r p))))
unfolding RepliedInTurn slots_at cap_slots_at
of_slots n r p = (of_plan n _, of_plan n _, of_plan n _, of_plan n _, of_plan n _)

pub longitudes_replied : LongitudesReplied
unfolding FoundInTurn RepliedInTurn
longitudes_replied =
    of_each_reply RepliedInTurn
    (record {
      of_refused = λ e. tt;
      of_setting = tt;
      of_slots = of_slots;
      of_cone_in_eqr = λ n z z0 radius north p. of_plan n _;
      of_cone_in_pc = λ n z lon z0 radius east north p. of_plan n _;
      of_crossing = of_crossing;
      of_nowhere = tt;
    })
