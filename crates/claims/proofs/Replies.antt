-- What holds of every reply, by what a command comes to: for a claim about each of them.
use Rattle.std.specs.Prelude.{Bool, Result, Ok, Err}
use Prim.Native.Nat.{ℕ}
use mathlib.Core.List.{List}
use lib.Ieee.{Float}
use Rattle.coo3d.specs.declared.vect3.Vect3.{Vect3}
use Rattle.crossing.specs.Parallels.{Crossing}
use Rattle.two_arcs.specs.TwoArcs.{intersect_arcs}
use Rattle.two_arcs.specs.declared.meeting.NoMeeting.{NoMeeting}
use Rattle.two_arcs.specs.declared.meeting.NoMeeting.TheVariants.{Nowhere, NoCandidate}
use Rattle.answers.specs.Answers.{crossed_of}
use Rattle.answers.specs.declared.answer.Answer.TheVariants.{NoRoot}
use Rattle.plans.specs.Plans.{slot_at}
use Rattle.splits.specs.Splits.{Pieces, Split, split_of}
use Rattle.special_points_finder.specs.Arcs.{arc_plan, slots_at}
use Rattle.special_points_finder.specs.Cones.{cone_plan_in_eqr, cone_plan_in_pc}
use Rattle.table.specs.States.{Given, given_of, precision_in, most_steps}
use Rattle.table.specs.Rows.{Row, Work}
use Rattle.table.specs.Table.{first_end, second_end, first_arc, second_arc, arc_work, meeting_work, end, precision, allowance, arc, cone_in_eqr, cone_in_pc, parallel, two_arcs, row_of}
use Rattle.table.specs.Turns.{refusal_of, work_of, reply_in, turn_of}
use Rattle.table.specs.declared.state.State.{State}
use Rattle.table.specs.declared.reply.Reply.{Reply}
use Rattle.table.specs.declared.reply.Reply.TheVariants as reply
use Rattle.table.specs.declared.refusal.Refusal.{Refusal}
use Rattle.table.proofs.Cases.{by_row, by_refusal}

-- what is to be shown, of a refused command, a setting, an arc, each cone, a parallel and two arcs that cross nowhere
pub record OfEachWork (R : Result Reply Refusal → Type 0) : Type 0 where
  pub of_refused : (e : Refusal) → R (Err e)
  pub of_setting : R (Ok reply.Accepted)
  pub of_slots : (n : ℕ) (r : Pieces) (p : Float) → R (Ok (reply.Slots (slots_at n (arc_plan r p))))
  pub of_cone_in_eqr : (n : ℕ) (z z0 radius : Float) (north : Bool) (p : Float) → R (Ok (reply.Cone (slot_at n (cone_plan_in_eqr z z0 radius north p))))
  pub of_cone_in_pc :
      (n : ℕ) (z lon z0 radius : Float) (east north : Bool) (p : Float)
      → R (Ok (reply.Cone (slot_at n (cone_plan_in_pc z lon z0 radius east north p))))
  pub of_crossing : (c : Crossing) → R (Ok (reply.Crossing (crossed_of c)))
  pub of_nowhere : R (Ok (reply.Crossing NoRoot))

module _ (R : Result Reply Refusal → Type 0) (k : OfEachWork R) where
  -- ---- a row
  abbrev OfRow : Row → Type 0
  OfRow r = (n : ℕ) (g : Given) (b : List ℕ) → R (reply_in n (r.work g b))

  of_split : (n : ℕ) (s : Split) (p : Float) → R (reply_in n (arc_work s p))
  unfolding arc_work reply_in
  of_split n (Ok r) p = k.of_slots n r p
  of_split n (Err e) p = k.of_refused _

  of_end : OfRow end
  unfolding reply_in
  of_end n g b = k.of_setting

  of_precision_lem : OfRow precision
  unfolding precision reply_in
  of_precision_lem n g b = k.of_setting

  of_allowance_lem : OfRow allowance
  unfolding allowance reply_in
  of_allowance_lem n g b = k.of_setting

  of_arc : OfRow arc
  unfolding arc
  of_arc n g b = of_split n (split_of (first_end b) (second_end b)) (precision_in g)

  of_cone_in_eqr_lem : OfRow cone_in_eqr
  unfolding cone_in_eqr reply_in
  of_cone_in_eqr_lem n g b = k.of_cone_in_eqr n _ _ _ _ _

  of_cone_in_pc_lem : OfRow cone_in_pc
  unfolding cone_in_pc reply_in
  of_cone_in_pc_lem n g b = k.of_cone_in_pc n _ _ _ _ _ _ _

  of_parallel : OfRow parallel
  unfolding parallel reply_in
  of_parallel n g b = k.of_crossing _

  of_meeting : (n : ℕ) (m : Result Vect3 NoMeeting) → R (reply_in n (meeting_work m))
  unfolding meeting_work reply_in
  of_meeting n (Ok v) = k.of_crossing (Ok v)
  of_meeting n (Err Nowhere) = k.of_nowhere
  of_meeting n (Err NoCandidate) = k.of_refused _

  of_two_arcs : OfRow two_arcs
  unfolding two_arcs
  of_two_arcs n g b = of_meeting n (intersect_arcs (first_arc b) (second_arc b))

  -- ---- a reply
  of_work : (n : ℕ) (r : Row) → OfRow r → (g : Given) (b : List ℕ) → R (reply_in n (work_of r g b))
  unfolding work_of reply_in
  of_work n r h g b = by_refusal (λ (w : Work). R (reply_in n w)) (refusal_of r g b) (λ e. h n g b) (λ x e. k.of_refused x)

  pub of_each_reply : (s : State) (code : ℕ) (b : List ℕ) → R (turn_of (row_of code) s b).reply
  unfolding turn_of
  of_each_reply s code b =
      of_work (most_steps s.allowance) (row_of code)
      (by_row (λ (n : ℕ) (r : Row). OfRow r)
      (of_end, (of_precision_lem, (of_allowance_lem, (of_arc, (of_cone_in_eqr_lem, (of_cone_in_pc_lem, (of_parallel, (of_two_arcs, tt))))))))
      (λ n. of_end) code)
      (given_of s) b
