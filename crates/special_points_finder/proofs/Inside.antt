-- An arc inside the equatorial region has one slot that is worked out, by the vectors of its ends.
use lib.Ieee.{lt}
use Rattle.std.specs.Prelude.{ℕ, None, Ok, Float}
use mathlib.Core.Path.{◌≡◌, refl, sym, ap, ◌∙◌}
use mathlib.Core.Bool.{Bool, true, false, cond}
use Rattle.coo3d.specs.Points.{vect_of}
use Rattle.coo3d.specs.declared.point.Coo3D.{Coo3D}
use Rattle.coo3d.specs.declared.vect3.Vect3.{Vect3}
use Rattle.answers.specs.Bytes.{Slots}
use Rattle.answers.specs.declared.answer.Slot.{Slot}
use Rattle.plans.specs.Plans.{slot_at, cap_slots_at}
use Rattle.plans.specs.declared.plan.Plan.{Plan}
use Rattle.splits.specs.Splits.{split_into, lower_end, upper_end, split_of, inside_eqr}
use Rattle.splits.proofs.Inside.{one_piece_inside}
use Rattle.plans.specs.declared.plan.Plan.TheVariants.{NoWalk}
use Rattle.special_points_finder.specs.Equator.{SignsTold, arc_plan_in_eqr}
use Rattle.special_points_finder.proofs.ToldSigns.{no_walk_ordered}
use Rattle.special_points_finder.specs.Arcs.{plan_in_pc, plan_in_eqr, arc_plan, slots_at, arc_at}

abbrev around : ℕ → Float → Slot → Slots
around n precision s =
    record { south = cap_slots_at n (plan_in_pc None precision); equator = s; north = cap_slots_at n (plan_in_pc None precision) }

z_of : (p : Coo3D) → (vect_of p).z ≡ p.z
unfolding vect_of
z_of p = refl

module _ (n : ℕ) (precision : Float) (v1 v2 : Vect3) (p1 p2 : Coo3D) (e : vect_of p1 ≡ v1) (f : vect_of p2 ≡ v2) where
  z1 : p1.z ≡ v1.z
  z1 = sym (z_of p1) ∙ ap (λ (v : Vect3). v.z) e

  z2 : p2.z ≡ v2.z
  z2 = sym (z_of p2) ∙ ap (λ (v : Vect3). v.z) f

  one_slot : inside_eqr v1.z ≡ true → inside_eqr v2.z ≡ true
      → arc_at n (split_of p1 p2) precision
      ≡ Ok (around n precision (slot_at n (arc_plan_in_eqr (vect_of (lower_end p1 p2)) (vect_of (upper_end p1 p2)) precision)))
  unfolding arc_at arc_plan slots_at plan_in_eqr split_into
  one_slot h k = rw (one_piece_inside p1 p2 (rw z1 h) (rw z2 k)) refl

  -- by the vectors of the lower end and of the upper
  by_vectors : (b : Bool) → arc_plan_in_eqr (vect_of (cond b p2 p1)) (vect_of (cond b p1 p2)) precision ≡ arc_plan_in_eqr (cond b v2 v1) (cond b v1 v2) precision
  by_vectors true = rw (e, f) refl
  by_vectors false = rw (e, f) refl

  ordered : (b : Bool) → lt v2.z v1.z ≡ b
      → arc_plan_in_eqr (vect_of (lower_end p1 p2)) (vect_of (upper_end p1 p2)) precision ≡ arc_plan_in_eqr (cond b v2 v1) (cond b v1 v2) precision
  ordered b l =
      let test : lt p2.z p1.z ≡ b = rw (z1, z2) l in
      ap (λ (t : Bool). arc_plan_in_eqr (vect_of (cond t p2 p1)) (vect_of (cond t p1 p2)) precision) test ∙ by_vectors b

  pub inside : inside_eqr v1.z ≡ true → inside_eqr v2.z ≡ true → (b : Bool) → lt v2.z v1.z ≡ b
      → Ok (around n precision (slot_at n (arc_plan_in_eqr (cond b v2 v1) (cond b v1 v2) precision))) ≡ arc_at n (split_of p1 p2) precision
  inside h k b l = ap (λ (p : Plan). Ok (around n precision (slot_at n p))) (sym (ordered b l)) ∙ sym (one_slot h k)

  -- and where no walk is told, it is told of either order
  pub no_walk_inside : inside_eqr v1.z ≡ true → inside_eqr v2.z ≡ true → (told : ℕ) → SignsTold told v1 v2 → told ≡ 1
      → Ok (around n precision (slot_at n NoWalk)) ≡ arc_at n (split_of p1 p2) precision
  no_walk_inside h k told t is =
      let b = lt v2.z v1.z in
      ap (λ (p : Plan). Ok (around n precision (slot_at n p))) (sym (no_walk_ordered b v1 v2 precision told t is)) ∙ inside h k b refl
