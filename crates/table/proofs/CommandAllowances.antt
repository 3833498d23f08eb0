-- For every command, in two job files that are alike: the claims of specs/CommandAllowances.antt. Equal replies have equal bytes where the
-- steps stand, and equal steps tell; what a command comes to is the same in both.
use lib.Dec.{eqb}
use lib.ListN.{get_or}
use borrow.Author.Tests.{eqb-true}
use Prim.Native.Nat.{ℕ}
use mathlib.Core.Path.{◌≡◌, refl, ap}
use mathlib.Core.Bool.{Bool, true, false, cond, true≢false}
use mathlib.Core.List.{List, [], ◌∷◌}
use Rattle.std.specs.Prelude.{Option, None, Some, is_some}
use Rattle.table.specs.declared.refusal.Refusal.{Refusal}
use Rattle.words.specs.Words.{bytes, float_bytes}
use Rattle.answers.specs.Bytes.{height_bytes, walked_bytes, cone_bytes, slot_bytes, slots_bytes}
use Rattle.plans.specs.Plans.{slots_of, steps_of, walks_in, cap_slots_at}
use Rattle.special_points_finder.specs.Arcs.{slots_at}
use Rattle.plans.specs.PlanAllowances.{AllEqualOrEnd}
use Rattle.plans.proofs.PlanAllowances.{plans_allowances}
use Rattle.table.specs.States.{Given, given_of, most_steps, with_precision, with_allowance, Change, keeps, sets_precision, sets_allowance, changed}
use Rattle.table.specs.Rows.{five_slots, kind_steps_z, Work, refused, accepted, slots, cone, crossing}
use Rattle.table.specs.Table.{row_of, allowance}
use Rattle.table.specs.Turns.{finite_from, flags_from, in_range_from, first_failing, refusal_of, work_of, status_in, reply_in, plans_in, left_in, turn_of, answer_bytes, reply_bytes, reply_of, after, walks_of}
use Rattle.table.specs.Steps.{step_bytes}
use Rattle.table.specs.CommandAllowances.{Like, CommandInTwo, CommandAllowances, AllowanceAfter, NoneUnset}
use Rattle.table.specs.declared.state.State.{State}
use Rattle.table.proofs.Cases.{by_test, by_refusal}
use Rattle.table.proofs.Laws.{law, sets_an_allowance}

-- what a command comes to, run with two allowances
module _ (code a b : ℕ) where
  tells : (w : Work) → reply_bytes code (reply_in a w) ≡ reply_bytes code (reply_in b w) → AllEqualOrEnd a b (walks_in (plans_in w))
  unfolding reply_in plans_in walks_in AllEqualOrEnd slots_at cap_slots_at slots_of steps_of reply_bytes answer_bytes slots_bytes slot_bytes walked_bytes cone_bytes height_bytes float_bytes bytes
  tells (refused refusal) h = tt
  tells accepted h = tt
  tells (slots p) h =
      (plans_allowances (plans_in (slots p)) a b).steps_tell (ap (step_bytes five_slots) h)
  tells (cone p) h = (plans_allowances (p ∷ []) a b).steps_tell (ap (step_bytes kind_steps_z) h)
  tells (crossing x) h = tt

  same : (w : Work) → AllEqualOrEnd a b (walks_in (plans_in w)) → reply_in a w ≡ reply_in b w
  unfolding reply_in plans_in slots_at cap_slots_at slots_of
  same (refused refusal) m = refl
  same accepted m = refl
  same (slots p) m = let e = (plans_allowances (plans_in (slots p)) a b).law.1 m in cc
  same (cone p) m = let e = (plans_allowances (p ∷ []) a b).law.1 m in cc
  same (crossing x) m = refl

module _ (s t : State) (l : Like s t) where
  same_precision : s.precision ≡ t.precision
  unfolding given_of
  same_precision = ap (λ (g : Given). g.precision) l.same_given

  both_or_neither : is_some s.allowance ≡ is_some t.allowance
  unfolding given_of
  both_or_neither = ap (λ (g : Given). g.allowed) l.same_given

  like_changed : (c : Change) → Like (changed c s) (changed c t)
  unfolding changed with_precision with_allowance given_of
  like_changed keeps = l
  like_changed (sets_precision p) = record { same_given = rw both_or_neither refl }
  like_changed (sets_allowance n) = record { same_given = rw same_precision refl }

  like_left : (status : Bool) (u v : State) → Like u v → Like (cond status u s) (cond status v t)
  like_left true u v h = h
  like_left false u v h = l

  same_operands : (code : ℕ) (b : List ℕ) → CommandInTwo s t code b b
  unfolding reply_of after walks_of turn_of left_in
  same_operands code b =
      let r = row_of code in
      let w = work_of r (given_of s) b in
      let e : work_of r (given_of s) b ≡ work_of r (given_of t) b = ap (λ (g : Given). work_of r g b) l.same_given in
      record {
        same_refusal = ap (λ (g : Given). refusal_of r g b) l.same_given;
        same_work = e;
        same_walks = ap (λ (w : Work). walks_in (plans_in w)) e;
        like_after = rw (← e) (like_left (eqb (status_in w) 0) _ _ (like_changed (r.change b)));
        law = rw (← e) (
          tells code (most_steps s.allowance) (most_steps t.allowance) w,
          λ m. ap (reply_bytes code) (same code (most_steps s.allowance) (most_steps t.allowance) w m),
        );
      }

  two : (b d : List ℕ) → CommandInTwo s t 2 b d
  unfolding row_of allowance changed with_allowance given_of first_failing finite_from flags_from in_range_from refusal_of work_of status_in reply_in plans_in walks_in left_in turn_of reply_of after walks_of AllEqualOrEnd
  two b d =
      record {
        same_refusal = refl;
        same_work = refl;
        same_walks = refl;
        like_after = record { same_given = rw same_precision refl };
        law = (λ h. tt, λ m. refl);
      }

-- The law of two allowances, for every command.
pub command_allowances : CommandAllowances
command_allowances s t code b d l o = by (eqb code 2) refl
  where
    by : (x : Bool) → eqb code 2 ≡ x → CommandInTwo s t code b d
    by true e = rw (eqb-true code 2 e) (two s t l b d)
    by false e = rw (← o e) (same_operands s t l code b)

kept_by : (s : State) (c : Change) → sets_an_allowance c ≡ false → (changed c s).allowance ≡ s.allowance
unfolding changed with_precision
kept_by s keeps e = refl
kept_by s (sets_precision p) e = refl
kept_by s (sets_allowance n) e = absurd (true≢false e)

module _ (s : State) (code : ℕ) (b : List ℕ) where
  kept : eqb code 2 ≡ false → (after s code b).allowance ≡ s.allowance
  unfolding after turn_of left_in
  kept e =
      let r = row_of code in
      by_test (λ (x : State). x.allowance ≡ s.allowance) (eqb (status_in (work_of r (given_of s) b)) 0) {u = changed (r.change b) s} {v = s}
      (λ w. kept_by s (r.change b) ((law code).keeps_allowance e b))
      (λ w. refl)

set_by_two : (s : State) (b : List ℕ) → (after s 2 b).allowance ≡ Some (get_or b 0 0)
unfolding row_of allowance changed with_allowance first_failing finite_from flags_from in_range_from refusal_of work_of status_in left_in turn_of after
set_by_two s b = refl

-- What a command leaves of the allowance.
pub allowance_after : AllowanceAfter
allowance_after s code b =
    by_test (λ (a : Option ℕ). (after s code b).allowance ≡ a) (eqb code 2)
    (λ e. rw (eqb-true code 2 e) (set_by_two s b))
    (kept s code b)

not_allowed : (s : State) → s.allowance ≡ None → (given_of s).allowed ≡ false
unfolding given_of
not_allowed s u = rw u refl

-- what refuses by what is given comes first
needs_first : (needs : Option Refusal) (f g r : Bool) → first_failing needs f g r ≡ None → needs ≡ None
unfolding first_failing
needs_first None f g r h = refl
needs_first (Some refusal) f g r h = h

-- Without an allowance, no walk.
pub none_unset : NoneUnset
unfolding walks_of work_of walks_in plans_in refusal_of
none_unset s code b u =
    let r = row_of code in
    let g = given_of s in
    by_refusal (λ (w : Work). walks_in (plans_in w) ≡ []) (refusal_of r g b)
    (λ x. rw ((law code).settled g b (not_allowed s u) (needs_first (r.needs g) _ _ _ x)) refl)
    (λ x e. refl)
