-- Two lists of commands that are alike but for the operands of code 02: the claim of specs/TwoLists.antt. In pairs, at states that stay alike: the
-- two replies to a pair have one length, so all replies are equal exactly if they are at each pair, and there the law of one command holds.
use lib.ListN.{length, take, drop}
use lib.Seq.{take-append_seam, drop-append_seam}
use Prim.Native.Nat.{ℕ}
use mathlib.Core.Path.{◌≡◌, refl, sym, ap₂, ◌∙◌}
use mathlib.Core.List.{List, [], ◌∷◌, ◌++◌}
use mathlib.Core.Logic.Iff
use mathlib.Core.Logic.{◌↔◌}
use Rattle.newton.specs.declared.walk.Start.{Start}
use Rattle.plans.specs.PlanAllowances.{AllEqualOrEnd}
use Rattle.table.specs.States.{most_steps}
use Rattle.table.specs.Turns.{after, reply_of, walks_of}
use Rattle.table.specs.CommandAllowances.{Like, CommandInTwo}
use Rattle.table.specs.declared.state.State.{State}
use Rattle.table.proofs.ReplyLengths.{length_reply}
use Rattle.table.proofs.CommandAllowances.{command_allowances}
use Rattle.lists.specs.Commands.{Command, replies_from, Begun, each_with, begun_from, walks}
use Rattle.lists.specs.TwoLists.{command, LikeCommands, none, one, EachEqualOrEnds, AllowancesOfTwoLists}
use Rattle.lists.proofs.Last.{last_after_lem}

-- two first parts, as long as each other
both_parts : (a b x y : List ℕ) → length a ≡ length b → (a ++ x ≡ b ++ y) ↔ ((a ≡ b) × (x ≡ y))
both_parts a b x y l = (
  λ e. (
    sym (take-append_seam a x) ∙ ap₂ take l e ∙ take-append_seam b y,
    sym (drop-append_seam a x) ∙ ap₂ drop l e ∙ drop-append_seam b y,
  ),
  λ e. ap₂ ◌++◌ e.0 e.1,
)

-- the walks of one job, before those of the rest
both_jobs : (a b : ℕ) (ws : List Start) (us vs : List Begun)
    → (AllEqualOrEnd a b ws × EachEqualOrEnds us vs) ↔ EachEqualOrEnds (each_with a ws ++ us) (each_with b ws ++ vs)
unfolding AllEqualOrEnd
both_jobs a b [] us vs = (λ h. h.1, λ h. (tt, h))
both_jobs a b (w ∷ ws) us vs =
    let k = both_jobs a b ws us vs in
    (λ h. (h.0.0, k.0 (h.0.1, h.1)), λ h. ((h.0, (k.1 h.1).0), (k.1 h.1).1))

walks_of_job : (n : ℕ) (ws : List Start) (us : List Begun) → walks (each_with n ws ++ us) ≡ ws ++ walks us
walks_of_job n [] us = refl
walks_of_job n (w ∷ ws) us = rw (walks_of_job n ws us)

-- the claim, of two lists of replies and the walks begun
record Law (a b : List ℕ) (us vs : List Begun) : Type 0 where
  same_walks : walks us ≡ walks vs
  law : (a ≡ b) ↔ EachEqualOrEnds us vs

-- one command more
module _ {s t : State} {code : ℕ} {b d : List ℕ} (k : CommandInTwo s t code b d) where
  same_size : length (reply_of s code b) ≡ length (reply_of t code d)
  same_size = length_reply s code b ∙ sym (length_reply t code d)

  first : {x y : List ℕ} {us vs : List Begun}
      → Law x y us vs
      → Law
      (reply_of s code b ++ x)
      (reply_of t code d ++ y)
      (each_with (most_steps s.allowance) (walks_of s code b) ++ us)
      (each_with (most_steps t.allowance) (walks_of t code d) ++ vs)
  first {x} {y} {us} {vs} rest =
      let each = both_jobs (most_steps s.allowance) (most_steps t.allowance) (walks_of s code b) us vs in
      let parts = both_parts (reply_of s code b) (reply_of t code d) x y same_size in
      rw (← k.same_walks)
      (record {
        same_walks = simp (walks_of_job, rest.same_walks);
        law = Iff.trans parts (Iff.trans (Iff.and k.law rest.law) each);
      })

nothing : Law [] [] [] []
nothing = record { same_walks = refl; law = (λ e. tt, λ e. refl) }

along : {s t : State} {cs ds : List Command}
    → Like s t
    → LikeCommands cs ds
    → Law (replies_from s cs) (replies_from t ds) (begun_from s.allowance s cs) (begun_from t.allowance t ds)
along l none = nothing
along {s} {t} l (one {code = code} {b = b} {d = d} o h) =
    let k = command_allowances s t code b d l o in
    rw (last_after_lem s (command code b), last_after_lem t (command code d)) (first k (along {s = after s code b} {t = after t code d} k.like_after h))

pub allowances_of_two_lists : AllowancesOfTwoLists
allowances_of_two_lists cs ds h =
    let l = along (record { same_given = refl }) h in record { same_walks = l.same_walks; law = l.law }
