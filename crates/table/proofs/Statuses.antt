-- The status byte of a reply: one of 6 to 9, or where none of them refuses, that of what the row comes to.
use Prim.Native.Nat.{ℕ, ◌≤◌, ◌<◌}
use native.Mathlib.Omega.{arith}
use mathlib.Core.Path.{◌≡◌, refl, sym, subst, ◌∙◌}
use mathlib.Core.Bool.{Bool, true, false}
use mathlib.Core.List.{List}
use Rattle.std.specs.Prelude.{Option, None, Some}
use Rattle.table.specs.States.{Given, given_of, most_steps}
use Rattle.table.specs.declared.refusal.Refusal.{Refusal}
use Rattle.table.specs.Rows.{Work, refused, accepted, slots, cone, crossing}
use Rattle.table.specs.Table.{row_of}
use Rattle.table.specs.Turns.{first_failing, GivenFirst, refusal_of, work_unless, work_of, status_in, reply_in, turn_of, status_of, reply_bytes, reply_of}
use Rattle.table.specs.StatusTen.{status_byte}
use Rattle.table.specs.declared.state.State.{State}
use Rattle.table.proofs.Cases.{number_or}
use Rattle.table.proofs.Laws.{law}

status_in_lem : (n : ℕ) (w : Work) → status_of (reply_in n w) ≡ status_in w
unfolding status_of reply_in status_in
status_in_lem n (refused refusal) = refl
status_in_lem n accepted = refl
status_in_lem n (slots plan) = refl
status_in_lem n (cone plan) = refl
status_in_lem n (crossing a) = refl

low : (needs : Option Refusal) (finite flags ranged : Bool) → number_or needs ≤ 9 → number_or (first_failing needs finite flags ranged) ≤ 9
unfolding first_failing
low (Some refusal) f g r l = l
low None false g r l = omega arith
low None true false r l = omega arith
low None true true false l = omega arith
low None true true true l = omega arith

low_refusal : (code : ℕ) (g : Given) (b : List ℕ) → number_or (refusal_of (row_of code) g b) ≤ 9
unfolding refusal_of
low_refusal code g b = low _ _ _ _ ((law code).low_needs g)

module _ (s : State) (code : ℕ) (b : List ℕ) where
  abbrev refusal : Option Refusal
  refusal = refusal_of (row_of code) (given_of s) b

  abbrev own : ℕ
  own = status_in ((row_of code).work (given_of s) b)

  status : status_byte (reply_of s code b) ≡ status_in (work_unless refusal ((row_of code).work (given_of s) b))
  unfolding reply_of turn_of reply_bytes work_of
  status = status_in_lem (most_steps s.allowance) (work_of (row_of code) (given_of s) b)

  pub of_own : refusal ≡ None → status_byte (reply_of s code b) ≡ own
  of_own n = status ∙ rw n refl

  pub past_nine : (n : ℕ) → 9 < n → status_byte (reply_of s code b) ≡ n → (refusal ≡ None) × (own ≡ n)
  unfolding status_in
  past_nine n l h = by refusal refl (sym status ∙ h)
    where
      by : (o : Option Refusal) → refusal ≡ o → status_in (work_unless o ((row_of code).work (given_of s) b)) ≡ n → (refusal ≡ None) × (own ≡ n)
      by None e k = (e, k)
      by (Some r) e k = let m : number_or (Some r) ≤ 9 = subst (λ o. number_or o ≤ 9) e (low_refusal code (given_of s) b) in absurd (omega arith)

pub given_first : GivenFirst
unfolding first_failing
given_first x f g r = refl
