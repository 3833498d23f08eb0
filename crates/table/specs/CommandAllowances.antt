-- Document 01, "Walks": what two allowances have to do with one command, in two job files that are alike outside the operands of
-- code 02. Definitions and claims; `proofs/CommandAllowances.antt` proves them.
use Rattle.std.specs.Prelude.{eqb, get_or, ℕ, ◌≡◌, cond, List, [], ◌↔◌, false, None, Some}
use Rattle.plans.specs.PlanAllowances.{AllEqualOrEnd}
use Rattle.table.specs.States.{given_of, most_steps}
use Rattle.table.specs.Table.{row_of}
use Rattle.table.specs.Turns.{refusal_of, work_of, reply_of, after, walks_of}
use Rattle.table.specs.declared.state.State.{State}

-- states that differ at most in the allowance's value
pub record Like (s t : State) : Type 0 where
  pub same_given : given_of s ≡ given_of t

-- operands of one code, the same unless it is 02
abbrev pub LikeOperands : ℕ → List ℕ → List ℕ → Type 0
LikeOperands code b d = eqb code 2 ≡ false → b ≡ d

-- Refusals 6 to 9, what the command comes to, and the walks that begin are the same in both, and the states stay alike. The replies are equal if and only if,
-- for each walk that begins, the allowances are equal or it ends by itself within the smaller.
pub record CommandInTwo (s t : State) (code : ℕ) (b d : List ℕ) : Type 0 where
  pub same_refusal : refusal_of (row_of code) (given_of s) b ≡ refusal_of (row_of code) (given_of t) d
  pub same_work : work_of (row_of code) (given_of s) b ≡ work_of (row_of code) (given_of t) d
  pub same_walks : walks_of s code b ≡ walks_of t code d
  pub like_after : Like (after s code b) (after t code d)
  pub law :
      (reply_of s code b ≡ reply_of t code d) ↔ AllEqualOrEnd (most_steps s.allowance) (most_steps t.allowance) (walks_of s code b)

abbrev pub CommandAllowances : Type 0
CommandAllowances =
    (s t : State) (code : ℕ) (b d : List ℕ) → Like s t → LikeOperands code b d → CommandInTwo s t code b d

-- A command of code 02 sets the allowance to its operand, and no other command changes it.
abbrev pub AllowanceAfter : Type 0
AllowanceAfter =
    (s : State) (code : ℕ) (b : List ℕ) → (after s code b).allowance ≡ cond (eqb code 2) (Some (get_or b 0 0)) s.allowance

-- Without an allowance a command begins no walk.
abbrev pub NoneUnset : Type 0
NoneUnset = (s : State) (code : ℕ) (b : List ℕ) → s.allowance ≡ None → walks_of s code b ≡ []
