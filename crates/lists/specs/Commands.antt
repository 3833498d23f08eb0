-- A list of commands: the replies, in their order, and the walks that begin, each with its allowance. A job file is parsed into one such list. Definitions, and the
-- claim that ties this allowance to the settings; `proofs/Last.antt` proves it.
use Rattle.std.specs.Prelude.{eqb, get_or, ℕ, ◌≡◌, cond, List, [], ◌∷◌, ◌++◌, Option, None, Some}
use Rattle.newton.specs.declared.walk.Start.{Start}
use Rattle.table.specs.States.{unset, most_steps}
use Rattle.table.specs.Turns.{reply_of, after, walks_of}
use Rattle.table.specs.declared.state.State.{State}

pub record Command : Type 0 where
  pub code : ℕ
  pub operands : List ℕ

abbrev pub leaves : State → Command → State
leaves s c = after s c.code c.operands

-- each command gets the state that the one before left
abbrev pub replies_from : State → List Command → List ℕ
replies_from s [] = []
replies_from s (c ∷ cs) = reply_of s c.code c.operands ++ replies_from (leaves s c) cs

pub record Begun : Type 0 where
  pub walk : Start
  pub allowance : ℕ

-- the walks of one job, with one allowance
abbrev pub each_with : ℕ → List Start → List Begun
each_with n [] = []
each_with n (w ∷ ws) = record { walk = w; allowance = n } ∷ each_with n ws

-- "A walk's allowance is the operand of the last code 02 before its job" (document 01, "Walks"): `last` is that of the last one so far; where none came,
-- no walk begins (`AllowanceIsLast`)
abbrev pub last_after : Option ℕ → Command → Option ℕ
last_after last c = cond (eqb c.code 2) (Some (get_or c.operands 0 0)) last

-- in the order of the jobs
abbrev pub begun_from : Option ℕ → State → List Command → List Begun
begun_from last s [] = []
begun_from last s (c ∷ cs) =
    each_with (most_steps last) (walks_of s c.code c.operands) ++ begun_from (last_after last c) (leaves s c) cs

-- the walks alone
abbrev pub walks : List Begun → List Start
walks [] = []
walks (b ∷ bs) = b.walk ∷ walks bs

-- what commands leave of the state, and the operand of the last code 02 among them
abbrev pub left_by : State → List Command → State
left_by s [] = s
left_by s (c ∷ cs) = left_by (leaves s c) cs

abbrev pub last_of : Option ℕ → List Command → Option ℕ
last_of last [] = last
last_of last (c ∷ cs) = last_of (last_after last c) cs

-- The allowance that the commands before a job leave is the operand of the last code 02 among them; where there is none, the job
-- begins no walk.
pub record LastIsSet (cs : List Command) : Type 0 where
  pub left : (left_by unset cs).allowance ≡ last_of None cs
  pub none : last_of None cs ≡ None → (code : ℕ) (b : List ℕ) → walks_of (left_by unset cs) code b ≡ []

-- After any commands of a file.
abbrev pub AllowanceIsLast : Type 0
AllowanceIsLast = (cs : List Command) → LastIsSet cs
