-- Document 01, "Refusals", 10, of what the finder replies to a command. Definitions and the claim; `proofs/StatusTen.antt` proves it.
use Rattle.std.specs.Prelude.{get_or, ℕ, ◌≡◌, ◌↔◌, List, None}
use Rattle.splits.specs.Splits.{lower_end, upper_end, CrossingOfKind5}
use Rattle.table.specs.States.{given_of}
use Rattle.table.specs.Table.{first_end, second_end, row_of}
use Rattle.table.specs.Turns.{refusal_of, reply_of}
use Rattle.table.specs.declared.state.State.{State}

-- a reply is its code, its status, and what follows
abbrev pub status_byte : List ℕ → ℕ
status_byte reply = get_or reply 1 0

-- The command is an arc that none of 6 to 9 refuses, and a crossing with −T or T that is needed to split it is of kind 5.
pub record ArcAtKind5 (s : State) (code : ℕ) (b : List ℕ) : Type 0 where
  pub is_arc : code ≡ 3
  pub not_refused : refusal_of (row_of code) (given_of s) b ≡ None
  pub kind_5 : CrossingOfKind5 (lower_end (first_end b) (second_end b)) (upper_end (first_end b) (second_end b))

-- Whatever the state and the operands, the status is 10 if and only if that holds.
abbrev pub StatusTen : Type 0
StatusTen = (s : State) (code : ℕ) (b : List ℕ) → (status_byte (reply_of s code b) ≡ 10) ↔ ArcAtKind5 s code b
