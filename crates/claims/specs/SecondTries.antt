-- Document 02, ask 7, of what the finder replies: "Kind 2 no longer stands in slot three", as an answer and as its byte, and kinds 6 and 7 stand nowhere else.
-- (That caps and cones keep kind 2 is said by `pc_arc`, `eqr_cone` and `pc_cone` of plans.) Definitions and claims; `proofs/SecondTries.antt` proves them,
-- and specs/SecondTryExamples.antt has replies of either kind.
use Rattle.std.specs.Prelude.{get_or, ℕ, ◌≤◌, ◌≡◌, List, Result, Ok, Err}
use Rattle.answers.specs.Answers.{numbers_of}
use Rattle.answers.specs.declared.answer.Answer.{Answer}
use Rattle.table.specs.Table.{row_of}
use Rattle.table.specs.Turns.{turn_of, reply_of}
use Rattle.table.specs.declared.state.State.{State}
use Rattle.table.specs.declared.reply.Reply.{Reply}
use Rattle.table.specs.declared.reply.Reply.TheVariants.{Accepted, Slots, Cone, Crossing}
use Rattle.table.specs.declared.refusal.Refusal.{Refusal}

-- in slot three
unfoldable pub NeverKind2 : Answer → Type 0
NeverKind2 a = (numbers_of a).kind ≡ 2 → ⊥

-- in any other place
unfoldable pub Kind5OrLess : Answer → Type 0
Kind5OrLess a = (numbers_of a).kind ≤ 5

-- of each answer in a reply
unfoldable pub KindsInPlace : Result Reply Refusal → Type 0
KindsInPlace (Err refusal) = Unit
KindsInPlace (Ok Accepted) = Unit
KindsInPlace (Ok (Slots s)) =
    Kind5OrLess s.south.first.answer × Kind5OrLess s.south.second.answer × NeverKind2 s.equator.answer
    × Kind5OrLess s.north.first.answer × Kind5OrLess s.north.second.answer
KindsInPlace (Ok (Cone s)) = Kind5OrLess s.answer
KindsInPlace (Ok (Crossing a)) = Kind5OrLess a

-- Whatever the state, the code and the operands.
abbrev pub KindsReplied : Type 0
KindsReplied = (s : State) (code : ℕ) (b : List ℕ) → KindsInPlace (turn_of (row_of code) s b).reply

-- the kind of slot three in a reply to an arc, after code, status and two slots; 0 where the arc is refused
abbrev pub kind_byte : List ℕ → ℕ
kind_byte reply = get_or reply 38 0

abbrev pub KindBytes : Type 0
KindBytes = (s : State) (b : List ℕ) → kind_byte (reply_of s 3 b) ≡ 2 → ⊥
