-- Document 02, ask 2, of what the finder replies: the longitude of a point that is found is at least 0 and below 2π, or NaN. It is said of each answer, whose bits
-- `answer_bytes` (table) then writes. Definitions and the claim; `proofs/Longitudes.antt` proves it.
use Rattle.std.specs.Prelude.{ℕ, List, Result, Ok, Err}
use Rattle.coo3d.specs.LonLats.{InTurn}
use Rattle.answers.specs.declared.answer.Answer.{Answer}
use Rattle.answers.specs.declared.answer.Answer.TheVariants.{NoPiece, NoWalk, Rejected, Found, Height, NotBetween, NoRoot, FoundByHalving, NoneByHalving}
use Rattle.table.specs.Table.{row_of}
use Rattle.table.specs.Turns.{turn_of}
use Rattle.table.specs.declared.state.State.{State}
use Rattle.table.specs.declared.reply.Reply.{Reply}
use Rattle.table.specs.declared.reply.Reply.TheVariants.{Accepted, Slots, Cone, Crossing}
use Rattle.table.specs.declared.refusal.Refusal.{Refusal}

-- of an answer; one that is no point has no longitude
unfoldable pub FoundInTurn : Answer → Type 0
FoundInTurn NoPiece = Unit
FoundInTurn NoWalk = Unit
FoundInTurn Rejected = Unit
FoundInTurn (Found lon lat) = InTurn lon
FoundInTurn (Height z) = Unit
FoundInTurn NotBetween = Unit
FoundInTurn NoRoot = Unit
FoundInTurn (FoundByHalving lon lat) = InTurn lon
FoundInTurn NoneByHalving = Unit

-- of each answer in a reply
unfoldable pub RepliedInTurn : Result Reply Refusal → Type 0
RepliedInTurn (Err refusal) = Unit
RepliedInTurn (Ok Accepted) = Unit
RepliedInTurn (Ok (Slots s)) =
    FoundInTurn s.south.first.answer × FoundInTurn s.south.second.answer × FoundInTurn s.equator.answer
    × FoundInTurn s.north.first.answer × FoundInTurn s.north.second.answer
RepliedInTurn (Ok (Cone s)) = FoundInTurn s.answer
RepliedInTurn (Ok (Crossing a)) = FoundInTurn a

-- Whatever the state, the code and the operands.
abbrev pub LongitudesReplied : Type 0
LongitudesReplied = (s : State) (code : ℕ) (b : List ℕ) → RepliedInTurn (turn_of (row_of code) s b).reply
