-- What the functions below `finder_run` answer: the command at a place, and the two passes over a file. Definitions only.
use Rattle.std.specs.Prelude.{eqb, leb, ltb, length, get_or, ℕ, ◌+◌, ◌-◌, ◌≤◌, cond, List, [], ◌∷◌, Option, None, Some, Result, Ok, Err}
use Rattle.table.specs.Codes.{code_byte}
use Rattle.table.specs.Table.{in_table, operand_width, answer_width}
use Rattle.table.specs.declared.state.State.{State}
use Rattle.jobs.specs.declared.item.Found.{Found}
use Rattle.jobs.specs.declared.refusal.Reason.{Reason}
use Rattle.jobs.specs.declared.refusal.Reason.TheVariants.{Size, NotInTable, CutShort, AfterTheEnd, NoRoom}
use Rattle.jobs.specs.declared.refusal.Refusal.{Refusal}
use Rattle.lists.specs.Commands.{Command, replies_from}
use Rattle.jobs.specs.Files.{Parsed, commands, refused, over, Ran, ran}

-- document 01's numbers
abbrev pub reason_number : Reason → ℕ
reason_number Size = 1
reason_number NotInTable = 2
reason_number CutShort = 3
reason_number AfterTheEnd = 4
reason_number NoRoom = 5

-- a command's code and the place past its operands, the end, or the number and the place of a refusal
pub data Item : Type 0 where
  command : ℕ → ℕ → Item
  end : Item
  refusal : ℕ → ℕ → Item

-- how the code tells it
abbrev pub item_told : Result (Option Found) Refusal → Item
item_told (Ok (Some c)) = command (code_byte c.code) c.end
item_told (Ok None) = end
item_told (Err r) = refusal (reason_number r.reason) r.place

-- the end, or a refusal
abbrev pub NoCommand : Item → Type 0
NoCommand (command code to) = ⊥
NoCommand end = Unit {0}
NoCommand (refusal number place) = Unit {0}

-- a code at a place of a file of n bytes
abbrev pub item_of : ℕ → ℕ → ℕ → Item
item_of code at n =
    cond (in_table code)
    (cond (eqb code 0)
    (cond (eqb (at + 1) n) end (refusal 4 (at + 1)))
    (cond (leb (operand_width code) (n - (at + 1))) (command code (at + 1 + operand_width code)) (refusal 3 at)))
    (refusal 2 at)

unfoldable pub item_at : List ℕ → ℕ → Item
item_at job at = cond (ltb at (length job)) (item_of (get_or job at 0) at (length job)) (refusal 3 at)

-- the bytes of all replies
abbrev pub needed : List Command → ℕ
needed [] = 0
needed (c ∷ cs) = 2 + answer_width c.code + needed cs

-- the first pass, where the commands before need `total` bytes: how many all need, or the number and the place of a refusal
pub data Checked : Type 0 where
  accepted : ℕ → Checked
  not_accepted : ℕ → ℕ → Checked

-- how the code tells it
abbrev pub checked_told : Result ℕ Refusal → Checked
checked_told (Ok total) = accepted total
checked_told (Err r) = not_accepted (reason_number r.reason) r.place

abbrev pub checked_of : ℕ → Parsed → Checked
checked_of total (commands cs) = accepted (total + needed cs)
checked_of total (refused number place) = not_accepted number place

-- an accepted file whose replies fit n bytes
abbrev pub Fitting : Parsed → ℕ → Type 0
Fitting (commands cs) n = needed cs ≤ n
Fitting (refused number place) n = ⊥

-- the buffer after the second pass
abbrev pub filled : State → Parsed → List ℕ → List ℕ
filled s (commands cs) old = over (replies_from s cs) old
filled s (refused number place) old = old

-- the run of a file of this size
abbrev pub ran_of : ℕ → Result ℕ Refusal → List ℕ → Ran
ran_of size (Ok written) buffer = ran 0 size written buffer
ran_of size (Err r) buffer = ran (reason_number r.reason) r.place 0 buffer
