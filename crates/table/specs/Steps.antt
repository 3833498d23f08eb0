-- Document 01, "Jobs and replies": the step bytes of a reply. Definitions and claims; `proofs/Steps.antt` proves them.
use Rattle.std.specs.Prelude.{get_or, drop, ℕ, ◌<◌, ◌≡◌, List, [], ◌∷◌}
use Rattle.plans.specs.Plans.{slots_of, steps_at}
use Rattle.table.specs.States.{most_steps}
use Rattle.table.specs.Rows.{Form}
use Rattle.table.specs.Table.{row_of, answer_width}
use Rattle.table.specs.Turns.{reply_of, plans_of}
use Rattle.table.specs.declared.state.State.{State}

-- the bytes at these places
abbrev pub bytes_at : List ℕ → List ℕ → List ℕ
bytes_at [] bytes = []
bytes_at (place ∷ places) bytes = get_or bytes place 0 ∷ bytes_at places bytes

-- those of the steps, in a reply that has this form after code and status
abbrev pub step_bytes : Form → List ℕ → List ℕ
step_bytes f reply = bytes_at f.steps (drop 2 reply)

-- the step byte of the i-th slot, from 0, of a reply to this code; 0 where there is none
abbrev pub step_byte : ℕ → ℕ → List ℕ → ℕ
step_byte i code reply = get_or (step_bytes (row_of code).answer reply) i 0

-- Step bytes are the step counts of the slots' walks.
abbrev pub StepBytes : Type 0
StepBytes =
    (s : State) (code : ℕ) (b : List ℕ) (i : ℕ)
    → step_byte i code (reply_of s code b) ≡ steps_at i (slots_of (most_steps s.allowance) (plans_of s code b))

-- No step byte stands outside its reply.
abbrev pub AllBelow : ℕ → List ℕ → Type 0
AllBelow width [] = Unit {0}
AllBelow width (place ∷ places) = (place < width) × AllBelow width places

abbrev pub StepsWithin : Type 0
StepsWithin = (code : ℕ) → AllBelow (answer_width code) (row_of code).answer.steps
