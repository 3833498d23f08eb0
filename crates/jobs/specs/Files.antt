-- Document 01, "Refusals", 1 to 5 in checking order, and the reply file. Definitions only.
use Rattle.std.specs.Prelude.{eqb, leb, ltb, length, take, drop, ℕ, zero, suc, ◌+◌, cond, ◌||◌, List, [], ◌∷◌, ◌++◌}
use Rattle.table.specs.States.{unset}
use Rattle.table.specs.Table.{in_table, operand_width}
use Rattle.lists.specs.Commands.{Command, replies_from}

-- a job file: its commands before code 00, or the number and the place of a refusal
pub data Parsed : Type 0 where
  commands : List Command → Parsed
  refused : ℕ → ℕ → Parsed

abbrev pub before : Command → Parsed → Parsed
before c (commands cs) = commands (c ∷ cs)
before c (refused number place) = refused number place

-- 4: bytes follow 00 (place of the first)
abbrev pub ended : ℕ → List ℕ → Parsed
ended place [] = commands []
ended place (b ∷ rest) = refused 4 place

-- The bytes from a place on, of which the first `skip` are operands of the command before. 2: a command byte isn't in the table (place of that
-- byte); 3: operands are cut short (place of the command) or code 00 is missing (place: the length)
abbrev pub parse : ℕ → ℕ → List ℕ → Parsed
parse place skip [] = refused 3 place
parse place (suc skip) (b ∷ rest) = parse (place + 1) skip rest
parse place zero (code ∷ rest) =
    cond (in_table code)
    (cond (eqb code 0) (ended (place + 1) rest)
    (cond (leb (operand_width code) (length rest))
    (before (record { code = code; operands = take (operand_width code) rest }) (parse (place + 1) (operand_width code) rest))
    (refused 3 place)))
    (refused 2 place)

-- 1: the file has no byte or more than 16,384 (place 0)
unfoldable pub file_of : List ℕ → Parsed
file_of job = cond (eqb (length job) 0 || ltb 16384 (length job)) (refused 1 0) (parse 0 0 job)

-- the commands of an accepted file; a refused one has none
abbrev pub commands_in : Parsed → List Command
commands_in (commands cs) = cs
commands_in (refused number place) = []

-- "The reply file of an accepted job file is the bytes written for it: the replies to its commands, in their order, and nothing else of the
-- buffer" ("Jobs and replies")
unfoldable pub reply_file : List ℕ → List ℕ
reply_file job = replies_from unset (commands_in (file_of job))

-- what a run answers, and the reply buffer after it
pub record Ran : Type 0 where
  pub number : ℕ
  pub place : ℕ
  pub written : ℕ
  pub buffer : List ℕ

abbrev pub ran : ℕ → ℕ → ℕ → List ℕ → Ran
ran number place written buffer = record { number = number; place = place; written = written; buffer = buffer }

-- a refused file: number, place, 0 written; the reply buffer keeps its bytes
abbrev pub refuse : ℕ → ℕ → List ℕ → Ran
refuse number place old = ran number place 0 old

-- a reply file in a buffer that has room for it, which keeps its bytes past it
abbrev pub over : List ℕ → List ℕ → List ℕ
over file old = file ++ drop (length file) old

-- 5: the reply buffer is shorter than all replies (place: the length needed). An accepted file answers 0, its length, the bytes written
abbrev pub answered : List ℕ → ℕ → List ℕ → Ran
answered file size old =
    cond (leb (length file) (length old)) (ran 0 size (length file) (over file old)) (refuse 5 (length file) old)

abbrev pub run_parsed : Parsed → ℕ → List ℕ → Ran
run_parsed (refused number place) size old = refuse number place old
run_parsed (commands cs) size old = answered (replies_from unset cs) size old

-- a whole job file, and the reply buffer before
unfoldable pub run_file : List ℕ → List ℕ → Ran
run_file job old = run_parsed (file_of job) (length job) old
