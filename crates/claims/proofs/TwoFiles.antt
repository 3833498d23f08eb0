-- Demand 3, for any two job files that are alike outside the operands of code 02: the claims of specs/TwoFiles.antt. Alike files have the same
-- commands but for those operands, so the law of two lists holds.
use lib.Dec.{eqb, leb, ltb}
use lib.ListN.{length, take, drop}
use lib.Seq.{take-append_seam}
use borrow.Author.Tests.{le-leb}
use Prim.Native.Nat.{ℕ, zero, suc, ◌+◌, ◌≤◌}
use native.Mathlib.Omega.{arith}
use mathlib.Core.Path.{◌≡◌, refl}
use mathlib.Core.Logic.{◌↔◌}
use mathlib.Core.Bool.{Bool, true, false, cond, ◌||◌}
use mathlib.Core.List.{List, [], ◌∷◌}
use Rattle.table.specs.States.{unset}
use Rattle.table.specs.Table.{in_table, operand_width}
use Rattle.lists.specs.Commands.{Command, replies_from}
use Rattle.lists.specs.TwoLists.{command}
use Rattle.lists.proofs.TwoLists.{allowances_of_two_lists}
use Rattle.jobs.specs.Files.{Parsed, commands, refused, before, ended, parse, file_of, commands_in, reply_file, Ran, ran, refuse, over, run_parsed, run_file}
use Rattle.claims.specs.TwoFiles.{IsAccepted, AcceptedAnswersZero, begun_in, AllowancesOfTwoFiles, AcceptedAlike, Demand3, written_bytes, Demand3OfRuns}
use Rattle.claims.proofs.Alike.{alike_commands, paired_files, both_accepted}

pub two_files : AllowancesOfTwoFiles
unfolding reply_file begun_in
two_files job other a =
    let l = allowances_of_two_lists (commands_in (file_of job)) (commands_in (file_of other)) (alike_commands job other a) in
    record { same_walks = l.same_walks; law = l.law }

pub accepted_alike : AcceptedAlike
accepted_alike job other a = both_accepted (paired_files job other a)

pub demand_3 : Demand3
demand_3 job other x y a = two_files job other a

-- a run that answers 0 wrote the reply file
module _ (file : List ℕ) (size : ℕ) (old : List ℕ) where
  abbrev ran_if : Bool → Ran
  ran_if fits = cond fits (ran 0 size (length file) (over file old)) (refuse 5 (length file) old)

  wrote_if : (fits : Bool) → (ran_if fits).number ≡ 0 → written_bytes (ran_if fits) ≡ file
  wrote_if true e = take-append_seam file (drop (length file) old)
  wrote_if false e = absurd (omega arith)

wrote_parsed : (p : Parsed) (size : ℕ) (old : List ℕ)
    → (run_parsed p size old).number ≡ 0
    → written_bytes (run_parsed p size old) ≡ replies_from unset (commands_in p)
wrote_parsed (refused number place) size old e = refl
wrote_parsed (commands cs) size old e = let file = replies_from unset cs in wrote_if file size old (leb (length file) (length old)) e

wrote : (job old : List ℕ) → (run_file job old).number ≡ 0 → written_bytes (run_file job old) ≡ reply_file job
unfolding run_file reply_file
wrote job old e = wrote_parsed (file_of job) (length job) old e

pub demand_3_of_runs : Demand3OfRuns
demand_3_of_runs job other old older x y a = rw (wrote job old x, wrote other older y) (two_files job other a).law

-- ---- accepted, and answered with 0: no refusal has that number
data Numbered : Parsed → Type 0 where
  none : {cs : List Command} → Numbered (commands cs)
  some : {number place : ℕ} → (number ≡ 0 → ⊥) → Numbered (refused number place)

numbered_if : (b : Bool) {p q : Parsed} → Numbered p → Numbered q → Numbered (cond b p q)
numbered_if true h k = h
numbered_if false h k = k

numbered_before : (c : Command) {p : Parsed} → Numbered p → Numbered (before c p)
numbered_before c none = none
numbered_before c (some n) = some n

numbered_ended : (place : ℕ) (rest : List ℕ) → Numbered (ended place rest)
numbered_ended place [] = none
numbered_ended place (b ∷ rest) = some {number = 4} (λ e. omega arith)

numbered : (place skip : ℕ) (bytes : List ℕ) → Numbered (parse place skip bytes)
numbered place skip [] = some {number = 3} (λ e. omega arith)
numbered place (suc skip) (b ∷ rest) = numbered (place + 1) skip rest
numbered place zero (code ∷ rest) =
    numbered_if (in_table code)
    (numbered_if (eqb code 0) (numbered_ended (place + 1) rest)
    (numbered_if (leb (operand_width code) (length rest))
    (numbered_before (command code (take (operand_width code) rest)) (numbered (place + 1) (operand_width code) rest))
    (some {number = 3} (λ e. omega arith))))
    (some {number = 2} (λ e. omega arith))

numbered_file : (job : List ℕ) → Numbered (file_of job)
unfolding file_of
numbered_file job = numbered_if (eqb (length job) 0 || ltb 16384 (length job)) (some {number = 1} (λ e. omega arith)) (numbered 0 0 job)

answers_zero : {p : Parsed} (size : ℕ) (old : List ℕ)
    → Numbered p
    → length (replies_from unset (commands_in p)) ≤ length old
    → IsAccepted p ↔ ((run_parsed p size old).number ≡ 0)
answers_zero size old (none {cs = cs}) h = (λ x. simp (le-leb (length (replies_from unset cs)) (length old) h), λ e. tt)
answers_zero size old (some n) h = (λ x. absurd x, n)

pub accepted_answers_zero : AcceptedAnswersZero
unfolding run_file reply_file
accepted_answers_zero job buffer h = answers_zero (length job) buffer (numbered_file job) h
