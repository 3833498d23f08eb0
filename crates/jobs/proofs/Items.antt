-- What stands at a place of a job file: the bytes from there on, parsed, are what the item says, a command before what follows it, the end, or a
-- refusal; and a command lies in the file.
use lib.Dec.{eqb, leb, ltb}
use lib.ListN.{length, get_or, take, drop, length-drop, drop_of_length-le}
use lib.Seq.{drop-cons, drop-drop}
use borrow.Author.Tests.{ltb-true, ltb-false, leb-true, eqb-true, eqb-false}
use Prim.Native.Nat.{ℕ, zero, suc, ◌+◌, ◌-◌, ◌≤◌, ◌<◌}
use native.Mathlib.Omega.{arith}
use native.Mathlib.Nat.{not-suc-le-zero, le_of_suc-le-suc}
use native.Mathlib.Numerals.{add-one}
use mathlib.Core.Path.{◌≡◌, refl, sym, ap, subst, ◌∙◌}
use mathlib.Core.Bool.{Bool, true, false, cond}
use mathlib.Core.List.{List, [], ◌∷◌}
use Rattle.table.specs.Table.{in_table, operand_width}
use Rattle.lists.specs.Commands.{Command}
use Rattle.jobs.specs.Files.{Parsed, commands, refused, before, ended, parse}
use Rattle.jobs.specs.Passes.{Item, command, end, refusal, item_of, item_at}
use Rattle.table.proofs.Cases.{by_test}

-- operands are passed over
pub parse_skip : (place skip : ℕ) (rest : List ℕ) → skip ≤ length rest → parse place skip rest ≡ parse (place + skip) 0 (drop skip rest)
parse_skip place zero [] h = ap (refused 3) (omega arith)
parse_skip place (suc skip) [] h = absurd (not-suc-le-zero h)
parse_skip place zero (b ∷ rest) h = ap (λ (n : ℕ). parse n 0 (b ∷ rest)) (omega arith)
parse_skip place (suc skip) (b ∷ rest) h =
    parse_skip (place + 1) skip rest (le_of_suc-le-suc h) ∙ ap (λ (n : ℕ). parse n 0 (drop skip rest)) (omega arith)

-- the bytes from a place on, parsed
abbrev pub parsed_at : List ℕ → ℕ → Parsed
parsed_at job at = parse at 0 (drop at job)

abbrev pub command_at : List ℕ → ℕ → ℕ → Command
command_at job at code = record { code = code; operands = take (operand_width code) (drop (at + 1) job) }

-- what an item says of them
abbrev pub parsed_as : List ℕ → ℕ → Item → Parsed
parsed_as job at (command code to) = before (command_at job at code) (parsed_at job to)
parsed_as job at end = commands []
parsed_as job at (refusal number place) = refused number place

ended_as : (job : List ℕ) (at : ℕ) → at < length job → ended (at + 1) (drop (at + 1) job) ≡ parsed_as job at (cond (eqb (at + 1) (length job)) end (refusal 4 (at + 1)))
ended_as job at h = go (eqb (at + 1) (length job)) refl
  where
    go : (b : Bool) → eqb (at + 1) (length job) ≡ b → ended (at + 1) (drop (at + 1) job) ≡ parsed_as job at (cond b end (refusal 4 (at + 1)))
    go true e = let q : length job ≤ at + 1 = omega (arith, eqb-true (at + 1) (length job) e) in rw (drop_of_length-le job q) refl
    go false e = let q : at + 1 < length job = omega (arith, eqb-false (at + 1) (length job) e) in rw (drop-cons job (at + 1) 0 q) refl

cond_as : (job : List ℕ) (at : ℕ) (b : Bool) {x y : Parsed} (u v : Item) → x ≡ parsed_as job at u → y ≡ parsed_as job at v → cond b x y ≡ parsed_as job at (cond b u v)
cond_as job at true u v p q = p
cond_as job at false u v p q = q

operands_as : (job : List ℕ) (at code : ℕ) → at < length job →
    cond (leb (operand_width code) (length job - (at + 1))) (before (command_at job at code) (parse (at + 1) (operand_width code) (drop (at + 1) job))) (refused 3 at)
    ≡ parsed_as job at (cond (leb (operand_width code) (length job - (at + 1))) (command code (at + 1 + operand_width code)) (refusal 3 at))
operands_as job at code h = go (leb (operand_width code) (length job - (at + 1))) refl
  where
    go : (b : Bool) → leb (operand_width code) (length job - (at + 1)) ≡ b →
        cond b (before (command_at job at code) (parse (at + 1) (operand_width code) (drop (at + 1) job))) (refused 3 at)
        ≡ parsed_as job at (cond b (command code (at + 1 + operand_width code)) (refusal 3 at))
    go true e =
        let l : operand_width code ≤ length (drop (at + 1) job) = simp length-drop (leb-true _ _ e) in
        ap (before (command_at job at code))
        (parse_skip (at + 1) (operand_width code) (drop (at + 1) job) l
        ∙ ap (λ (r : List ℕ). parse (at + 1 + operand_width code) 0 r) (drop-drop (operand_width code) (at + 1) job))
    go false e = refl

code_as : (job : List ℕ) (at code : ℕ) → at < length job → parse at 0 (code ∷ drop (at + 1) job) ≡ parsed_as job at (item_of code at (length job))
code_as job at code h =
    rw (length-drop (at + 1) job)
    (cond_as job at (in_table code) _ _ (cond_as job at (eqb code 0) _ _ (ended_as job at h) (operands_as job at code h)) refl)

pub parsed_at_lem : (job : List ℕ) (at : ℕ) → parsed_at job at ≡ parsed_as job at (item_at job at)
unfolding item_at
parsed_at_lem job at = go (ltb at (length job)) refl
  where
    go : (b : Bool) → ltb at (length job) ≡ b → parsed_at job at ≡ parsed_as job at (cond b (item_of (get_or job at 0) at (length job)) (refusal 3 at))
    go true e =
        let h : at < length job = ltb-true at (length job) e in
        ap (λ (r : List ℕ). parse at 0 r) (drop-cons job at 0 h ∙ ap (λ (n : ℕ). get_or job at 0 ∷ drop n job) (sym (add-one at)))
        ∙ code_as job at (get_or job at 0) h
    go false e = let h : length job ≤ at = ltb-false at (length job) e in rw (drop_of_length-le job h) refl

-- a command that is found there lies in the file
abbrev pub Good : List ℕ → ℕ → Item → Type 0
Good job at (command code to) = (to ≡ at + 1 + operand_width code) × (to ≤ length job)
Good job at end = Unit {0}
Good job at (refusal number place) = Unit {0}

pub good : (job : List ℕ) (at : ℕ) → Good job at (item_at job at)
unfolding item_at
good job at =
    let n = length job in
    let code = get_or job at 0 in
    by_test (Good job at) (ltb at n)
    (λ h. by_test (Good job at) (in_table code)
    (λ l. by_test (Good job at) (eqb code 0)
    (λ z. by_test (Good job at) (eqb (at + 1) n) (λ e. tt) (λ e. tt))
    (λ z. by_test (Good job at) (leb (operand_width code) (n - (at + 1)))
    (λ w. (refl, omega (arith, ltb-true at n h, leb-true (operand_width code) (n - (at + 1)) w)))
    (λ w. tt)))
    (λ l. tt))
    (λ h. tt)

-- what is told of the item at a place
module _ (job : List ℕ) (at : ℕ) (t : Item) (e : item_at job at ≡ t) where
  pub at_item : parsed_at job at ≡ parsed_as job at t
  at_item = parsed_at_lem job at ∙ ap (parsed_as job at) e

  pub good_item : Good job at t
  good_item = subst (Good job at) e (good job at)
