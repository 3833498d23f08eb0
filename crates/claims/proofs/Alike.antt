-- Two job files that are alike have the same commands but for the operands of code 02, and those at the same places (`SamePlaces`,
-- specs/Alike.antt). Byte by byte both skip the same operands, so a byte that differs is never a command's.
use lib.Dec.{eqb, leb, ltb}
use lib.ListN.{length, get_or, take}
use Prim.Native.Nat.{ℕ, zero, suc, ◌+◌}
use native.Mathlib.Omega.{arith}
use mathlib.Core.Path.{◌≡◌, refl, ap}
use mathlib.Core.Logic.{◌↔◌}
use mathlib.Core.Bool.{Bool, true, false, cond, ◌||◌}
use mathlib.Core.List.{List, [], ◌∷◌}
use Rattle.table.specs.Table.{in_table, operand_width}
use Rattle.table.specs.CommandAllowances.{LikeOperands}
use Rattle.lists.specs.Commands.{Command}
use Rattle.lists.specs.TwoLists.{command, LikeCommands, none, one}
use Rattle.jobs.specs.Files.{Parsed, commands, refused, before, ended, parse, file_of, commands_in}
use Rattle.claims.specs.Alike.{allowances_from, is_allowance, Alike, SamePlaces}
use Rattle.claims.specs.TwoFiles.{IsAccepted}

-- bytes beside each other, of which the first `skip` are operands, of code 02 or not
data Beside : Bool → ℕ → List ℕ → List ℕ → Type 0 where
  end : {two : Bool} {skip : ℕ} → Beside two skip [] []
  operand :
      {two : Bool} {skip x y : ℕ} {xs ys : List ℕ}
      → (two ≡ false → x ≡ y)
      → Beside two skip xs ys
      → Beside two (suc skip) (x ∷ xs) (y ∷ ys)
  command_byte :
      {two : Bool} {x : ℕ} {xs ys : List ℕ}
      → Beside (eqb x 2) (operand_width x) xs ys
      → Beside two zero (x ∷ xs) (x ∷ ys)

beside : (two : Bool) (skip : ℕ) (xs ys : List ℕ)
    → length xs ≡ length ys
    → ((i : ℕ) → get_or (allowances_from two skip xs) i false ≡ false → get_or xs i 0 ≡ get_or ys i 0)
    → Beside two skip xs ys
unfolding allowances_from
beside two skip [] [] l h = end
beside two skip [] (y ∷ ys) l h = absurd (omega arith)
beside two skip (x ∷ xs) [] l h = absurd (omega arith)
beside two (suc skip) (x ∷ xs) (y ∷ ys) l h = operand (h 0) (beside two skip xs ys (omega arith) (λ i. h (suc i)))
beside two zero (x ∷ xs) (y ∷ ys) l h =
    let same : x ≡ y = h 0 refl in
    rw (← same) (command_byte (beside (eqb x 2) (operand_width x) xs ys (omega arith) (λ i. h (suc i))))

beside_files : {job other : List ℕ} → Alike job other → Beside false 0 job other
unfolding is_allowance
beside_files {job} {other} a = beside false 0 job other a.same_length a.same_bytes

same_marks : {two : Bool} {skip : ℕ} {xs ys : List ℕ}
    → Beside two skip xs ys
    → allowances_from two skip xs ≡ allowances_from two skip ys
unfolding allowances_from
same_marks end = refl
same_marks (operand e r) = rw (same_marks r)
same_marks (command_byte r) = rw (same_marks r)

pub same_places : SamePlaces
unfolding is_allowance
same_places job other a place = rw (same_marks (beside_files a))

same_length : {two : Bool} {skip : ℕ} {xs ys : List ℕ} → Beside two skip xs ys → length xs ≡ length ys
same_length end = refl
same_length (operand e r) = ap suc (same_length r)
same_length (command_byte r) = ap suc (same_length r)

same_operands : {two : Bool} {skip : ℕ} {xs ys : List ℕ} → Beside two skip xs ys → two ≡ false → take skip xs ≡ take skip ys
same_operands end n = refl
same_operands (operand e r) n = rw (e n, same_operands r n)
same_operands (command_byte r) n = refl

-- both files accepted, with commands in pairs, or both refused
pub data Paired : Parsed → Parsed → Type 0 where
  accepted : {cs ds : List Command} → LikeCommands cs ds → Paired (commands cs) (commands ds)
  neither : {number place number₂ place₂ : ℕ} → Paired (refused number place) (refused number₂ place₂)

paired_before : (code : ℕ) {b d : List ℕ} {p q : Parsed}
    → LikeOperands code b d
    → Paired p q
    → Paired (before (command code b) p) (before (command code d) q)
paired_before code o (accepted h) = accepted (one o h)
paired_before code o neither = neither

paired_ended : {two : Bool} {skip : ℕ} {xs ys : List ℕ} (place : ℕ)
    → Beside two skip xs ys
    → Paired (ended place xs) (ended place ys)
paired_ended place end = accepted none
paired_ended place (operand e r) = neither
paired_ended place (command_byte r) = neither

paired_cond : (b : Bool) {p q u v : Parsed} → Paired p q → Paired u v → Paired (cond b p u) (cond b q v)
paired_cond true h k = h
paired_cond false h k = k

paired : {two : Bool} {skip : ℕ} {xs ys : List ℕ} (place : ℕ)
    → Beside two skip xs ys
    → Paired (parse place skip xs) (parse place skip ys)
paired place end = neither
paired place (operand e r) = paired (place + 1) r
paired place (command_byte {x = x} {xs = xs} r) =
    let command = paired_before x (same_operands r) (paired (place + 1) r) in
    rw (← same_length r)
    (paired_cond (in_table x)
    (paired_cond (eqb x 0) (paired_ended (place + 1) r) (paired_cond (leb (operand_width x) (length xs)) command neither))
    neither)

pub paired_files : (job other : List ℕ) → Alike job other → Paired (file_of job) (file_of other)
unfolding file_of
paired_files job other a =
    rw (← a.same_length)
    (paired_cond (eqb (length job) 0 || ltb 16384 (length job)) neither (paired 0 (beside_files a)))

pub both_accepted : {p q : Parsed} → Paired p q → IsAccepted p ↔ IsAccepted q
both_accepted (accepted h) = (λ x. tt, λ x. tt)
both_accepted neither = (λ x. x, λ x. x)

like_commands : {p q : Parsed} → Paired p q → LikeCommands (commands_in p) (commands_in q)
like_commands (accepted h) = h
like_commands neither = none

pub alike_commands : (job other : List ℕ) → Alike job other → LikeCommands (commands_in (file_of job)) (commands_in (file_of other))
alike_commands job other a = like_commands (paired_files job other a)
