-- The bytes of the table past 00 are those of the codes, and what stands at a place with such a byte is a command, or cut short.
use lib.Dec.{leb, ltb}
use lib.ListN.{length, get_or}
use borrow.Author.Tests.{lt-ltb, ltb-true, ne_eqb}
use Prim.Native.Nat.{ℕ, zero, suc, ◌+◌, ◌-◌, ◌<◌, ◌≤◌}
use native.Mathlib.Omega.{arith}
use mathlib.Core.Path.{◌≡◌, refl, subst}
use mathlib.Core.Bool.{Bool, true, false, cond}
use mathlib.Core.List.{List}
use Rattle.std.proofs.Common.{◌≢◌}
use Rattle.table.specs.Codes.{code_byte, HasNoCode}
use Rattle.table.specs.Table.{in_table, operand_width}
use Rattle.table.specs.declared.code.Code.{Code}
use Rattle.table.specs.declared.code.Code.TheVariants.{Precision, Allowance, Arc, ConeInEqr, ConeInPc, Parallel, TwoArcs}
use Rattle.jobs.specs.Passes.{command, refusal, item_at}

byte_below : (c : Code) → (1 ≤ code_byte c) × (code_byte c < 8)
byte_below Precision = (omega arith, omega arith)
byte_below Allowance = (omega arith, omega arith)
byte_below Arc = (omega arith, omega arith)
byte_below ConeInEqr = (omega arith, omega arith)
byte_below ConeInPc = (omega arith, omega arith)
byte_below Parallel = (omega arith, omega arith)
byte_below TwoArcs = (omega arith, omega arith)

coded : {byte : ℕ} (c : Code) → code_byte c ≡ byte → in_table byte ≡ true
coded c e = subst (λ n. in_table n ≡ true) e (lt-ltb (code_byte c) 8 (byte_below c).1)

not_the_end : {byte : ℕ} (c : Code) → code_byte c ≡ byte → byte ≢ 0
not_the_end c e z = omega (arith, (byte_below c).0, e, z)

pub item_of_code : (job : List ℕ) (at : ℕ) (c : Code) → at < length job → code_byte c ≡ get_or job at 0
    → item_at job at
    ≡ cond (leb (operand_width (code_byte c)) (length job - (at + 1)))
    (command (code_byte c) (at + 1 + operand_width (code_byte c)))
    (refusal 3 at)
unfolding item_at
item_of_code job at c h e = rw (lt-ltb _ _ h, coded c e, ne_eqb _ _ (not_the_end c e), ← e) refl

with_code : (byte : ℕ) → byte ≢ 0 → byte < 8 → (c : Code) × (code_byte c ≡ byte)
with_code zero n l = absurd (n refl)
with_code (suc zero) n l = (Precision, refl)
with_code (suc (suc zero)) n l = (Allowance, refl)
with_code (suc (suc (suc zero))) n l = (Arc, refl)
with_code (suc (suc (suc (suc zero)))) n l = (ConeInEqr, refl)
with_code (suc (suc (suc (suc (suc zero))))) n l = (ConeInPc, refl)
with_code (suc (suc (suc (suc (suc (suc zero)))))) n l = (Parallel, refl)
with_code (suc (suc (suc (suc (suc (suc (suc zero))))))) n l = (TwoArcs, refl)
with_code (suc (suc (suc (suc (suc (suc (suc (suc byte)))))))) n l = absurd (omega arith)

pub uncoded : (byte : ℕ) → byte ≢ 0 → HasNoCode byte → in_table byte ≡ false
uncoded byte n none = by (ltb byte 8) refl
  where
    by : (b : Bool) → ltb byte 8 ≡ b → b ≡ false
    by false e = refl
    by true e = let c = with_code byte n (ltb-true byte 8 e) in absurd (none c.0 c.1)
