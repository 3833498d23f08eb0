-- The codes that have a reply, and their bytes. Definitions only.
use Rattle.std.specs.Prelude.{ℕ, ◌≡◌}
use Rattle.table.specs.declared.code.Code.{Code}
use Rattle.table.specs.declared.code.Code.TheVariants.{Precision, Allowance, Arc, ConeInEqr, ConeInPc, Parallel, TwoArcs}

abbrev pub code_byte : Code → ℕ
code_byte Precision = 1
code_byte Allowance = 2
code_byte Arc = 3
code_byte ConeInEqr = 4
code_byte ConeInPc = 5
code_byte Parallel = 6
code_byte TwoArcs = 7

-- it is no code's byte
abbrev pub HasNoCode : ℕ → Type 0
HasNoCode byte = (code : Code) → code_byte code ≡ byte → ⊥
