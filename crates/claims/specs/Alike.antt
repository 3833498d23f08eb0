-- Demand 3: "alike byte for byte outside the operands of code 02". Definitions and a claim; `proofs/Alike.antt` proves it.
use Rattle.std.specs.Prelude.{eqb, length, get_or, ℕ, zero, suc, ◌≡◌, Bool, false, List, [], ◌∷◌}
use Rattle.table.specs.Table.{operand_width}

-- for each byte, whether it is an operand of code 02; the first `skip` bytes are operands of the command before, whose code is 02 where `two` holds
unfoldable pub allowances_from : Bool → ℕ → List ℕ → List Bool
allowances_from two skip [] = []
allowances_from two (suc skip) (b ∷ rest) = two ∷ allowances_from two skip rest
allowances_from two zero (code ∷ rest) = false ∷ allowances_from (eqb code 2) (operand_width code) rest

-- whether the byte at a place of a job file is an operand of code 02
unfoldable pub is_allowance : List ℕ → ℕ → Bool
is_allowance job place = get_or (allowances_from false 0 job) place false

-- the same length, and the same byte at every place that is not an operand of code 02
pub record Alike (job other : List ℕ) : Type 0 where
  pub same_length : length job ≡ length other
  pub same_bytes : (place : ℕ) → is_allowance job place ≡ false → get_or job place 0 ≡ get_or other place 0

-- In which of the two files is no matter: both have the operands of code 02 at the same places.
abbrev pub SamePlaces : Type 0
SamePlaces = (job other : List ℕ) → Alike job other → (place : ℕ) → is_allowance job place ≡ is_allowance other place
