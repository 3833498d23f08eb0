-- The widths that `Code` has, by its byte, are the columns of the table; src/code.rt cites these laws.
use lib.Dec.{leb, leb→le}
use lib.ListN.{get_or}
use Prim.Native.Nat.{ℕ, zero, suc, ◌≤◌}
use mathlib.Core.Path.{◌≡◌, refl, sym}
use mathlib.Core.List.{List, [], ◌∷◌}
use Rattle.table.specs.Rows.{Row}
use Rattle.table.specs.Table.{end, precision, allowance, arc, cone_in_eqr, cone_in_pc, parallel, two_arcs, table, row_of, width_in, operand_width, answer_width}
use Rattle.table.proofs.Cases.{by_computing}

module _ (width : Row → ℕ) (nothing : width end ≡ 0) where
  abbrev column : List Row → List ℕ
  column [] = []
  column (r ∷ rs) = width r ∷ column rs

  at_code : (rs : List Row) (code : ℕ) → get_or (column rs) code 0 ≡ width (get_or rs code end)
  at_code [] code = sym nothing
  at_code (r ∷ rs) zero = refl
  at_code (r ∷ rs) (suc code) = at_code rs code

abbrev pub operands : List ℕ
operands = 0 ∷ 8 ∷ 1 ∷ 32 ∷ 25 ∷ 34 ∷ 40 ∷ 64 ∷ []

abbrev pub answers : List ℕ
answers = 0 ∷ 0 ∷ 0 ∷ 90 ∷ 10 ∷ 10 ∷ 17 ∷ 17 ∷ []

pub operand_column : (code : ℕ) → get_or operands code 0 ≡ operand_width code
unfolding operand_width width_in row_of precision allowance arc cone_in_eqr cone_in_pc parallel two_arcs
operand_column code = at_code width_in refl table code

pub answer_column : (code : ℕ) → get_or answers code 0 ≡ answer_width code
unfolding answer_width row_of precision allowance arc cone_in_eqr cone_in_pc parallel two_arcs
answer_column code = at_code (λ r. r.answer.width) refl table code

pub widest_operands : (code : ℕ) → operand_width code ≤ 64
unfolding operand_width width_in precision allowance arc cone_in_eqr cone_in_pc parallel two_arcs
widest_operands code = leb→le _ _ (by_computing (λ r. leb (width_in r) 64) tt tt code)

pub widest_answer : (code : ℕ) → answer_width code ≤ 90
unfolding answer_width precision allowance arc cone_in_eqr cone_in_pc parallel two_arcs
widest_answer code = leb→le _ _ (by_computing (λ r. leb r.answer.width 90) tt tt code)
