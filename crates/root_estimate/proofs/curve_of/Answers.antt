-- A row of the table, by proofs/Table.antt.
use Prim.Native.Nat.{◌/◌, ◌%◌, ◌^◌}
use native.Mathlib.Omega.{arith}
use Rattle.root_estimate.proofs.Table.{row_curved}
use Rattle.root_estimate.proofs.curve_of.Goals as goal

pub returns : goal.returns
returns c = row_curved (c.args.pattern / 2 ^ 47 % 64) (omega arith)
