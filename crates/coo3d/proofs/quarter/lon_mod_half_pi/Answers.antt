-- The quarter is the number of quarter turns that are to be taken off.
use mathlib.Core.Path.{ap, ◌∙◌}
use Prim.Native.Nat.{ℕ}
use Rattle.angles.specs.Floats.{◌⊖◌, ◌⊗◌, of_nat}
use Rattle.angles.specs.Constants.{half_pi}
use Rattle.coo3d.proofs.QuarterTurns.{by_difference}
use Rattle.coo3d.proofs.quarter.lon_mod_half_pi.Goals as goal

pub returns : goal.returns
returns c = ap (λ (k : ℕ). c.args.lon ⊖ of_nat k ⊗ half_pi) c.requires.1 ∙ by_difference _ (rw c.well_formed.0.1 tt) c.requires.0
