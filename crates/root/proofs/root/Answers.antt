-- A NaN is its own root; any other x is the value of its pattern.
use mathlib.Core.Path.{sym, ap, ◌∙◌, subst}
use lib.Dec.{T}
use lib.Ieee.{binary64}
use lib.Ieee.Bits.{of_bits-to_bits}
use Rattle.root.specs.Root.{root_of}
use Rattle.root.proofs.Bits.{nan_root}
use Rattle.root.proofs.root.Goals as goal

pub returns-then-is_nan : goal.returns-then-is_nan
returns-then-is_nan c = nan_root _ (sym c.if-is_nan.ensures.value)

pub returns : goal.returns
returns c = c.float_of.ensures ∙ c.root_of_bits.ensures.value ∙ ap root_of (of_bits-to_bits binary64 c.args.x (subst T (sym c.well_formed.0.1) tt))
