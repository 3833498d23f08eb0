-- `to_bits` of a NaN is the pattern that is written for one.
use mathlib.Core.Path.{sym, ap}
use lib.Ieee.{binary64, to_bits}
use Rattle.root.proofs.Nan.{only_nan}
use Rattle.root.proofs.patterns.bits_of.Goals as goal

pub returns-then-is_nan : goal.returns-then-is_nan
unfolding to_bits
returns-then-is_nan c = sym (ap (to_bits binary64) (only_nan c.args.x (sym c.if-is_nan.ensures.value)))
