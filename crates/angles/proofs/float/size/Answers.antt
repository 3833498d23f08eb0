-- The pattern without its sign bit is that of `abs_of`; a NaN is returned as it is.
use mathlib.Core.Path.{refl, sym}
use Rattle.angles.specs.Floats.{abs_of}
use Rattle.root.proofs.Nan.{only_nan}
use Rattle.angles.proofs.AbsPattern.{abs_read, abs_no_nan}
use Rattle.angles.proofs.float.size.Goals as goal

pub returns-then-is_nan : goal.returns-then-is_nan
unfolding abs_of
returns-then-is_nan c = rw (only_nan c.args.x (sym c.if-is_nan.ensures.value)) refl

pub float_from_bits-result : goal.float_from_bits-result
float_from_bits-result c = abs_no_nan c.args.x (rw c.well_formed.0.1 tt) (sym c.if-is_nan.ensures.value)

pub returns : goal.returns
returns c = abs_read c.args.x (rw c.well_formed.0.1 tt) (sym c.if-is_nan.ensures.value)
