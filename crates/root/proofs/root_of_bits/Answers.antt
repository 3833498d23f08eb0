-- A pattern that the estimate gives is that of its value; where there is none, it is that of a float.
use mathlib.Core.Path.{sym, ap, ◌∙◌, subst}
use native.Mathlib.Omega.{arith}
use lib.Dec.{T}
use lib.Ieee.{binary64, of_bits, to_bits}
use lib.Ieee.Bits.{of_bits-to_bits}
use Rattle.root.specs.Root.{root_of}
use Rattle.root.proofs.Nan.{same_pattern}
use Rattle.root.proofs.root_of_bits.Goals as goal

pub returns-in-Some-clause-pattern : goal.returns-in-Some-clause-pattern
returns-in-Some-clause-pattern c =
    let d = c.in-Some.ensures in
    sym (same_pattern c.in-Some.r (omega (arith, d.finite))) ∙ ap (to_bits binary64) d.value

pub returns-in-None-clause-value : goal.returns-in-None-clause-value
returns-in-None-clause-value c =
    ap (of_bits binary64) c.bits_of.ensures ∙ of_bits-to_bits binary64 c.without_estimate.result (subst T (sym c.without_estimate.type_inv) tt) ∙ c.without_estimate.ensures ∙ ap root_of c.float_of.ensures
