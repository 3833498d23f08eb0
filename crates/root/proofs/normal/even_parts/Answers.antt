-- Nothing is lost at the top, and m, doubled where g is odd, has 53 or 54 digits.
use native.Mathlib.Omega.{arith}
use Rattle.root.proofs.Bits.{doubled}
use Rattle.root.proofs.normal.even_parts.Goals as goal

pub invariant_of-result : goal.invariant_of-result
invariant_of-result c =
    let r = c.requires.significand in
    let d = doubled c.args.m c.args.g r.0 r.1 in
    record { digits = (omega (arith, d.plain, d.least), omega (arith, d.plain, d.most)) }
