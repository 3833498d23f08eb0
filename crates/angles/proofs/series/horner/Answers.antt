-- One step of `horner` takes the next coefficient, and after the last none is left.
use lib.Ieee.{nan}
use Rattle.std.proofs.Common.{add-one, drop-cons}
use Rattle.std.proofs.lemmas.List.{drop_all}
use Rattle.angles.specs.Inverse.{horner}
use Rattle.angles.proofs.series.horner.Goals as goal

pub loop-k-preserved : goal.loop-k-preserved
unfolding horner
loop-k-preserved c =
    let l = c.loop-k in
    let h = c.loop-k-test.true in
    rw (add-one) (rw (drop-cons c.args.coefficients.now l.k-index nan) at l.invariant)

pub returns : goal.returns
unfolding horner
returns c =
    let l = c.loop-k in
    rw (drop_all l.k-index c.args.coefficients.now c.loop-k-test.false) at l.invariant
