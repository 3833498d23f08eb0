-- Each return is the branch of `turned_by` that the match chose.
use native.Mathlib.Omega.{arith}
use borrow.Author.Tests.{ne_eqb}
use Rattle.angles.specs.Circular.{turned_by}
use Rattle.angles.proofs.circular.SinCos.turned_by.Goals as goal

pub returns-in-0 : goal.returns-in-0
unfolding turned_by
returns-in-0 c = simp c.in-0.is

pub returns-in-1 : goal.returns-in-1
unfolding turned_by
returns-in-1 c = simp c.in-1.is

pub returns-in-2 : goal.returns-in-2
unfolding turned_by
returns-in-2 c = simp c.in-2.is

pub returns-in_default : goal.returns-in_default
unfolding turned_by
returns-in_default c =
    let k = c.args.k in
    simp (ne_eqb k 0 (λ e. omega arith), ne_eqb k 1 (λ e. omega arith), ne_eqb k 2 (λ e. omega arith))
