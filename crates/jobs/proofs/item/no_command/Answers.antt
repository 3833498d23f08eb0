-- At each return the tests that went before choose the case of `item_at`.
use borrow.Author.Tests.{lt-ltb, eq-eqb, ne_eqb}
use mathlib.Core.Path.{refl}
use Rattle.jobs.specs.Passes.{item_at}
use Rattle.jobs.proofs.Codes.{uncoded}
use Rattle.jobs.proofs.item.no_command.Goals as goal

pub returns-then-job-at-ne0 : goal.returns-then-job-at-ne0
unfolding item_at
returns-then-job-at-ne0 c = rw (lt-ltb _ _ c.requires.0, uncoded _ c.if-job-at-ne0.true c.requires.1) refl

pub returns-then-start-job : goal.returns-then-start-job
unfolding item_at
returns-then-start-job c = rw (lt-ltb _ _ c.requires.0, c.if-job-at-ne0.false, eq-eqb _ _ c.if-start-job.true) refl

pub returns : goal.returns
unfolding item_at
returns c = rw (lt-ltb _ _ c.requires.0, c.if-job-at-ne0.false, ne_eqb _ _ c.if-start-job.false) refl
