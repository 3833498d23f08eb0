-- Past the end of the file it is cut short; else the test of the operands chooses the case of `item_of_code`.
use borrow.Author.Tests.{le-ltb, le-leb, lt-leb}
use mathlib.Core.Path.{refl}
use Rattle.jobs.specs.Passes.{item_at}
use Rattle.jobs.proofs.Codes.{item_of_code}
use Rattle.jobs.proofs.item.command_at.Goals as goal

pub returns-then-job-at : goal.returns-then-job-at
unfolding item_at
returns-then-job-at c = rw (le-ltb _ _ c.if-job-at.true) refl

pub returns-then-operands-job : goal.returns-then-operands-job
returns-then-operands-job c =
    rw (item_of_code _ _ c.in-Ok.code c.if-job-at.false c.in-Ok.ensures, ← c.operand_width-operands.ensures.0, le-leb _ _ c.if-operands-job.true) refl

pub returns : goal.returns
returns c =
    rw (item_of_code _ _ c.in-Ok.code c.if-job-at.false c.in-Ok.ensures, ← c.operand_width-operands.ensures.0, lt-leb _ _ c.if-operands-job.false) refl
