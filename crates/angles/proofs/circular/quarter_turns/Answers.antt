-- Each return is the branch of `quarter_turns` that the tests chose; the literals 1, 2 and 3 compute to the same floats as `of_nat`.
use lib.Ieee.{of_int, of_bits}
use Rattle.angles.specs.Circular.{quarter_turns}
use Rattle.angles.proofs.circular.quarter_turns.Goals as goal

pub returns-then-a : goal.returns-then-a
unfolding quarter_turns of_int of_bits
returns-then-a c = simp c.if-a.true

pub returns-then-a-2 : goal.returns-then-a-2
unfolding quarter_turns of_int of_bits
returns-then-a-2 c = simp (c.if-a-2.true, c.if-a.false)

pub returns-then-a-3 : goal.returns-then-a-3
unfolding quarter_turns of_int of_bits
returns-then-a-3 c = simp (c.if-a-3.true, c.if-a-2.false, c.if-a.false)

pub returns-else-a-3 : goal.returns-else-a-3
unfolding quarter_turns of_int of_bits
returns-else-a-3 c = simp (c.if-a-3.false, c.if-a-2.false, c.if-a.false)
