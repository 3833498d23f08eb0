-- The loop keeps the heights after as many halvings.
use mathlib.Core.Path.{◌≡◌}
use Rattle.newton.specs.Halvings.{halvings}
use Rattle.newton.proofs.halving.Heights.last_middle.Given as goal

abbrev pub invariant-loop : goal.invariant-loop
invariant-loop l = l.heights ≡ halvings l.slope l.first l.counter l.initial.heights
