-- What is left of the coefficients, from where the loop has come, gives what all of them do.
use mathlib.Core.Path.{◌≡◌}
use Rattle.std.proofs.Common.{drop}
use Rattle.angles.specs.Inverse.{horner}
use Rattle.angles.proofs.series.horner.Given as goal

abbrev pub invariant-loop-k : goal.invariant-loop-k
invariant-loop-k l = horner l.u l.s (drop l.k-index l.coefficients) ≡ horner l.u l.initial.s l.coefficients
