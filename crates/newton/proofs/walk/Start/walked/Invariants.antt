-- The loop keeps the walk's whole equal to what is left of it at `w`; it stops where nothing is left.
use Prim.Native.Nat.{◌≤◌, ◌-◌}
use mathlib.Core.Path.{◌≡◌}
use Rattle.newton.proofs.Walking.{rest}
use Rattle.newton.proofs.walk.Start.walked.Given as goal

abbrev pub invariant-loop-w : goal.invariant-loop-w
invariant-loop-w l = (l.w.steps ≤ l.allowance) × (rest l.slope l.limit l.allowance l.w ≡ rest l.slope l.limit l.allowance l.initial.w)

abbrev pub decreases-loop-w : goal.decreases-loop-w
decreases-loop-w l = l.allowance - l.w.steps
