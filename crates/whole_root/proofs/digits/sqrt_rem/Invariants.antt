-- The invariant is `Brought` of proofs/Loop.antt: the digits brought down are q² + r, and d has those that follow. Each turn lowers 53 - n.
use Prim.Native.Nat.{◌-◌}
use Rattle.whole_root.proofs.Loop.{Brought}
use Rattle.whole_root.proofs.digits.sqrt_rem.Given as goal

abbrev pub invariant-loop-n : goal.invariant-loop-n
invariant-loop-n l = Brought l.fn.of.m l.d l.s.root l.s.rem l.n

abbrev pub decreases-loop-n : goal.decreases-loop-n
decreases-loop-n l = 53 - l.n
