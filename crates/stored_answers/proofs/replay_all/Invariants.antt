-- No more differ than were replayed.
use Prim.Native.Nat.{◌≤◌}
use Rattle.stored_answers.proofs.replay_all.Given as goal

abbrev pub invariant-loop-replayed : goal.invariant-loop-replayed
invariant-loop-replayed l = l.differ ≤ l.replayed
