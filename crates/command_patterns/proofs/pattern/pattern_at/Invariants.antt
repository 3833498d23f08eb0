-- The invariant: the pattern is the digits of what is left of a number, then the codes that stand already, and there is room for those digits.
use Rattle.std.proofs.Common.{length, take, drop, replicate, ◌≤◌, ◌≡◌, ◌++◌}
use Rattle.command_patterns.specs.Patterns.{count, digits, pattern_at}
use Rattle.command_patterns.proofs.pattern.pattern_at.Given as goal

abbrev pub invariant-loop-left : goal.invariant-loop-left
invariant-loop-left l =
    record {
      long : length l.codes ≡ 5;
      within : l.first ≤ 5;
      room : l.left ≤ count l.first;
      zeros : take l.first l.codes ≡ replicate l.first 0;
      so_far : pattern_at l.rank ≡ digits l.left l.left ++ drop l.first l.codes;
    }

abbrev pub decreases-loop-left : goal.decreases-loop-left
decreases-loop-left l = l.left
