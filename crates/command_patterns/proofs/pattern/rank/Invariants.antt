-- The invariant: the codes that are left decide, after those before them, which come to the number.
use Rattle.std.proofs.Common.{drop, ◌≤◌}
use Rattle.command_patterns.specs.Patterns.{count}
use Rattle.command_patterns.proofs.Ranks.{Left}
use Rattle.command_patterns.proofs.pattern.rank.Given as goal

abbrev pub invariant-loop-code : goal.invariant-loop-code
invariant-loop-code l =
    record {
      few : l.number ≤ count l.code-index;
      left : Left l.codes (drop l.code-index l.codes) l.number;
    }
