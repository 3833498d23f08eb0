-- The invariant: the line is what is written so far, then the line of the codes that are left.
use Rattle.std.proofs.Common.{T, drop, ◌*◌}
use Rattle.command_patterns.specs.Patterns.{all_codes}
use Rattle.command_patterns.specs.Listing.{line}
use Rattle.command_patterns.proofs.Filling.{Filling}
use Rattle.command_patterns.proofs.line.put_line.Given as goal

abbrev pub invariant-loop-i : goal.invariant-loop-i
invariant-loop-i l =
    record {
      right : T (all_codes (drop l.i l.codes));
      filling : Filling (line l.codes) l.out l.initial.out (line (drop l.i l.codes)) (3 * l.i);
    }
