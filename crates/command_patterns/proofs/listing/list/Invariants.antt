-- The invariant: the listing is what is written so far, then the lines of the ranks from this one on.
use Rattle.std.proofs.Common.{◌-◌, ◌≡◌}
use Rattle.command_patterns.specs.Patterns.{count, patterns_from}
use Rattle.command_patterns.specs.Listing.{lines, listing}
use Rattle.command_patterns.proofs.Filling.{Filling}
use Rattle.command_patterns.proofs.listing.list.Given as goal

abbrev pub invariant-loop-rank : goal.invariant-loop-rank
invariant-loop-rank l =
    record {
      all : l.rank-end ≡ count l.n;
      filling : Filling (listing l.n) l.out l.initial.out (lines (patterns_from l.rank (l.rank-end - l.rank))) l.at;
    }
