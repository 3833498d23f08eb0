-- The invariant: the file is checked as what is left of it is, with the bytes counted so far.
use lib.ListN.{length}
use Prim.Native.Nat.{◌*◌, ◌-◌, ◌≤◌}
use mathlib.Core.Path.{◌≡◌}
use Rattle.jobs.specs.Files.{file_of}
use Rattle.jobs.specs.Passes.{checked_of}
use Rattle.jobs.proofs.Items.{parsed_at}
use Rattle.jobs.proofs.file.check.Given as goal

abbrev pub invariant-loop-command : goal.invariant-loop-command
invariant-loop-command l =
    (l.at ≤ length l.job) × (l.total ≤ 92 * l.at) × (length l.job ≤ 16384)
    × (checked_of 0 (file_of l.job) ≡ checked_of l.total (parsed_at l.job l.at))

abbrev pub decreases-loop-command : goal.decreases-loop-command
decreases-loop-command l = length l.job - l.at
