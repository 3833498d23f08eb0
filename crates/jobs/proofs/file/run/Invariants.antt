-- The invariant: the whole buffer is what is written so far, then what the rest of the file still fills. One command more moves its reply across.
use lib.ListN.{length, take, drop}
use Prim.Native.Nat.{◌-◌, ◌≤◌}
use mathlib.Core.Path.{◌≡◌}
use mathlib.Core.List.{◌++◌}
use Rattle.table.specs.States.{unset}
use Rattle.jobs.specs.Files.{file_of}
use Rattle.jobs.specs.Passes.{Fitting, filled}
use Rattle.jobs.proofs.Items.{parsed_at}
use Rattle.jobs.proofs.file.run.Given as goal

abbrev pub invariant-loop-command : goal.invariant-loop-command
invariant-loop-command l =
    (l.at ≤ length l.job)
    × (l.out ≤ length l.initial.reply)
    × (length l.reply ≡ length l.initial.reply)
    × Fitting (parsed_at l.job l.at) (length l.initial.reply - l.out)
    × (filled unset (file_of l.job) l.initial.reply ≡ take l.out l.reply ++ filled l.state (parsed_at l.job l.at) (drop l.out l.reply))

abbrev pub decreases-loop-command : goal.decreases-loop-command
decreases-loop-command l = length l.job - l.at
