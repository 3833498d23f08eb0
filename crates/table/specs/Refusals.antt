-- Document 01, "Refusals", 6 to 10, and document 02's 12 (ask 3): the number that is replied for each. Definitions only.
use Rattle.std.specs.Prelude.{ℕ}
use Rattle.table.specs.declared.refusal.Refusal.{Refusal}
use Rattle.table.specs.declared.refusal.Refusal.TheVariants.{Unset, NotFinite, NotAFlag, OutOfRange, Unsplit, NoCandidate}

abbrev pub refusal_number : Refusal → ℕ
refusal_number Unset = 6
refusal_number NotFinite = 7
refusal_number NotAFlag = 8
refusal_number OutOfRange = 9
refusal_number Unsplit = 10
refusal_number NoCandidate = 12
