-- How a pattern is held: up to five codes, at the end of an array. Definitions only.
use Rattle.std.specs.Prelude.{length, drop, replicate, ℕ, ◌-◌, List, ◌++◌}
use Rattle.command_patterns.specs.declared.pattern.Pattern.TheInside.{Inside}

-- the codes that it holds: those from the first on
abbrev pub codes_of : Inside → List ℕ
codes_of p = drop p.first p.codes

-- how up to five codes are held: zeros stand before them
abbrev pub held : List ℕ → Inside
held p = record { codes = replicate (5 - length p) 0 ++ p; first = 5 - length p }
