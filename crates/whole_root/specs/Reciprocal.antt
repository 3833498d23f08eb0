-- What the one turn of the way by a reciprocal starts from. Definitions only.
use Rattle.std.specs.Prelude.{ℕ, ◌-◌, ◌^◌, ◌≤◌, ◌<◌}

-- s is near enough to √(s * s + d), less than 17 below it, that a p below 2 ^ 26 added to s * 2 ^ 22 is the rest of the root
pub record Begun (s d : ℕ) : Type 0 where
  pub least : 2 ^ 30 - 16 ≤ s
  pub most : s < 2 ^ 31
  pub near : d < 2 ^ 35
