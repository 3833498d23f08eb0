-- The ranges of a curve's numbers. Definitions only.
use Rattle.std.specs.Prelude.{ℕ, ◌^◌, ◌≤◌, ◌<◌}

pub record Curved (a b c e : ℕ) : Type 0 where
  pub most : a < 2 ^ 32
  pub slope : b ≤ a
  pub bend : c ≤ b
  pub twist : e ≤ c
