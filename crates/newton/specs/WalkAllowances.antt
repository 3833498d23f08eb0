-- Document 01, "Walks": when a walk ends by itself within an allowance, and what two allowances have to do with it. Definitions and claims;
-- `proofs/WalkAllowances.antt` proves them.
use Rattle.std.specs.Prelude.{Float, ℕ, zero, suc, ◌≤◌, ◌<◌, min, ◌≡◌, false, ◌⊎◌, ◌↔◌}
use Rattle.newton.specs.Walks.{start_walk, going_of, step_of, walk_of}
use Rattle.newton.specs.declared.slope.Slope.{Slope}
use Rattle.newton.specs.declared.walk.Start.{Start}
use Rattle.newton.specs.declared.walk.Walk.{Walk}

-- k steps, run with no allowance at all and no test
unfoldable pub free_steps : Slope → ℕ → Walk → Walk
free_steps slope zero w = w
free_steps slope (suc k) w = free_steps slope k (step_of slope w)

-- from w, the walk would end by itself after at most n steps: some k of them lead to a size not greater than the limit
pub record EndsFrom (slope : Slope) (limit : Float) (n : ℕ) (w : Walk) : Type 0 where
  pub after : ℕ
  pub in_time : after ≤ n
  pub ended : going_of limit (free_steps slope after w) ≡ false

abbrev pub EndsWithin : Start → ℕ → Type 0
EndsWithin s n = EndsFrom s.slope s.limit n (start_walk s.z)

-- the allowances a and b are equal, or the walk ends by itself within the smaller
abbrev pub EqualOrEnds : ℕ → ℕ → Start → Type 0
EqualOrEnds a b s = (a ≡ b) ⊎ EndsWithin s (min a b)

-- For a walk and two allowances: the results are equal if and only if the allowances are equal or the walk ends by itself within the
-- smaller, and equal step counts already give the latter.
pub record TwoAllowances (s : Start) (a b : ℕ) : Type 0 where
  pub law : (walk_of s a ≡ walk_of s b) ↔ EqualOrEnds a b s
  pub steps_tell : (walk_of s a).steps ≡ (walk_of s b).steps → EqualOrEnds a b s

abbrev pub AllowancesOfWalk : Type 0
AllowancesOfWalk = (s : Start) (a b : ℕ) → TwoAllowances s a b

-- What one run tells: a walk whose steps are fewer than its allowance ends by itself within that many.
abbrev pub FewerSteps : Type 0
FewerSteps = (s : Start) (allowance : ℕ) → (walk_of s allowance).steps < allowance → EndsWithin s (walk_of s allowance).steps
