-- Document 01, "Walks": a walk, its limit, and the step at which it ends. Definitions only.
use Rattle.std.specs.Prelude.{Float, ℕ, zero, suc, ◌+◌, ◌≤◌, ◌≡◌, Bool, true, false}
use Rattle.std.specs.Float.Ieee.{lt}
use Rattle.angles.specs.Floats.{◌⊖◌, ◌⊗◌, one, abs_of, min_of, max_of}
use Rattle.angles.specs.Constants.{fiftieth, least_limit}
use Rattle.newton.specs.Slopes.{ratio_at}
use Rattle.newton.specs.declared.slope.Slope.{Slope}
use Rattle.newton.specs.declared.walk.Start.{Start}
use Rattle.newton.specs.declared.walk.Walk.{Walk}

-- min(precision, 0.02 × h), then max with 1e-15, each giving the other operand for a NaN
unfoldable pub limit_of : Float → Float → Float
limit_of precision h = max_of (min_of precision (fiftieth ⊗ h)) least_limit

abbrev pub walk_at : Float → Float → ℕ → Walk
walk_at z size steps = record { z = z; size = size; steps = steps }

-- a walk starts at a height, with step size 1
unfoldable pub start_walk : Float → Walk
start_walk z = walk_at z one 0

-- |step| is greater than the limit
unfoldable pub going_of : Float → Walk → Bool
going_of limit w = lt limit (abs_of w.size)

-- it takes step = slope / derivative at the height, and subtracts it
unfoldable pub step_of : Slope → Walk → Walk
step_of slope w = let d = ratio_at slope w.z in walk_at (w.z ⊖ d) d (w.steps + 1)

-- from w, while it goes on, at most n steps more; the Bool says whether it goes on from w
unfoldable pub walk_from : Slope → Float → ℕ → Bool → Walk → Walk
walk_from slope limit zero going w = w
walk_from slope limit (suc n) false w = w
walk_from slope limit (suc n) true w = let v = step_of slope w in walk_from slope limit n (going_of limit v) v

-- the walk that begins at s, with an allowance
unfoldable pub walk_of : Start → ℕ → Walk
walk_of s allowance =
    let w = start_walk s.z in walk_from s.slope s.limit allowance (going_of s.limit w) w

-- What the code promises of a walk.
pub record Walked (s : Start) (allowance : ℕ) (w : Walk) : Type 0 where
  pub is_walk : w ≡ walk_of s allowance
  pub within : w.steps ≤ allowance
