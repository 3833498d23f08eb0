-- The walk's definition, taken one turn of the loop at a time: what is left of the walk after a step is what was left before it.
use lib.Ieee.{Float}
use lib.Dec.{ltb}
use borrow.Author.Tests.{ltb-true, ltb-false}
use Prim.Native.Nat.{ℕ, zero, suc, ◌+◌, ◌-◌, ◌<◌}
use native.Mathlib.Omega.{arith}
use mathlib.Core.Path.{◌≡◌, refl}
use mathlib.Core.Bool.{Bool, true, false, ◌&&◌, true≢false, and-eq-true_iff}
use Rattle.newton.specs.declared.slope.Slope.{Slope}
use Rattle.newton.specs.declared.walk.Walk.{Walk}
use Rattle.newton.specs.Walks.{going_of, step_of, walk_from}

-- the loop's test
abbrev pub turns : Float → ℕ → Walk → Bool
turns limit allowance w = ltb w.steps allowance && going_of limit w

-- what is left of the walk at w
abbrev pub rest : Slope → Float → ℕ → Walk → Walk
rest slope limit allowance w = walk_from slope limit (allowance - w.steps) (going_of limit w) w

stop_by : (slope : Slope) (limit : Float) (w : Walk) (n : ℕ) (less going : Bool)
    → (less ≡ false → n ≡ 0)
    → (less && going) ≡ false
    → walk_from slope limit n going w ≡ w
unfolding walk_from
stop_by slope limit w zero less going e h = refl
stop_by slope limit w (suc n) less false e h = refl
stop_by slope limit w (suc n) true true e h = absurd (true≢false h)
stop_by slope limit w (suc n) false true e h = absurd (omega (arith, e refl))

pub left_over : (limit : Float) (allowance : ℕ) (w : Walk) → turns limit allowance w ≡ true → w.steps < allowance
left_over limit allowance w h = ltb-true w.steps allowance ((and-eq-true_iff (ltb w.steps allowance) (going_of limit w)).0 h).0

module _ (slope : Slope) (limit : Float) (allowance : ℕ) (w : Walk) where
  pub turn : turns limit allowance w ≡ true → rest slope limit allowance w ≡ rest slope limit allowance (step_of slope w)
  unfolding walk_from step_of
  turn h =
      let more = left_over limit allowance w h in
      let left : allowance - w.steps ≡ suc (allowance - (w.steps + 1)) = omega arith in
      simp (left, ((and-eq-true_iff (ltb w.steps allowance) (going_of limit w)).0 h).1)

  pub stop : turns limit allowance w ≡ false → rest slope limit allowance w ≡ w
  stop h =
      stop_by slope limit w (allowance - w.steps) (ltb w.steps allowance) (going_of limit w)
      (λ e. omega (arith, ltb-false w.steps allowance e))
      h
