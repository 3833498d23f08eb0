-- Document 01, "Walks": what two allowances have to do with the slots of any plans. Definitions and claims; `proofs/PlanAllowances.antt` proves them.
use Rattle.std.specs.Prelude.{ℕ, ◌≤◌, ◌<◌, ◌≡◌, List, [], ◌∷◌, ◌↔◌}
use Rattle.newton.specs.WalkAllowances.{EndsWithin, EqualOrEnds}
use Rattle.newton.specs.declared.walk.Start.{Start}
use Rattle.plans.specs.Plans.{slots_of, walks_in, steps_of, steps_at, walks_at}
use Rattle.plans.specs.declared.plan.Plan.{Plan}

-- for each walk, the allowances a and b are equal or it ends by itself within the smaller
unfoldable pub AllEqualOrEnd : ℕ → ℕ → List Start → Type 0
AllEqualOrEnd a b [] = Unit
AllEqualOrEnd a b (s ∷ ss) = EqualOrEnds a b s × AllEqualOrEnd a b ss

-- each walk ends by itself within so many steps
unfoldable pub AllEndWithin : ℕ → List Start → Type 0
AllEndWithin n [] = Unit
AllEndWithin n (s ∷ ss) = EndsWithin s n × AllEndWithin n ss

-- For any plans, of arcs or cones, and two allowances: the slots are equal if and only if, for each walk that begins, the allowances are
-- equal or it ends by itself within the smaller, and equal step counts already give the latter.
pub record PlansAllowances (ps : List Plan) (a b : ℕ) : Type 0 where
  pub law : (slots_of a ps ≡ slots_of b ps) ↔ AllEqualOrEnd a b (walks_in ps)
  pub steps_tell : steps_of (slots_of a ps) ≡ steps_of (slots_of b ps) → AllEqualOrEnd a b (walks_in ps)

abbrev pub AllowancesOfPlans : Type 0
AllowancesOfPlans = (ps : List Plan) (a b : ℕ) → PlansAllowances ps a b

-- What one run tells: a slot's walk whose steps are fewer than its allowance ends by itself within that many.
abbrev pub EndedOfPlans : Type 0
EndedOfPlans =
    (ps : List Plan) (a i : ℕ) → steps_at i (slots_of a ps) < a → AllEndWithin (steps_at i (slots_of a ps)) (walks_at i ps)

-- What step counts tell: those of one slot are equal exactly when the allowances are equal or its walk ends by itself within the smaller; and where each
-- count is below a, that holds of every walk for exactly those allowances b that are at least each count.
pub record StepsTell (ps : List Plan) (a b : ℕ) : Type 0 where
  pub of_slot : (i : ℕ) → (steps_at i (slots_of a ps) ≡ steps_at i (slots_of b ps)) ↔ AllEqualOrEnd a b (walks_at i ps)
  pub of_one_run :
      ((i : ℕ) → steps_at i (slots_of a ps) < a)
      → AllEqualOrEnd a b (walks_in ps) ↔ ((i : ℕ) → steps_at i (slots_of a ps) ≤ b)

abbrev pub StepsOfPlans : Type 0
StepsOfPlans = (ps : List Plan) (a b : ℕ) → StepsTell ps a b
