-- For any plans and any two allowances: the claims of specs/PlanAllowances.antt. The law of two allowances of each walk is carried along the list of
-- the plans; no case of the geometry enters.
use Prim.Native.Nat.{ℕ, zero, suc, ◌≤◌, ◌<◌}
use native.Mathlib.Omega.{arith}
use mathlib.Core.Path.{◌≡◌, refl, ap}
use mathlib.Core.List.{List, [], ◌∷◌}
use mathlib.Core.Logic.{◌↔◌, inr}
use Rattle.newton.specs.Walks.{walk_of}
use Rattle.newton.specs.WalkAllowances.{EqualOrEnds}
use Rattle.newton.specs.declared.walk.Start.{Start}
use Rattle.newton.proofs.WalkAllowances.{two_allowances, within_allowance, fewer_steps}
use Rattle.answers.specs.Answers.{without_walk}
use Rattle.plans.specs.declared.plan.Plan.{Plan}
use Rattle.plans.specs.declared.plan.Plan.TheVariants.{NoPiece, NoWalk, Begins}
use Rattle.plans.specs.Plans.{slot_at, slots_of, walks_in, steps_of, steps_at, walks_at}
use Rattle.plans.specs.PlanAllowances.{AllEqualOrEnd, AllEndWithin, AllowancesOfPlans, EndedOfPlans, StepsOfPlans}

module _ (a b : ℕ) where
  tell : (ps : List Plan) → steps_of (slots_of a ps) ≡ steps_of (slots_of b ps) → AllEqualOrEnd a b (walks_in ps)
  unfolding steps_of slots_of slot_at walks_in AllEqualOrEnd
  tell [] h = tt
  tell (NoPiece ∷ ps) h = tell ps (cc)
  tell (NoWalk ∷ ps) h = tell ps (cc)
  tell (Begins s e ∷ ps) h = ((two_allowances s a b).steps_tell (cc), tell ps (cc))

  same : (ps : List Plan) → AllEqualOrEnd a b (walks_in ps) → slots_of a ps ≡ slots_of b ps
  unfolding slots_of slot_at walks_in AllEqualOrEnd
  same [] m = refl
  same (NoPiece ∷ ps) m = simp (same ps m)
  same (NoWalk ∷ ps) m = simp (same ps m)
  same (Begins s e ∷ ps) m =
      let w : walk_of s a ≡ walk_of s b = (two_allowances s a b).law.1 m.0 in simp (w, same ps m.1)

-- The law of two allowances, for any plans.
pub plans_allowances : AllowancesOfPlans
plans_allowances ps a b = record { law = (λ h. tell a b ps (ap steps_of h), same a b ps); steps_tell = tell a b ps }

-- ---- what step counts tell
slot_law : (a b : ℕ) (ps : List Plan) (i : ℕ)
    → (steps_at i (slots_of a ps) ≡ steps_at i (slots_of b ps)) ↔ AllEqualOrEnd a b (walks_at i ps)
unfolding steps_of slots_of walks_in AllEqualOrEnd
slot_law a b [] zero = (λ h. tt, λ m. refl)
slot_law a b [] (suc i) = (λ h. tt, λ m. refl)
slot_law a b (p ∷ ps) zero =
    let l = plans_allowances (p ∷ []) a b in (λ h. l.steps_tell (ap (λ (n : ℕ). n ∷ []) h), λ m. ap (steps_at 0) (l.law.1 m))
slot_law a b (p ∷ ps) (suc i) = slot_law a b ps i

-- fewer than allowed
pub ended_of_plans : EndedOfPlans
unfolding steps_of slots_of slot_at walks_in AllEndWithin
ended_of_plans [] a zero l = tt
ended_of_plans [] a (suc i) l = tt
ended_of_plans (NoPiece ∷ ps) a zero l = tt
ended_of_plans (NoWalk ∷ ps) a zero l = tt
ended_of_plans (Begins s e ∷ ps) a zero l = (fewer_steps s a l, tt)
ended_of_plans (p ∷ ps) a (suc i) l = ended_of_plans ps a i l

-- no slot has more steps than allowed
within : (n : ℕ) (ps : List Plan) (i : ℕ) → steps_at i (slots_of n ps) ≤ n
unfolding steps_of slots_of slot_at without_walk
within n [] i = omega arith
within n (NoPiece ∷ ps) zero = omega arith
within n (NoWalk ∷ ps) zero = omega arith
within n (Begins s e ∷ ps) zero = within_allowance s n
within n (p ∷ ps) (suc i) = within n ps i

-- steps fewer than the allowance a, and not more than b
ended : (a b : ℕ) (s : Start) → (walk_of s a).steps < a → (walk_of s a).steps ≤ b → EqualOrEnds a b s
ended a b s l h =
    let q = fewer_steps s a l in inr (record { after = q.after; in_time = omega (arith, q.in_time); ended = q.ended })

from_there_on : (a b : ℕ) (ps : List Plan)
    → ((i : ℕ) → steps_at i (slots_of a ps) < a)
    → ((i : ℕ) → steps_at i (slots_of a ps) ≤ b)
    → AllEqualOrEnd a b (walks_in ps)
unfolding steps_of slots_of slot_at walks_in AllEqualOrEnd
from_there_on a b [] l h = tt
from_there_on a b (NoPiece ∷ ps) l h = from_there_on a b ps (λ i. l (suc i)) (λ i. h (suc i))
from_there_on a b (NoWalk ∷ ps) l h = from_there_on a b ps (λ i. l (suc i)) (λ i. h (suc i))
from_there_on a b (Begins s e ∷ ps) l h =
    (ended a b s (l 0) (h 0), from_there_on a b ps (λ i. l (suc i)) (λ i. h (suc i)))

pub steps_of_plans : StepsOfPlans
steps_of_plans ps a b =
    record {
      of_slot = slot_law a b ps;
      of_one_run =
          λ l. (
            λ m i. let e = (plans_allowances ps a b).law.1 m in rw e (within b ps i),
            from_there_on a b ps l,
          );
    }
