-- For every walk and any two allowances: `TwoAllowances` (specs/WalkAllowances.antt). By the number of steps that the smaller allowance still has:
-- a walk that has ended by then takes no step more with the larger, and one that has not takes at least one.
use lib.Ieee.{Float}
use lib.Dec.{leb}
use borrow.Author.Tests.{leb-true, leb-false}
use Prim.Native.Nat.{ℕ, zero, suc, ◌+◌, ◌≤◌, ◌<◌, min}
use native.Mathlib.Nat.{le_trans, min-eq_left, min_comm}
use native.Mathlib.Omega.{arith}
use mathlib.Core.Path.{◌≡◌, refl, sym, ap, ◌∙◌}
use mathlib.Core.Bool.{Bool, true, false, true≢false}
use mathlib.Core.Logic.{◌⊎◌, inl, inr, ⊎_elim}
use Rattle.newton.specs.declared.slope.Slope.{Slope}
use Rattle.newton.specs.declared.walk.Start.{Start}
use Rattle.newton.specs.declared.walk.Walk.{Walk}
use Rattle.newton.specs.Walks.{going_of, start_walk, step_of, walk_from, walk_of}
use Rattle.newton.specs.WalkAllowances.{free_steps, EndsFrom, EndsWithin, EqualOrEnds, TwoAllowances, AllowancesOfWalk, FewerSteps}

module _ (slope : Slope) (limit : Float) where
  -- a walk takes no step back
  grows : (n : ℕ) (going : Bool) (w : Walk) → w.steps ≤ (walk_from slope limit n going w).steps
  unfolding walk_from step_of
  grows zero going w = omega arith
  grows (suc n) false w = omega arith
  grows (suc n) true w = let v = step_of slope w in omega (arith, grows n (going_of limit v) v)

  -- an allowance past the end changes nothing
  past : (k n : ℕ) (going : Bool) (w : Walk)
      → going ≡ going_of limit w
      → k ≤ n
      → going_of limit (free_steps slope k w) ≡ false
      → walk_from slope limit n going w ≡ walk_from slope limit k going w
  unfolding walk_from free_steps
  past zero zero going w e l h = refl
  past zero (suc n) true w e l h = absurd (true≢false (e ∙ h))
  past zero (suc n) false w e l h = refl
  past (suc k) zero going w e l h = absurd (omega arith)
  past (suc k) (suc n) false w e l h = refl
  past (suc k) (suc n) true w e l h = let v = step_of slope w in past k n (going_of limit v) v refl (omega arith) h

  at_once : (n : ℕ) (w : Walk) → going_of limit w ≡ false → EndsFrom slope limit n w
  unfolding free_steps
  at_once n w h = record { after = 0; in_time = omega arith; ended = h }

  -- equal counts: the allowances are equal, or the walk has ended within a
  apart : (a b : ℕ) (going : Bool) (w : Walk)
      → going ≡ going_of limit w
      → a ≤ b
      → (walk_from slope limit a going w).steps ≡ (walk_from slope limit b going w).steps
      → (a ≡ b) ⊎ EndsFrom slope limit a w
  unfolding walk_from free_steps step_of
  apart zero zero going w e l h = inl refl
  apart zero (suc b) false w e l h = inr (at_once 0 w (sym e))
  apart zero (suc b) true w e l h = let v = step_of slope w in absurd (omega (arith, grows b (going_of limit v) v))
  apart (suc a) zero going w e l h = absurd (omega arith)
  apart (suc a) (suc b) false w e l h = inr (at_once (suc a) w (sym e))
  apart (suc a) (suc b) true w e l h =
      let v = step_of slope w in
      ⊎_elim
      (λ p. inl (ap suc p))
      (λ (q : EndsFrom slope limit a v). inr (record { after = suc q.after; in_time = omega arith; ended = q.ended }))
      (apart a b (going_of limit v) v refl (omega arith) h)

  -- k steps, which are fewer than n: the walk has ended within k
  fewer : (n k : ℕ) (going : Bool) (w : Walk)
      → going ≡ going_of limit w
      → k < n
      → (walk_from slope limit n going w).steps ≡ w.steps + k
      → EndsFrom slope limit k w
  unfolding walk_from free_steps step_of
  fewer zero k going w e l h = absurd (omega arith)
  fewer (suc n) k false w e l h = at_once k w (sym e)
  fewer (suc n) zero true w e l h = let v = step_of slope w in absurd (omega (arith, grows n (going_of limit v) v))
  fewer (suc n) (suc k) true w e l h =
      let v = step_of slope w in
      let q = fewer n k (going_of limit v) v refl (omega arith) (omega arith) in
      record { after = suc q.after; in_time = omega (arith, q.in_time); ended = q.ended }

  -- no more steps than allowed
  at_most : (n : ℕ) (going : Bool) (w : Walk) → (walk_from slope limit n going w).steps ≤ w.steps + n
  unfolding walk_from step_of
  at_most zero going w = omega arith
  at_most (suc n) false w = omega arith
  at_most (suc n) true w = let v = step_of slope w in omega (arith, at_most n (going_of limit v) v)

pub within_allowance : (s : Start) (allowance : ℕ) → (walk_of s allowance).steps ≤ allowance
unfolding walk_of start_walk
within_allowance s n = let w = start_walk s.z in omega (arith, at_most s.slope s.limit n (going_of s.limit w) w)

pub fewer_steps : FewerSteps
unfolding walk_of start_walk
fewer_steps s n l =
    let w = start_walk s.z in
    let going = going_of s.limit w in
    fewer s.slope s.limit n (walk_from s.slope s.limit n going w).steps going w refl l (omega arith)

ends_same : (s : Start) (a b : ℕ) → a ≤ b → EndsWithin s a → walk_of s a ≡ walk_of s b
unfolding walk_of
ends_same s a b l q =
    let w = start_walk s.z in
    past s.slope s.limit q.after a (going_of s.limit w) w refl q.in_time q.ended
    ∙ sym (past s.slope s.limit q.after b (going_of s.limit w) w refl (le_trans q.in_time l) q.ended)

steps_apart : (s : Start) (a b : ℕ) → a ≤ b → (walk_of s a).steps ≡ (walk_of s b).steps → (a ≡ b) ⊎ EndsWithin s a
unfolding walk_of
steps_apart s a b l h =
    let w = start_walk s.z in apart s.slope s.limit a b (going_of s.limit w) w refl l h

swapped : (s : Start) (a b : ℕ) → EqualOrEnds a b s → EqualOrEnds b a s
swapped s a b (inl e) = inl (sym e)
swapped s a b (inr q) = inr (rw (min_comm b a) q)

ordered : (s : Start) (a b : ℕ) → a ≤ b → TwoAllowances s a b
ordered s a b l =
    let tell : (walk_of s a).steps ≡ (walk_of s b).steps → EqualOrEnds a b s = λ h. rw (min-eq_left l) (steps_apart s a b l h) in
    record {
      law = (
        λ h. tell (ap (λ (w : Walk). w.steps) h),
        ⊎_elim (λ (e : a ≡ b). ap (walk_of s) e) (λ (q : EndsWithin s (min a b)). ends_same s a b l (rw (min-eq_left l) at q)),
      );
      steps_tell = tell;
    }

-- The law of two allowances, for every walk.
pub two_allowances : AllowancesOfWalk
two_allowances s a b = by (leb a b) refl
  where
    by : (x : Bool) → leb a b ≡ x → TwoAllowances s a b
    by true e = ordered s a b (leb-true a b e)
    by false e =
        let t = ordered s b a (omega (arith, leb-false a b e)) in
        record {
          law = (λ h. swapped s b a (t.law.0 (sym h)), λ q. sym (t.law.1 (swapped s a b q)));
          steps_tell = λ h. swapped s b a (t.steps_tell (sym h));
        }
