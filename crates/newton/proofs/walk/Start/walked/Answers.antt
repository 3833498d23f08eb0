-- The loop keeps the walk's whole equal to what is left of it at `w`; it stops where nothing is left.
use Prim.Native.Nat.{◌<◌}
use native.Mathlib.Nat.{sub-zero}
use native.Mathlib.Omega.{arith}
use mathlib.Core.Path.{◌≡◌, refl, sym, ap, ◌∙◌}
use mathlib.Core.Bool.{true, false}
use Rattle.newton.specs.declared.walk.Walk.{Walk}
use Rattle.newton.specs.Walks.{start_walk, step_of, walk_of}
use Rattle.newton.proofs.Walking.{turns, left_over, turn, stop}
use Rattle.newton.proofs.walk.Start.walked.Goals as goal
use Rattle.newton.proofs.walk.Start.walked.Goals.{In-loop-w}

goes_on : (c : In-loop-w) →
    let l = c.before.before.before in
    let a = l.args in
    turns a.self.limit a.allowance l.loop-w.w ≡ true
goes_on c = simp (← c.going.ensures) c.loop-w-test.true

more : (c : In-loop-w) → let l = c.before.before.before in l.loop-w.w.steps < l.args.allowance
more c = left_over _ _ _ (goes_on c)

pub loop-w-init : goal.loop-w-init
unfolding start_walk
loop-w-init c = (omega (arith, ap (λ (w : Walk). w.steps) c.start-w.ensures), refl)

pub loop-w-smaller : goal.loop-w-smaller
unfolding step_of
loop-w-smaller c = omega (arith, more c.before, ap (λ (w : Walk). w.steps) c.step-w.ensures)

pub loop-w-preserved : goal.loop-w-preserved
unfolding step_of
loop-w-preserved c =
    let l = c.before.before.before.before in
    let s = l.args.self in
    let e : c.step-w.result ≡ step_of s.slope l.loop-w.w = c.step-w.ensures in (
      omega (arith, more c.before, ap (λ (w : Walk). w.steps) e),
      simp c.step-w.ensures (sym (turn s.slope _ _ _ (goes_on c.before)) ∙ l.loop-w.invariant.1),
    )

pub returns : goal.returns
unfolding walk_of start_walk
returns c =
    let l = c.before.before.before in
    let a = l.args in
    let stops : turns a.self.limit a.allowance l.loop-w.w ≡ false = simp (← c.going.ensures) c.loop-w-test.false in
    record {
      is_walk = sym (stop a.self.slope _ _ _ stops) ∙ l.loop-w.invariant.1 ∙ simp (l.start-w.ensures, sub-zero);
      within = l.loop-w.invariant.0;
    }
