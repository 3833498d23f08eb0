-- One turn is one halving; after 59 the loop ends.
use Prim.Native.Nat.{ℕ}
use native.Mathlib.Numerals.{unary_clauses}
use native.Mathlib.Omega.{arith}
use mathlib.Core.Path.{◌≡◌, refl, ap, ◌∙◌}
use lib.Ieee.{Float}
use Rattle.newton.specs.Slopes.{slope_at}
use Rattle.newton.specs.Halvings.{middle_of, halved_of, halvings, last_middle}
use Rattle.newton.proofs.halving.Heights.last_middle.Goals as goal

pub loop-init : goal.loop-init
unfolding halvings
loop-init c = refl

pub loop-preserved : goal.loop-preserved
unfolding halvings
loop-preserved c = simp unary_clauses (c.halved-heights.ensures ∙ ap (halved_of c.args.slope c.slope-first.result) c.loop.invariant)

pub returns : goal.returns
unfolding last_middle
returns c =
    let s = c.args.slope in
    let h = c.args.self in
    let ended : c.loop.counter ≡ 59 = omega arith in
    c.middle.ensures
    ∙ ap middle_of
    (c.loop.invariant ∙ ap (λ (f : Float). halvings s f c.loop.counter h) c.slope-first.ensures ∙ ap (λ (n : ℕ). halvings s (slope_at s h.z1) n h) ended)
