-- By the laws of a number and its negative.
use mathlib.Core.Path.{sym, ◌∙◌}
use Rattle.angles.proofs.Opposite.{of_numbers, of_others}
use Rattle.angles.proofs.inverse.atan2_of_opposites.Goals as goal

pub returns-then-is_finite : goal.returns-then-is_finite
returns-then-is_finite c =
    let h = of_numbers c.args.y c.args.x (rw (← c.is_finite.ensures, ← c.is_finite-2.ensures) c.if-is_finite.true) in (
      simp (h.0, ← c.signed.ensures, ← c.reflected.ensures, ← c.sign-left.ensures, ← c.sign-below.ensures, ← c.first_quadrant-a.ensures, ← c.abs.ensures, ← c.abs-then-is_finite.ensures),
      simp (h.1, ← c.signed-then-is_finite.ensures, ← c.reflected-then-is_finite.ensures, ← c.sign-left.ensures, ← c.sign-below.ensures, ← c.first_quadrant-a.ensures, ← c.abs.ensures, ← c.abs-then-is_finite.ensures),
    )

pub returns-else-is_finite : goal.returns-else-is_finite
returns-else-is_finite c =
    let h = of_others c.args.y c.args.x (rw (← c.is_finite.ensures, ← c.is_finite-2.ensures) c.if-is_finite.false) in
    (c.not_a_number.ensures ∙ sym h.0, c.not_a_number-else-is_finite.ensures ∙ sym h.1)
