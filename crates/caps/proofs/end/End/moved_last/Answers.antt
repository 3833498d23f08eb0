-- A longitude that is not 0 modulo π/2 is left as it is.
use lib.Ieee.{Float, eq, ne}
use mathlib.Core.Bool.{Bool, true, false, cond, not, ◌&&◌, false≢true}
use mathlib.Core.Path.{◌≡◌, refl, sym, ap, ◌∙◌}
use Rattle.angles.specs.Floats.{plus_zero}
use Rattle.angles.specs.Constants.{half_pi}
use Rattle.coo3d.specs.Points.{from_sph_coo}
use Rattle.caps.specs.SameQuarter.{end_lon}
use Rattle.caps.proofs.end.End.moved_last.Goals as goal

left : (known zero : Bool) (lon : Float) → (known && not zero) ≡ true → cond zero half_pi lon ≡ lon
left true false lon h = refl
left true true lon h = absurd (false≢true h)
left false zero lon h = absurd (false≢true h)

pub returns-then-self : goal.returns-then-self
unfolding end_lon ne
returns-then-self c =
    let p = c.args.self.point in
    c.in_first_quarter.ensures
    ∙ ap (λ (z : Float). from_sph_coo z p.lat) (sym (left c.args.self.of_angles (eq p.lon_mod plus_zero) p.lon_mod c.if-self.true))
