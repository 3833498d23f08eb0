-- The ends are points of angles, as their angles are in range.
use mathlib.Core.Path.{◌≡◌, refl}
use mathlib.Core.Bool.{Bool, true, false, ◌&&◌, false≢true}
use Rattle.coo3d.specs.LonLats.{is_longitude, is_latitude}
use Rattle.coo3d.specs.TurnedBack.{OfAngles}
use Rattle.coo3d.proofs.TurnedBack.{of_angles}
use Rattle.arc_ends.specs.Ends.{ends_in_range, point1, point2}
use Rattle.arc_ends.specs.declared.ends.Ends.{Ends}
use Rattle.arc_turns.proofs.arc_turn.slots_or_refusal.Goals as goal

all : (a b c d : Bool) → (a && b && c && d) ≡ true → (a ≡ true) × (b ≡ true) × (c ≡ true) × (d ≡ true)
all true true true d h = (refl, refl, refl, h)
all true true false d h = absurd (false≢true h)
all true false c d h = absurd (false≢true h)
all false b c d h = absurd (false≢true h)

ends_of_angles : (e : Ends) → ends_in_range e ≡ true → OfAngles (point1 e) × OfAngles (point2 e)
unfolding ends_in_range
ends_of_angles e h =
    let r = all (is_longitude e.lon1) (is_latitude e.lat1) (is_longitude e.lon2) (is_latitude e.lat2) h in
    (of_angles e.lon1 e.lat1 r.0 r.1, of_angles e.lon2 e.lat2 r.2 r.3)

pub arc_special_points-requires : goal.arc_special_points-requires
arc_special_points-requires c =
    rw (c.from_angles_in_range-p1.ensures, c.from_angles_in_range-p2.ensures) (ends_of_angles c.args.e c.requires)
