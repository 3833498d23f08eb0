-- The opposite of a vector has the same squared norm; so that of a unit vector is not divided again.
use lib.Ieee.{Float, nan, inf, fin, neg, mul}
use mathlib.Core.Path.{◌≡◌, refl}
use mathlib.Core.Bool.{true, false}
use Rattle.angles.specs.Floats.{◌⊗◌}
use Rattle.coo3d.specs.Vectors.{vect, squared_norm_of, is_unit, new_unit, opposite_of}
use Rattle.coo3d.specs.declared.vect3.Vect3.{Vect3}

square : (x : Float) → neg x ⊗ neg x ≡ x ⊗ x
unfolding mul neg
square nan = refl
square (inf true) = refl
square (inf false) = refl
square (fin true m e) = refl
square (fin false m e) = refl

same_norm : (v : Vect3) → squared_norm_of (vect (neg v.x) (neg v.y) (neg v.z)) ≡ squared_norm_of v
unfolding squared_norm_of
same_norm v = rw (square v.x, square v.y, square v.z) refl

pub unit_opposite : (v : Vect3) → is_unit v ≡ true → opposite_of v ≡ vect (neg v.x) (neg v.y) (neg v.z)
unfolding opposite_of new_unit is_unit
unit_opposite v h = rw (same_norm v, h) refl
