-- Vectors of the source's coo3d.rs (document 01, "Points"), each expression in its grouping. Definitions only.
use Rattle.std.specs.Float.Ieee.{neg, le}
use Rattle.std.specs.Prelude.{Bool, cond, Float}
use Rattle.root.specs.Root.{root_of}
use Rattle.angles.specs.Floats.{◌⊕◌, ◌⊖◌, ◌⊗◌, ◌⊘◌, one, abs_of}
use Rattle.angles.specs.Constants.{epsilon}
use Rattle.coo3d.specs.declared.vect3.Vect3.{Vect3}

abbrev pub vect : Float → Float → Float → Vect3
vect a b c = record { x = a; y = b; z = c }

unfoldable pub dot_of : Vect3 → Vect3 → Float
dot_of v w = v.x ⊗ w.x ⊕ v.y ⊗ w.y ⊕ v.z ⊗ w.z

unfoldable pub cross_of : Vect3 → Vect3 → Vect3
cross_of v w = vect (v.y ⊗ w.z ⊖ v.z ⊗ w.y) (v.z ⊗ w.x ⊖ v.x ⊗ w.z) (v.x ⊗ w.y ⊖ v.y ⊗ w.x)

unfoldable pub squared_norm_of : Vect3 → Float
squared_norm_of v = v.x ⊗ v.x ⊕ v.y ⊗ v.y ⊕ v.z ⊗ v.z

unfoldable pub norm_of : Vect3 → Float
norm_of v = root_of (squared_norm_of v)

unfoldable pub divided_by : Vect3 → Float → Vect3
divided_by v n = vect (v.x ⊘ n) (v.y ⊘ n) (v.z ⊘ n)

unfoldable pub normalized_of : Vect3 → Vect3
normalized_of v = divided_by v (norm_of v)

-- the squared norm is within 2⁻⁵² of 1 (a NaN isn't)
unfoldable pub is_unit : Vect3 → Bool
is_unit v = le (abs_of (squared_norm_of v ⊖ one)) epsilon

-- `UnitVect3::new` divides by the norm again unless the vector `is_unit`
unfoldable pub new_unit : Float → Float → Float → Vect3
new_unit a b c =
    let v = vect a b c in
    cond (is_unit v) v (normalized_of v)

-- `opposite` passes through `UnitVect3::new`
unfoldable pub opposite_of : Vect3 → Vect3
opposite_of v = new_unit (neg v.x) (neg v.y) (neg v.z)
