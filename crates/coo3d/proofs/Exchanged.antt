-- A cross product with its vectors exchanged has the same squared norm, and a height of the same size.
use mathlib.Core.Path.{◌≡◌}
use Rattle.angles.specs.Floats.{◌⊖◌, ◌⊗◌, abs_of}
use lib.Ieee.{Float}
use Rattle.bounds.proofs.Exchanged.{times_comm, abs_sub, same_square}
use Rattle.coo3d.specs.Vectors.{cross_of, squared_norm_of}
use Rattle.coo3d.specs.declared.vect3.Vect3.{Vect3}

cross_part : (a b c d : Float) → abs_of (a ⊗ b ⊖ c ⊗ d) ≡ abs_of (d ⊗ c ⊖ b ⊗ a)
cross_part a b c d = rw (times_comm d c, times_comm b a) (abs_sub (a ⊗ b) (c ⊗ d))

module _ (v w : Vect3) where
  pub cross_height : abs_of ((cross_of w v).z) ≡ abs_of ((cross_of v w).z)
  unfolding cross_of
  cross_height = cross_part w.x v.y w.y v.x

  pub cross_norm : squared_norm_of (cross_of w v) ≡ squared_norm_of (cross_of v w)
  unfolding cross_of squared_norm_of
  cross_norm =
      rw (
        same_square (w.y ⊗ v.z ⊖ w.z ⊗ v.y) (v.y ⊗ w.z ⊖ v.z ⊗ w.y) (cross_part w.y v.z w.z v.y),
        same_square (w.z ⊗ v.x ⊖ w.x ⊗ v.z) (v.z ⊗ w.x ⊖ v.x ⊗ w.z) (cross_part w.z v.x w.x v.z),
        same_square (w.x ⊗ v.y ⊖ w.y ⊗ v.x) (v.x ⊗ w.y ⊖ v.y ⊗ w.x) (cross_part w.x v.y w.y v.x),
      )
