-- What is told of signs, said of the definition's slopes, for the ends in either order, and what follows for the plan.
use mathlib.Core.Path.{◌≡◌, refl}
use mathlib.Core.Bool.{Bool, true, false, cond}
use Prim.Native.Nat.{ℕ}
use lib.Ieee.{Float}
use Rattle.root.specs.Root.{root_of}
use Rattle.angles.specs.Floats.{◌⊕◌, ◌⊖◌, ◌⊗◌, ◌⊘◌, abs_of}
use Rattle.angles.specs.Constants.{half}
use Rattle.coo3d.specs.Vectors.{cross_of, squared_norm_of, norm_of, divided_by, normalized_of}
use Rattle.coo3d.specs.declared.vect3.Vect3.{Vect3}
use Rattle.coo3d.proofs.Exchanged.{cross_height, cross_norm}
use Rattle.crossing.specs.GreatArcs.{great_arc}
use Rattle.newton.specs.Regions.{slope_in_eqr}
use Rattle.newton.specs.Signs.{same_sign_at}
use Rattle.newton.proofs.SignsByOrder.{told_exchanged}
use Rattle.newton.specs.Walks.{limit_of}
use Rattle.plans.specs.Plans.{start_of}
use Rattle.plans.specs.declared.ending.Ending.TheVariants.{EqrArc}
use Rattle.plans.specs.declared.plan.Plan.TheVariants.{NoWalk, Begins}
use Rattle.special_points_finder.specs.Equator.{SignsTold, arc_plan_in_eqr}

-- the height that is told of is that of the arc's normal
told_height : (v w : Vect3) → (cross_of v w).z ⊘ root_of (squared_norm_of (cross_of v w)) ≡ (great_arc v w).normal.z
unfolding great_arc normalized_of divided_by norm_of
told_height v w = refl

abbrev pub same_signs : Vect3 → Vect3 → Bool
same_signs v w = same_sign_at (great_arc v w).normal.z v.z w.z

pub told_same : (v w : Vect3) (told : ℕ) → SignsTold told v w → told ≡ 1 → same_signs v w ≡ true
told_same v w told t h = rw (← told_height v w) (t.same h (cross_of v w).z refl)

pub told_different : (v w : Vect3) (told : ℕ) → SignsTold told v w → told ≡ 2 → same_signs v w ≡ false
told_different v w told t h = rw (← told_height v w) (t.differ h (cross_of v w).z refl)

pub exchanged : (v w : Vect3) (told : ℕ) → SignsTold told v w → told ≡ 1 → same_signs w v ≡ true
exchanged v w told t h =
    rw (← told_height w v, cross_norm v w) ((told_exchanged t).same h (cross_of w v).z (cross_height v w))

pub no_walk : (v w : Vect3) (precision : Float) → same_signs v w ≡ true → arc_plan_in_eqr v w precision ≡ NoWalk
unfolding arc_plan_in_eqr
no_walk v w precision h = rw h refl

-- in whichever order the ends are put
pub no_walk_ordered : (b : Bool) (v w : Vect3) (precision : Float) (told : ℕ) → SignsTold told v w → told ≡ 1
    → arc_plan_in_eqr (cond b w v) (cond b v w) precision ≡ NoWalk
no_walk_ordered true v w precision told t h = no_walk w v precision (exchanged v w told t h)
no_walk_ordered false v w precision told t h = no_walk v w precision (told_same v w told t h)

pub walk : (v w : Vect3) (precision : Float) → same_signs v w ≡ false
    → arc_plan_in_eqr v w precision
    ≡ (let arc = great_arc v w in Begins (start_of (slope_in_eqr arc.normal.z) (limit_of precision (abs_of (w.z ⊖ v.z))) (half ⊗ (v.z ⊕ w.z))) (EqrArc arc))
unfolding arc_plan_in_eqr
walk v w precision h = rw h refl
