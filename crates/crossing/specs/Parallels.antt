-- Document 01, "Crossing a parallel": `intersect_parallel` and its three ends, each expression in the source's grouping. Definitions only.
use Rattle.std.specs.Prelude.{Float, Bool, cond, ◌&&◌, ◌||◌, Result, Ok, Err}
use Rattle.std.specs.Float.Ieee.{neg, lt, le}
use Rattle.root.specs.Root.{root_of}
use Rattle.angles.specs.Floats.{◌⊕◌, ◌⊖◌, ◌⊗◌, ◌⊘◌, one, abs_of}
use Rattle.angles.specs.Constants.{two, four, meridian_limit, short_limit}
use Rattle.angles.specs.Inverse.{atan2_of}
use Rattle.coo3d.specs.declared.vect3.Vect3.{Vect3}
use Rattle.coo3d.specs.Vectors.{vect, new_unit}
use Rattle.crossing.specs.declared.great_arc.GreatArc.{GreatArc}
use Rattle.crossing.specs.declared.parallel.NoCrossing.{NoCrossing}
use Rattle.crossing.specs.declared.parallel.NoCrossing.TheVariants.{NotBetween, NoRoot}
use Rattle.crossing.specs.declared.parallel.Rule.{Rule}
use Rattle.crossing.specs.declared.parallel.Rule.TheVariants.{NearMeridian, ShortArc, Quadratic}
use Rattle.crossing.specs.GreatArcs.{great_arc, passes_of}

-- a vector, or why there is none
abbrev pub Crossing : Type 0
Crossing = Result Vect3 NoCrossing

-- z strictly between a and b, whichever is the smaller
unfoldable pub strictly_between : Float → Float → Float → Bool
strictly_between a z b = (lt a z && lt z b) || (lt b z && lt z a)

-- the first root that passes the two scalar product tests; kind 5 (Rust's `unreachable!`) where neither does
unfoldable pub first_that_passes : GreatArc → Vect3 → Vect3 → Crossing
first_that_passes arc v w = cond (passes_of arc v) (Ok v) (cond (passes_of arc w) (Ok w) (Err NoRoot))

-- the near-meridian rule
unfoldable pub near_meridian : GreatArc → Float → Crossing
near_meridian arc z =
    let x = neg (z ⊗ arc.normal.z) ⊘ arc.normal.x in
    let y = root_of (one ⊖ (x ⊗ x ⊕ z ⊗ z)) in
    first_that_passes arc (vect x y z) (vect x (neg y) z)

-- the short-arc rule: the point of the chord
unfoldable pub short_arc : GreatArc → Float → Vect3
short_arc arc z =
    let p1 = arc.p1 in
    let p2 = arc.p2 in
    let t = (z ⊖ p1.z) ⊘ (p2.z ⊖ p1.z) in
    new_unit ((p2.x ⊖ p1.x) ⊗ t ⊕ p1.x) ((p2.y ⊖ p1.y) ⊗ t ⊕ p1.y) z

-- all other arcs: the roots of a x² + b x + c
unfoldable pub quadratic : GreatArc → Float → Crossing
quadratic arc z =
    let x0y0 = arc.normal.x ⊘ arc.normal.y in
    let zz0y0 = z ⊗ arc.normal.z ⊘ arc.normal.y in
    let a = one ⊕ x0y0 ⊗ x0y0 in
    let b = two ⊗ x0y0 ⊗ zz0y0 in
    let c = zz0y0 ⊗ zz0y0 ⊕ z ⊗ z ⊖ one in
    let sqrt_delta = root_of (b ⊗ b ⊖ four ⊗ a ⊗ c) in
    let x1 = (neg b ⊕ sqrt_delta) ⊘ (two ⊗ a) in
    let x2 = (neg b ⊖ sqrt_delta) ⊘ (two ⊗ a) in
    first_that_passes arc (vect x1 (neg x1 ⊗ x0y0 ⊖ zz0y0) z) (vect x2 (neg x2 ⊗ x0y0 ⊖ zz0y0) z)

-- "Short arcs shall now be tested first" (document 02, ask 6), those "below π / 648000 radians" (ask 5); then near-meridian ones, |y0| ≤ 1e-14
unfoldable pub rule_of : GreatArc → Rule
rule_of arc =
    cond (lt (atan2_of arc.norm arc.dot) short_limit) ShortArc
    (cond (le (abs_of arc.normal.y) meridian_limit) NearMeridian Quadratic)

unfoldable pub by_rule : GreatArc → Rule → Float → Crossing
by_rule arc NearMeridian z = near_meridian arc z
by_rule arc ShortArc z = Ok (short_arc arc z)
by_rule arc Quadratic z = quadratic arc z

-- kind 4 (Rust's None) where the height is not strictly between the ends
unfoldable pub crossing_by : GreatArc → Rule → Float → Crossing
crossing_by arc rule z = cond (strictly_between arc.p1.z z arc.p2.z) (by_rule arc rule z) (Err NotBetween)

unfoldable pub crossing_of : GreatArc → Float → Crossing
crossing_of arc z = crossing_by arc (rule_of arc) z

-- `intersect_parallel`
unfoldable pub intersect_parallel : Vect3 → Vect3 → Float → Crossing
intersect_parallel p1 p2 z = crossing_of (great_arc p1 p2) z
