-- Document 02, ask 3: where two arcs cross, each operation rounded once. Definitions only.
use Rattle.std.specs.Prelude.{Float, Bool, cond, not, ◌&&◌, ◌||◌, Option, None, Some, ok_or, Result, Err}
use Rattle.std.specs.Float.Ieee.{lt, le, eq, ne}
use Rattle.angles.specs.Floats.{◌⊕◌, plus_zero}
use Rattle.coo3d.specs.declared.vect3.Vect3.{Vect3}
use Rattle.coo3d.specs.Vectors.{dot_of, cross_of, norm_of, normalized_of, opposite_of}
use Rattle.two_arcs.specs.declared.edge.Edge.{Edge}
use Rattle.two_arcs.specs.declared.meeting.NoMeeting.{NoMeeting}
use Rattle.two_arcs.specs.declared.meeting.NoMeeting.TheVariants.{Nowhere, NoCandidate}

abbrev pub edge : Vect3 → Vect3 → Edge
edge p q = record { p1 = p; p2 = q }

-- an arc's cross product, not normalised
unfoldable pub cross_of_ends : Edge → Vect3
cross_of_ends e = cross_of e.p1 e.p2

-- "the cross product of the two arcs' cross products"
unfoldable pub cross_of_arcs : Edge → Edge → Vect3
cross_of_arcs a b = cross_of (cross_of_ends a) (cross_of_ends b)

-- "its scalar product with each end is at least that of the arc's two ends, and the sum of its products with the two isn't below 0"
unfoldable pub passes_of : Edge → Vect3 → Bool
passes_of e v =
    let dot = dot_of e.p1 e.p2 in
    let dot1 = dot_of v e.p1 in
    let dot2 = dot_of v e.p2 in
    le dot dot1 && le dot dot2 && not (lt (dot1 ⊕ dot2) plus_zero)

-- "A candidate passes if, for both arcs, .."
unfoldable pub passes_both : Edge → Edge → Vect3 → Bool
passes_both a b v = passes_of a v && passes_of b v

-- "The first that passes": a candidate, "then its opposite"; or neither
unfoldable pub first_that_passes : Edge → Edge → Vect3 → Option Vect3
first_that_passes a b v =
    let w = opposite_of v in
    cond (passes_both a b v) (Some v) (cond (passes_both a b w) (Some w) None)

-- 12: "norm zero or NaN"; a NaN alone differs from itself
unfoldable pub zero_or_nan : Float → Bool
zero_or_nan n = eq n plus_zero || ne n n

-- The candidate is that cross product, normalised; none where 12 refuses.
unfoldable pub intersect_arcs : Edge → Edge → Result Vect3 NoMeeting
intersect_arcs a b =
    let cross = cross_of_arcs a b in
    cond (zero_or_nan (norm_of cross)) (Err NoCandidate) (ok_or (first_that_passes a b (normalized_of cross)) Nowhere)
