-- The ends of an arc among a command's operands, and what 7 and 9 ask of them. Definitions only.
use Rattle.std.specs.Prelude.{ℕ, ◌+◌, Bool, ◌&&◌, List}
use Rattle.angles.specs.Floats.{finite_of}
use Rattle.coo3d.specs.LonLats.{is_longitude, is_latitude}
use Rattle.coo3d.specs.Points.{from_sph_coo, vect_of}
use Rattle.coo3d.specs.declared.point.Coo3D.{Coo3D}
use Rattle.two_arcs.specs.TwoArcs.{edge}
use Rattle.two_arcs.specs.declared.edge.Edge.{Edge}
use Rattle.words.specs.Words.{float_at}
use Rattle.arc_ends.specs.declared.ends.Ends.{Ends}

-- from the k-th float on
unfoldable pub ends_of : List ℕ → ℕ → Ends
ends_of b k = record { lon1 = float_at b k; lat1 = float_at b (k + 1); lon2 = float_at b (k + 2); lat2 = float_at b (k + 3) }

unfoldable pub ends_finite : Ends → Bool
ends_finite e = finite_of e.lon1 && finite_of e.lat1 && finite_of e.lon2 && finite_of e.lat2

unfoldable pub ends_in_range : Ends → Bool
ends_in_range e = is_longitude e.lon1 && is_latitude e.lat1 && is_longitude e.lon2 && is_latitude e.lat2

abbrev pub point1 : Ends → Coo3D
point1 e = from_sph_coo e.lon1 e.lat1

abbrev pub point2 : Ends → Coo3D
point2 e = from_sph_coo e.lon2 e.lat2

unfoldable pub edge_of : Ends → Edge
edge_of e = edge (vect_of (point1 e)) (vect_of (point2 e))
