-- What the crossings of an arc share (document 01, "Crossing a parallel", in the source's names). Definitions only.
use Rattle.std.specs.Float.Ieee.{le}
use Rattle.std.specs.Prelude.{Bool, ◌&&◌}
use Rattle.coo3d.specs.declared.vect3.Vect3.{Vect3}
use Rattle.coo3d.specs.Vectors.{dot_of, cross_of, norm_of, normalized_of}
use Rattle.crossing.specs.declared.great_arc.GreatArc.{GreatArc}

-- the arc from p1 to p2
unfoldable pub great_arc : Vect3 → Vect3 → GreatArc
great_arc p1 p2 =
    record {
      p1 = p1;
      p2 = p2;
      dot = dot_of p1 p2;
      norm = norm_of (cross_of p1 p2);
      normal = normalized_of (cross_of p1 p2);
    }

-- the two scalar product tests
unfoldable pub passes_of : GreatArc → Vect3 → Bool
passes_of arc v = le arc.dot (dot_of arc.p1 v) && le arc.dot (dot_of arc.p2 v)
