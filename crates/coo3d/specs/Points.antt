-- A point is a record of five floats, x, y, z, longitude and latitude (document 01, "Points"), and of what its longitude gives: the quarter and the longitude
-- modulo π/2, for "the point record shall hold both" (document 02, ask 8). Definitions, and a claim on heights; `proofs/Heights.antt` proves it.
use Rattle.std.specs.Float.Ieee.{neg}
use Rattle.std.specs.Prelude.{◌≡◌, true, cond, ◌&&◌, Float}
use Rattle.angles.specs.Floats.{one}
use Rattle.bounds.specs.Ranges.{between}
use Rattle.coo3d.specs.declared.vect3.Vect3.{Vect3}
use Rattle.coo3d.specs.declared.point.Coo3D.{Coo3D}
use Rattle.coo3d.specs.Vectors.{vect}
use Rattle.coo3d.specs.LonLats.{is_longitude, is_latitude, lon_lat_of, vec3_of}
use Rattle.coo3d.specs.Quarters.{quarter_of, lon_mod_half_pi}

abbrev pub coo3_d : Float → Float → Float → Float → Float → Coo3D
coo3_d a b c l m =
    record { x = a; y = b; z = c; lon = l; lat = m; quarter = quarter_of l; lon_mod = lon_mod_half_pi l }

-- from a vector
unfoldable pub from_vec3 : Float → Float → Float → Coo3D
from_vec3 a b c = let p = lon_lat_of a b c in coo3_d a b c p.lon p.lat

abbrev pub point_of : Vect3 → Coo3D
point_of v = from_vec3 v.x v.y v.z

-- from angles, which stay as they are in their ranges
unfoldable pub from_sph_coo : Float → Float → Coo3D
from_sph_coo lon lat =
    let v = vec3_of lon lat in
    cond (is_longitude lon && is_latitude lat) (coo3_d v.x v.y v.z lon lat) (from_vec3 v.x v.y v.z)

-- a point's vector
unfoldable pub vect_of : Coo3D → Vect3
vect_of p = vect p.x p.y p.z

-- The height of a point from angles is a number from −1 to 1, where the latitude is in range.
abbrev pub HeightInRange : Type 0
HeightInRange = (lon lat : Float) → is_latitude lat ≡ true → between (neg one) one (from_sph_coo lon lat).z ≡ true
