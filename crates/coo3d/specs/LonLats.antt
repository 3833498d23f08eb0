-- Longitude and latitude of a vector, and the vector of both (document 01, "Points"; document 02, ask 2). Definitions only.
use Rattle.std.specs.Float.{nan}
use Rattle.std.specs.Float.Ieee.{neg, lt, le, eq}
use Rattle.std.specs.Prelude.{◌≡◌, Bool, true, cond, ◌&&◌, ◌⊎◌, Float}
use Rattle.root.specs.Root.{root_of}
use Rattle.angles.specs.Floats.{◌⊕◌, ◌⊗◌, plus_zero}
use Rattle.angles.specs.Constants.{half_pi, two_pi}
use Rattle.angles.specs.Inverse.{atan2_of}
use Rattle.angles.specs.Circular.{sin_cos_of}
use Rattle.coo3d.specs.declared.vect3.Vect3.{Vect3}
use Rattle.coo3d.specs.declared.lonlat.LonLat.{LonLat}
use Rattle.coo3d.specs.Vectors.{vect}

-- a longitude lies in [0, 2π), a latitude in [−π/2, π/2]
unfoldable pub is_longitude : Float → Bool
is_longitude lon = le plus_zero lon && lt lon two_pi

unfoldable pub is_latitude : Float → Bool
is_latitude lat = le (neg half_pi) lat && le lat half_pi

-- 2π is added to a negative longitude; "0 where adding 2π comes to exactly 2π" (ask 2)
unfoldable pub lon_of : Float → Float → Float
lon_of x y =
    let a = atan2_of y x in
    let lon = a ⊕ two_pi in
    cond (lt a plus_zero) (cond (eq lon two_pi) plus_zero lon) a

-- the promise of a longitude: "at least 0 and below 2π, or NaN" (ask 2)
abbrev pub InTurn : Float → Type 0
InTurn lon = (lon ≡ nan) ⊎ (is_longitude lon ≡ true)

unfoldable pub lat_of : Float → Float → Float → Float
lat_of x y z = atan2_of z (root_of (x ⊗ x ⊕ y ⊗ y))

-- the source's `lonlat_of`, and its `UnitVect3::lonlat`
unfoldable pub lon_lat_of : Float → Float → Float → LonLat
lon_lat_of x y z = record { lon = lon_of x y; lat = lat_of x y z }

-- `vec3_of`
unfoldable pub vec3_of : Float → Float → Vect3
vec3_of lon lat =
    let at_lon = sin_cos_of lon in
    let at_lat = sin_cos_of lat in
    vect (at_lat.cos ⊗ at_lon.cos) (at_lat.cos ⊗ at_lon.sin) at_lat.sin
