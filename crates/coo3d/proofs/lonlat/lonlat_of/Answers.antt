-- The contracts of `lon_of` and `lat_of` give the two angles of `lon_lat_of`, and its longitude is in the turn.
use Rattle.coo3d.specs.LonLats.{lon_lat_of}
use Rattle.coo3d.proofs.WholeTurns.{lonlat_promised}
use Rattle.coo3d.proofs.lonlat.lonlat_of.Goals as goal

pub returns : goal.returns
unfolding lon_lat_of
returns c = lonlat_promised _ _ _ _ (simp (← c.lat_of.ensures, ← c.lon_of.ensures.0))
