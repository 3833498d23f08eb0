-- Each return is the branch of `lon_of` that the tests chose. Every `lon_of` is in the turn.
use Rattle.coo3d.specs.LonLats.{lon_of}
use Rattle.coo3d.proofs.WholeTurns.{lon_promised}
use Rattle.coo3d.proofs.lonlat.lon_of_angle.Goals as goal

pub returns-then-lon : goal.returns-then-lon
unfolding lon_of
returns-then-lon c x y e = lon_promised x y _ (simp (← e, c.if-lon.true, c.if-a.true))

pub returns-else-lon : goal.returns-else-lon
unfolding lon_of
returns-else-lon c x y e = lon_promised x y _ (simp (← e, c.if-lon.false, c.if-a.true))

pub returns-else-a : goal.returns-else-a
unfolding lon_of
returns-else-a c x y e = lon_promised x y _ (simp (← e, c.if-a.false))
