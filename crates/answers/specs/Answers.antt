-- Document 01, "Jobs and replies": the kinds, and which floats stand with them. Definitions only.
use Rattle.std.specs.Prelude.{Float, ℕ, Ok, Err}
use Rattle.angles.specs.Floats.{plus_zero}
use Rattle.coo3d.specs.LonLats.{lon_lat_of}
use Rattle.crossing.specs.Parallels.{Crossing}
use Rattle.crossing.specs.declared.parallel.NoCrossing.TheVariants as crossing
use Rattle.answers.specs.declared.answer.Answer.{Answer}
use Rattle.answers.specs.declared.answer.Answer.TheVariants.{NoPiece, NoWalk, Rejected, Found, Height, NotBetween, NoRoot, FoundByHalving, NoneByHalving}
use Rattle.answers.specs.declared.answer.Slot.{Slot}

abbrev pub slot_of : ℕ → Answer → Slot
slot_of n a = record { steps = n; answer = a }

-- a slot without a walk has no steps
unfoldable pub without_walk : Answer → Slot
without_walk a = slot_of 0 a

-- the kind and the floats of a reply; a cone's has the first alone
pub record Numbers : Type 0 where
  pub kind : ℕ
  pub first : Float
  pub second : Float

abbrev pub numbers : ℕ → Float → Float → Numbers
numbers k a b = record { kind = k; first = a; second = b }

-- all else is zero
unfoldable pub kind_alone : ℕ → Numbers
kind_alone k = numbers k plus_zero plus_zero

-- 0 no such piece; 1 longitudes equal or signs the same, no walk; 2 height rejected after the walk; 3 found; 4 height not strictly between
-- the ends; 5 neither root passes, of two arcs neither candidate (document 02, ask 3); 6 found on a second try, 7 not found on it (document 02, ask 7).
-- A cone's z stands at kind 3 only, longitude and latitude at 3 and 6 only
unfoldable pub numbers_of : Answer → Numbers
numbers_of NoPiece = kind_alone 0
numbers_of NoWalk = kind_alone 1
numbers_of Rejected = kind_alone 2
numbers_of (Found lon lat) = numbers 3 lon lat
numbers_of (Height z) = numbers 3 z plus_zero
numbers_of NotBetween = kind_alone 4
numbers_of NoRoot = kind_alone 5
numbers_of (FoundByHalving lon lat) = numbers 6 lon lat
numbers_of NoneByHalving = kind_alone 7

-- a crossing's answer: a vector is replied through `UnitVect3::lonlat`
unfoldable pub crossed_of : Crossing → Answer
crossed_of (Ok v) = let p = lon_lat_of v.x v.y v.z in Found p.lon p.lat
crossed_of (Err crossing.NotBetween) = NotBetween
crossed_of (Err crossing.NoRoot) = NoRoot

-- document 02, ask 7, of a crossing's answer: "kind 6 with its longitude and latitude if found, 7 and zeros if not", kinds 4 and 5 alike
unfoldable pub second_try_of : Answer → Answer
second_try_of (Found lon lat) = FoundByHalving lon lat
second_try_of a = NoneByHalving
