-- Document 01, "Jobs and replies": the bytes of a reply. Definitions only.
use Rattle.std.specs.Prelude.{Float, ℕ, List, ◌∷◌, ◌++◌}
use Rattle.answers.specs.Answers.{numbers_of}
use Rattle.answers.specs.declared.answer.Answer.{Answer}
use Rattle.answers.specs.declared.answer.Slot.{Slot}
use Rattle.coo3d.specs.declared.regions.Cap.{Cap}
use Rattle.coo3d.specs.declared.regions.Regions.{Regions}
use Rattle.words.specs.Words.{float_bytes}

-- kind, steps, one byte each, and a float
unfoldable pub height_bytes : ℕ → ℕ → Float → List ℕ
height_bytes kind steps z = kind ∷ steps ∷ float_bytes z

-- kind, steps, and two floats
unfoldable pub walked_bytes : ℕ → ℕ → Float → Float → List ℕ
walked_bytes kind steps lon lat = kind ∷ steps ∷ (float_bytes lon ++ float_bytes lat)

-- kind, and two floats
unfoldable pub point_bytes : ℕ → Float → Float → List ℕ
point_bytes kind lon lat = kind ∷ (float_bytes lon ++ float_bytes lat)

-- a cone: kind, steps, z
unfoldable pub cone_bytes : Slot → List ℕ
cone_bytes s = let n = numbers_of s.answer in height_bytes n.kind s.steps n.first

-- a slot: kind, steps, lon, lat
unfoldable pub slot_bytes : Slot → List ℕ
slot_bytes s = let n = numbers_of s.answer in walked_bytes n.kind s.steps n.first n.second

-- the five slots of an arc
abbrev pub Slots : Type 0
Slots = Regions (Cap Slot) Slot

-- south cap first and second, equator, north cap first and second
unfoldable pub slots_bytes : Slots → List ℕ
slots_bytes s =
    slot_bytes s.south.first ++ slot_bytes s.south.second ++ slot_bytes s.equator
    ++ slot_bytes s.north.first ++ slot_bytes s.north.second

-- a parallel, or two arcs: kind, lon, lat
unfoldable pub crossing_bytes : Answer → List ℕ
crossing_bytes a = let n = numbers_of a in point_bytes n.kind n.first n.second
