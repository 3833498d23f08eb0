-- The bytes of each answer, by the parts that it is made of.
use lib.ListN.{length, length-append}
use mathlib.Core.Path.{◌≡◌}
use Rattle.words.proofs.Lengths.{length_float}
use Rattle.answers.specs.Bytes.{height_bytes, walked_bytes, point_bytes, cone_bytes, slot_bytes, Slots, slots_bytes, crossing_bytes}
use Rattle.answers.specs.declared.answer.Answer.{Answer}
use Rattle.answers.specs.declared.answer.Slot.{Slot}

pub length_cone : (s : Slot) → length (cone_bytes s) ≡ 10
unfolding cone_bytes height_bytes
length_cone s = simp length_float

pub length_slot : (s : Slot) → length (slot_bytes s) ≡ 18
unfolding slot_bytes walked_bytes
length_slot s = simp (length-append, length_float)

pub length_slots : (s : Slots) → length (slots_bytes s) ≡ 90
unfolding slots_bytes
length_slots s = simp (length-append, length_slot)

pub length_crossing : (a : Answer) → length (crossing_bytes a) ≡ 17
unfolding crossing_bytes point_bytes
length_crossing a = simp (length-append, length_float)
