-- By the reply: the part is as long as the answer, which is what its writer asks, and gets the answer's bytes.
use mathlib.Core.Path.{◌≡◌, sym, subst, ◌∙◌}
use Prim.Native.Nat.{ℕ}
use Rattle.std.proofs.lemmas.List.{nil_from_length}
use Rattle.std.specs.Prelude.{Ok}
use Rattle.table.specs.Turns.{Fits, answer_bytes}
use Rattle.table.specs.declared.reply.Reply.{Reply}
use Rattle.answers.proofs.AnswerLengths.{length_cone, length_slots, length_crossing}
use Rattle.table.proofs.reply.Reply.put_answer.Goals as goal

fitting : (width : ℕ) {r v : Reply} → r ≡ v → Fits (Ok r) width → Fits (Ok v) width
fitting width e f = subst (λ (x : Reply). Fits (Ok x) width) e f

pub put_slots-requires : goal.put_slots-requires
unfolding answer_bytes
put_slots-requires c =
    sym (fitting _ c.in-Slots.is c.requires) ∙ length_slots _

pub put_cone-requires : goal.put_cone-requires
unfolding answer_bytes
put_cone-requires c =
    sym (fitting _ c.in-Cone.is c.requires) ∙ length_cone _

pub put_crossing-requires : goal.put_crossing-requires
unfolding answer_bytes
put_crossing-requires c =
    sym (fitting _ c.in-Crossing.is c.requires) ∙ length_crossing _

pub returns-in-Accepted : goal.returns-in-Accepted
unfolding answer_bytes
returns-in-Accepted c = let told = c.in-Accepted.is in rw told (nil_from_length _ (sym (fitting _ told c.requires)))

pub returns-in-Slots : goal.returns-in-Slots
unfolding answer_bytes
returns-in-Slots c = rw c.in-Slots.is c.put_slots.ensures

pub returns-in-Cone : goal.returns-in-Cone
unfolding answer_bytes
returns-in-Cone c = rw c.in-Cone.is c.put_cone.ensures

pub returns-in-Crossing : goal.returns-in-Crossing
unfolding answer_bytes
returns-in-Crossing c = rw c.in-Crossing.is c.put_crossing.ensures
