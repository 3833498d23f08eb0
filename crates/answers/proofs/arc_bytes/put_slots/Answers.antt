-- The five parts, one after the other.
use lib.ListN.{length}
use mathlib.Core.Path.{refl, ap, ◌∙◌}
use Rattle.words.proofs.Parts.{upto_none, upto_more, upto_all}
use Rattle.answers.specs.Bytes.{slots_bytes}
use Rattle.answers.proofs.AnswerLengths.{length_slot}
use Rattle.answers.proofs.arc_bytes.put_slots.Goals as goal

pub returns : goal.returns
unfolding slots_bytes
returns c =
    let s1 = c.put_slot in
    let s2 = c.put_slot-2 in
    let s3 = c.put_slot-3 in
    let s4 = c.put_slot-4 in
    let s5 = c.put_slot-5 in
    let u1 = upto_more s1.new.out 18 (upto_none c.args.out.now) (ap length s1.ensures ∙ length_slot _) in
    let u2 = upto_more s2.new.out 18 u1 (ap length s2.ensures ∙ length_slot _) in
    let u3 = upto_more s3.new.out 18 u2 (ap length s3.ensures ∙ length_slot _) in
    let u4 = upto_more s4.new.out 18 u3 (ap length s4.ensures ∙ length_slot _) in
    let u5 = upto_more s5.new.out 18 u4 (ap length s5.ensures ∙ length_slot _) in
    upto_all u5 c.requires ∙ rw (s1.ensures, s2.ensures, s3.ensures, s4.ensures, s5.ensures) refl
