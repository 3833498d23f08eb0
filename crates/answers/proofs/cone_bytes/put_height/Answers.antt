-- The two parts, one after the other.
use lib.ListN.{length}
use mathlib.Core.Path.{refl, ap, ◌∙◌}
use Rattle.words.proofs.Parts.{upto_none, upto_more, upto_all}
use Rattle.words.proofs.Lengths.{length_float}
use Rattle.answers.specs.Bytes.{height_bytes}
use Rattle.answers.proofs.cone_bytes.put_height.Goals as goal

pub returns : goal.returns
unfolding height_bytes
returns c =
    let two = c.put in
    let float = c.put_float in
    let u1 = upto_more two.new.out 2 (upto_none c.args.out.now) (ap length two.ensures) in
    let u2 = upto_more float.new.out 8 u1 (ap length float.ensures ∙ length_float _) in
    upto_all u2 c.requires ∙ rw (two.ensures, float.ensures) refl
