-- The three parts, one after the other.
use lib.ListN.{length}
use mathlib.Core.Path.{refl, ap, ◌∙◌}
use Rattle.words.proofs.Parts.{upto_none, upto_more, upto_all}
use Rattle.words.proofs.Lengths.{length_float}
use Rattle.answers.specs.Bytes.{point_bytes}
use Rattle.answers.proofs.parallel_bytes.put_point.Goals as goal

pub returns : goal.returns
unfolding point_bytes
returns c =
    let byte = c.put in
    let lon = c.put_float in
    let lat = c.put_float-2 in
    let u1 = upto_more byte.new.out 1 (upto_none c.args.out.now) (ap length byte.ensures) in
    let u2 = upto_more lon.new.out 8 u1 (ap length lon.ensures ∙ length_float _) in
    let u3 = upto_more lat.new.out 8 u2 (ap length lat.ensures ∙ length_float _) in
    upto_all u3 c.requires ∙ rw (byte.ensures, lon.ensures, lat.ensures) refl
