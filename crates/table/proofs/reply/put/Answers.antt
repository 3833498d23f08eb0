-- By what the turn gave: code and 0, then the answer in the part that is left, which is as long as the table says; or the reply of a refusal.
use lib.ListN.{length, length-take, length-drop}
use Prim.Native.Nat.{ℕ, ◌-◌}
use native.Mathlib.Omega.{arith}
use mathlib.Core.Path.{◌≡◌, refl, sym, ap, ◌∙◌}
use Rattle.std.specs.Prelude.{Ok}
use Rattle.words.proofs.Parts.{two_and_rest}
use Rattle.table.specs.Table.{answer_width}
use Rattle.table.specs.Turns.{refused_bytes, status_of, answer_bytes, reply_bytes}
use Rattle.table.proofs.reply.put.Goals as goal

pub returns-in-Ok : goal.returns-in-Ok
unfolding reply_bytes status_of
returns-in-Ok c =
    let width = answer_width c.args.code in
    let n = length c.args.out.now - 2 in
    let is : c.put_answer.new.out ≡ answer_bytes width c.args.turn =
    c.put_answer.ensures ∙ ap (λ (k : ℕ). answer_bytes k (Ok c.in-Ok.reply)) (simp (length-take, length-drop) (omega (arith, c.requires.0))) ∙ ap (answer_bytes width) (sym c.in-Ok.is) in
    two_and_rest c.args.out.now c.put.new.out c.put_answer.new.out n (ap length c.put.ensures) (ap length is ∙ c.requires.1 ∙ omega (arith, c.requires.0)) (omega (arith, c.requires.0))
    ∙ rw (c.put.ensures, is, c.in-Ok.is) refl

pub returns-in-Err : goal.returns-in-Err
unfolding reply_bytes refused_bytes status_of answer_bytes
returns-in-Err c = rw (c.in-Err.is, c.put_refused.ensures, c.from.ensures) refl
