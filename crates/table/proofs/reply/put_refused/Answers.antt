-- Code and number, then zeros in the part that is left.
use lib.ListN.{length, length-take, length-drop, length-replicate}
use Prim.Native.Nat.{ℕ, ◌-◌}
use native.Mathlib.Omega.{arith}
use mathlib.Core.Path.{◌≡◌, refl, ap, ◌∙◌}
use Rattle.std.specs.Prelude.{replicate}
use Rattle.words.proofs.Parts.{two_and_rest}
use Rattle.table.specs.Table.{answer_width}
use Rattle.table.specs.Turns.{refused_bytes}
use Rattle.table.proofs.reply.put_refused.Goals as goal

pub returns : goal.returns
unfolding refused_bytes
returns c =
    let width = answer_width c.args.code in
    let is : c.fill.new.out ≡ replicate width 0 = c.fill.ensures ∙ ap (λ (k : ℕ). replicate k 0) (simp (length-take, length-drop) (omega (arith, c.requires))) in
    two_and_rest c.args.out.now c.put.new.out c.fill.new.out (length c.args.out.now - 2) (ap length c.put.ensures) (ap length is ∙ simp (length-replicate) (omega (arith, c.requires))) (omega (arith, c.requires)) ∙ rw (c.put.ensures, is) refl
