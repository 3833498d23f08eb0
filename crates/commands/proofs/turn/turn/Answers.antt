-- By the code: the width of its operands is what its module asks, and its row is what that module answers. Only 01 and 02 change the state.
use Prim.Native.Nat.{ℕ}
use mathlib.Core.Path.{◌≡◌, refl, sym, ap, ◌∙◌}
use mathlib.Core.List.{List}
use Rattle.std.specs.Prelude.{Result}
use Rattle.table.proofs.Cases.{either_way}
use Rattle.table.specs.Codes.{code_byte}
use Rattle.table.specs.States.{keeps, changed}
use Rattle.table.specs.Table.{precision, allowance, arc, cone_in_eqr, cone_in_pc, parallel, two_arcs, row_of, width_in, operand_width}
use Rattle.table.specs.Turns.{left_in, turn_of}
use Rattle.table.specs.declared.code.Code.{Code}
use Rattle.table.specs.declared.code.Code.TheVariants as code
use Rattle.table.specs.declared.refusal.Refusal.{Refusal}
use Rattle.table.specs.declared.reply.Reply.{Reply}
use Rattle.table.specs.declared.state.State.{State}
use Rattle.commands.proofs.turn.turn.Goals as goal

module _ (k : Code) {c : Code} (e : c ≡ k) where
  width : {n : ℕ} → n ≡ operand_width (code_byte c) → n ≡ operand_width (code_byte k)
  width h = h ∙ ap (λ c. operand_width (code_byte c)) e

  replied : {r : Result Reply Refusal} (s : State) (b : List ℕ)
      → r ≡ (turn_of (row_of (code_byte k)) s b).reply
      → r ≡ (turn_of (row_of (code_byte c)) s b).reply
  replied s b h = h ∙ ap (λ c. (turn_of (row_of (code_byte c)) s b).reply) (sym e)

  left : {t : State} (s : State) (b : List ℕ)
      → t ≡ (turn_of (row_of (code_byte k)) s b).state
      → t ≡ (turn_of (row_of (code_byte c)) s b).state
  left s b h = h ∙ ap (λ c. (turn_of (row_of (code_byte c)) s b).state) (sym e)

  -- a row that keeps the state
  kept : (s : State) (b : List ℕ) → (row_of (code_byte k)).change b ≡ keeps → s ≡ (turn_of (row_of (code_byte c)) s b).state
  unfolding turn_of left_in changed
  kept s b h = left s b (sym (rw h (either_way _ s)))

pub reply-requires : goal.reply-requires
unfolding operand_width width_in row_of precision
reply-requires c = width code.Precision c.in-Precision.is c.requires

pub reply-requires-in-Allowance : goal.reply-requires-in-Allowance
unfolding operand_width width_in row_of allowance
reply-requires-in-Allowance c = width code.Allowance c.in-Allowance.is c.requires

pub reply-requires-in-Arc : goal.reply-requires-in-Arc
unfolding operand_width width_in row_of arc
reply-requires-in-Arc c = width code.Arc c.in-Arc.is c.requires

pub reply-requires-in-ConeInEqr : goal.reply-requires-in-ConeInEqr
unfolding operand_width width_in row_of cone_in_eqr
reply-requires-in-ConeInEqr c = width code.ConeInEqr c.in-ConeInEqr.is c.requires

pub reply-requires-in-ConeInPc : goal.reply-requires-in-ConeInPc
unfolding operand_width width_in row_of cone_in_pc
reply-requires-in-ConeInPc c = width code.ConeInPc c.in-ConeInPc.is c.requires

pub reply-requires-in-Parallel : goal.reply-requires-in-Parallel
unfolding operand_width width_in row_of parallel
reply-requires-in-Parallel c = width code.Parallel c.in-Parallel.is c.requires

pub reply-requires-in-TwoArcs : goal.reply-requires-in-TwoArcs
unfolding operand_width width_in row_of two_arcs
reply-requires-in-TwoArcs c = width code.TwoArcs c.in-TwoArcs.is c.requires

pub returns-in-Precision : goal.returns-in-Precision
unfolding row_of precision
returns-in-Precision c =
    record {
      replied = replied code.Precision c.in-Precision.is _ _ c.reply.ensures.replied;
      left = left code.Precision c.in-Precision.is _ _ c.reply.ensures.left;
    }

pub returns-in-Allowance : goal.returns-in-Allowance
unfolding row_of allowance
returns-in-Allowance c =
    record {
      replied = replied code.Allowance c.in-Allowance.is _ _ c.reply-in-Allowance.ensures.replied;
      left = left code.Allowance c.in-Allowance.is _ _ c.reply-in-Allowance.ensures.left;
    }

pub returns-in-Arc : goal.returns-in-Arc
unfolding row_of arc
returns-in-Arc c =
    record {
      replied = replied code.Arc c.in-Arc.is _ _ c.reply-in-Arc.ensures;
      left = kept code.Arc c.in-Arc.is _ _ refl;
    }

pub returns-in-ConeInEqr : goal.returns-in-ConeInEqr
unfolding row_of cone_in_eqr
returns-in-ConeInEqr c =
    record {
      replied = replied code.ConeInEqr c.in-ConeInEqr.is _ _ c.reply-in-ConeInEqr.ensures;
      left = kept code.ConeInEqr c.in-ConeInEqr.is _ _ refl;
    }

pub returns-in-ConeInPc : goal.returns-in-ConeInPc
unfolding row_of cone_in_pc
returns-in-ConeInPc c =
    record {
      replied = replied code.ConeInPc c.in-ConeInPc.is _ _ c.reply-in-ConeInPc.ensures;
      left = kept code.ConeInPc c.in-ConeInPc.is _ _ refl;
    }

pub returns-in-Parallel : goal.returns-in-Parallel
unfolding row_of parallel
returns-in-Parallel c =
    record {
      replied = replied code.Parallel c.in-Parallel.is _ _ (c.reply-in-Parallel.ensures _);
      left = kept code.Parallel c.in-Parallel.is _ _ refl;
    }

pub returns-in-TwoArcs : goal.returns-in-TwoArcs
unfolding row_of two_arcs
returns-in-TwoArcs c =
    record {
      replied = replied code.TwoArcs c.in-TwoArcs.is _ _ (c.reply-in-TwoArcs.ensures _);
      left = kept code.TwoArcs c.in-TwoArcs.is _ _ refl;
    }
