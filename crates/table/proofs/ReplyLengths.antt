-- A reply is as long as the table says for its code, refused or not: `ReplyLength` (specs/Turns.antt).
use lib.ListN.{length-replicate}
use Prim.Native.Nat.{ℕ}
use native.Mathlib.Omega.{arith}
use mathlib.Core.Path.{refl}
use mathlib.Core.List.{List}
use Rattle.answers.proofs.AnswerLengths.{length_cone, length_slots, length_crossing}
use Rattle.table.specs.States.{given_of, most_steps}
use Rattle.table.specs.Rows.{Form, Work, refused, accepted, slots, cone, crossing}
use Rattle.table.specs.Table.{row_of, answer_width}
use Rattle.table.specs.Turns.{work_of, reply_in, turn_of, answer_bytes, Fits, reply_bytes, reply_of, ReplyLength}
use Rattle.table.specs.declared.state.State.{State}
use Rattle.table.proofs.Laws.{HasForm, form_of}

fits : (f : Form) (n : ℕ) (w : Work) → HasForm f w → Fits (reply_in n w) f.width
unfolding reply_in answer_bytes
fits f n (refused refusal) h = length-replicate f.width 0
fits f n accepted h = rw h refl
fits f n (slots plan) h = rw h (length_slots _)
fits f n (cone plan) h = rw h (length_cone _)
fits f n (crossing a) h = rw h (length_crossing _)

module _ (s : State) (code : ℕ) (b : List ℕ) where
  pub reply_fits : Fits (turn_of (row_of code) s b).reply (answer_width code)
  unfolding turn_of answer_width
  reply_fits =
      let r = row_of code in
      let g = given_of s in
      fits r.answer (most_steps s.allowance) (work_of r g b) (form_of code g b)

pub length_reply : ReplyLength
unfolding reply_of reply_bytes
length_reply s code b = omega (arith, reply_fits s code b)
