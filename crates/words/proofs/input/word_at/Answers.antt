-- The eight bytes that are read are the k-th operand's.
use Rattle.std.proofs.Common.{length, take, drop, take_all, length-drop, arith, ℕ, ◌-◌, ◌≡◌, ap, ◌∙◌, List}
use Rattle.words.specs.Words.{little, word_at}
use Rattle.words.proofs.Eight.{little_first}
use Rattle.words.proofs.input.word_at.Goals as goal

rest : (s : List ℕ) (n : ℕ) → take (length s - n) (drop n s) ≡ drop n s
rest s n = take_all (length s - n) (drop n s) (rw length-drop (omega arith))

pub returns : goal.returns
unfolding word_at
returns c =
    let h = rw c.unwrap-word.ensures at c.first_chunk.ensures.cases in
    c.from_le_bytes.ensures ∙ little_first _ _ h ∙ ap (λ s. little (take 8 s)) (rest c.args.operands.now _)
