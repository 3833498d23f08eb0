-- By the number that the input asks for, which its first three bytes decide.
use Rattle.std.proofs.Common.{length, take, ℕ, ◌≡◌, sym, ap, ◌∙◌, arith, List}
use Rattle.std.proofs.Math.Nat.{le_trans}
use Rattle.std.specs.Prelude.{Option}
use Rattle.command_patterns.specs.Listing.{number_in, printed_for, printed}
use Rattle.command_patterns.proofs.Laws.{ten_inputs, three_bytes_decide}
use Rattle.command_patterns.proofs.Lines.{listing_fits}
use Rattle.command_patterns.proofs.listing.answer.Goals as goal

asked : (input front : List ℕ) (n : Option ℕ) → take 3 input ≡ front → n ≡ number_in front → printed_for n ≡ printed input
unfolding printed
asked input front n r e = ap printed_for (e ∙ ap number_in (sym r) ∙ three_bytes_decide input)

pub list-requires : goal.list-requires
list-requires c =
    let n = c.in-Some.n in
    let h = (ten_inputs c.args.front.now n).0 (sym c.number_in.ensures ∙ c.in-Some.is) in
    (omega (arith, h.1), le_trans (listing_fits _ (omega (arith, h.1))) (omega (arith, c.told-out)))

pub returns-in-Some-clause-length_printed : goal.returns-in-Some-clause-length_printed
returns-in-Some-clause-length_printed c input r = c.list.ensures.0 ∙ ap length (asked input _ _ r (sym c.in-Some.is ∙ c.number_in.ensures))

pub returns-in-Some-clause-bytes_printed : goal.returns-in-Some-clause-bytes_printed
returns-in-Some-clause-bytes_printed c input r = rw (← asked input _ _ r (sym c.in-Some.is ∙ c.number_in.ensures)) c.list.ensures.1

pub returns-in-None-clause-length_printed : goal.returns-in-None-clause-length_printed
returns-in-None-clause-length_printed c input r = c.refuse.ensures.0 ∙ ap length (asked input _ _ r (sym c.in-None.is ∙ c.number_in.ensures))

pub returns-in-None-clause-bytes_printed : goal.returns-in-None-clause-bytes_printed
returns-in-None-clause-bytes_printed c input r = rw (← asked input _ _ r (sym c.in-None.is ∙ c.number_in.ensures)) c.refuse.ensures.1
