-- The invariant: the pattern is the digits of what is left of a number, then the codes that stand already, and there is room for those digits.
use Rattle.std.proofs.Common.{length, take, take-take, drop, set, replicate, ℕ, suc, ◌+◌, ◌-◌, ◌/◌, ◌%◌, ◌<◌, arith, add-one, ◌≡◌, refl, sym, ap, ◌∙◌, List, [], ◌++◌, append-nil, append_assoc, length-set}
use Rattle.std.proofs.lemmas.List.{drop-set, take-replicate, take-set}
use borrow.Author.Tests.{lt-ltb, le-ltb}
use Rattle.command_patterns.specs.Patterns.{count, digits, pattern_at, pattern_or_none}
use Rattle.command_patterns.proofs.Numbers.{last_digit, one_digit_fewer, of_five}
use Rattle.command_patterns.proofs.pattern.pattern_at.Goals as goal

-- at first none stands
begin : (k : ℕ) → pattern_at k ≡ digits (k + 1) (k + 1) ++ []
unfolding pattern_at
begin k = ap (λ (m : ℕ). digits m m) (sym (add-one k)) ∙ sym (append-nil (digits (k + 1) (k + 1)))

-- one code more stands
next : (k j : ℕ) (codes p : List ℕ)
    → j < length codes
    → p ≡ digits (suc k) (suc k) ++ drop (suc j) codes
    → p ≡ digits (k / 6) (k / 6) ++ drop j (set codes j (k % 6 + 1))
next k j codes p h e =
    e ∙ ap (λ (q : List ℕ). q ++ drop (suc j) codes) (last_digit k)
    ∙ rw (drop-set codes j (k % 6 + 1) h, add-one j, append_assoc) refl

-- zeros up to a place are zeros up to the one before
zeros_before : (l : List ℕ) (j : ℕ) → take (suc j) l ≡ replicate (suc j) 0 → take j l ≡ replicate j 0
zeros_before l j e = sym (take-take j (suc j) l (omega arith)) ∙ ap (take j) e ∙ take-replicate j (suc j) 0 (omega arith)

pub returns-then-rank-ge-COUNT : goal.returns-then-rank-ge-COUNT
unfolding pattern_or_none
returns-then-rank-ge-COUNT c = simp (le-ltb c.args.rank (count 5) (omega (arith, of_five)))

pub loop-left-init : goal.loop-left-init
loop-left-init c =
    record {
      long = refl;
      within = omega arith;
      room = omega (arith, of_five);
      zeros = refl;
      so_far = begin c.args.rank;
    }

pub overflow_sub-first : goal.overflow_sub-first
overflow_sub-first c = (one_digit_fewer c.loop-left.left c.loop-left.first c.loop-left.invariant.room (omega arith)).0

pub loop-left-preserved : goal.loop-left-preserved
loop-left-preserved c =
    let l = c.loop-left in
    let f = one_digit_fewer l.left l.first l.invariant.room (omega arith) in
    let k : l.left ≡ suc (l.left - 1) = omega arith in
    let j : l.first ≡ suc (l.first - 1) = omega (arith, f.0) in
    record {
      long = length-set l.codes (l.first - 1) _ ∙ l.invariant.long;
      within = omega arith;
      room = f.1;
      zeros = take-set l.codes (l.first - 1) _ ∙ zeros_before l.codes (l.first - 1) (rw j at l.invariant.zeros);
      so_far = next (l.left - 1) (l.first - 1) l.codes _ (omega (arith, f.0, l.invariant.long)) (rw (k, j) at l.invariant.so_far);
    }

pub returns : goal.returns
unfolding pattern_or_none
returns c =
    let z : c.loop-left.left ≡ 0 = omega arith in
    simp (lt-ltb c.args.rank (count 5) (omega (arith, of_five)), c.loop-left.invariant.so_far, z)
