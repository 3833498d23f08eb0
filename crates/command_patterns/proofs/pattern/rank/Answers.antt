-- The invariant: the codes that are left decide, after those before them, which come to the number.
use Rattle.std.proofs.Common.{T, get_or, drop_of_length-le, ℕ, ◌+◌, ◌*◌, ◌≤◌, ◌≡◌, refl, sym, ap, subst, ◌∙◌, true, false, arith, add-one, List}
use Rattle.command_patterns.specs.Patterns.{is_code, all_codes, count, number_from}
use Rattle.command_patterns.proofs.Lines.{code_at}
use Rattle.command_patterns.proofs.Numbers.{of_five, count_step, count_less}
use Rattle.command_patterns.proofs.Orders.{code_range}
use Rattle.command_patterns.proofs.Ranks.{Left, of_too_many, of_wrong_code, of_number}
use Rattle.command_patterns.proofs.pattern.rank.Goals as goal

-- a code that is right
right : (x : ℕ) → is_code x ≡ true → x ≤ 6
right x e = (code_range x (subst T (sym e) tt)).1

below : (number i : ℕ) → number ≤ count i → i ≤ 5 → number ≤ 9330
below number i n h = omega (arith, of_five, count_less i 5 h)

pub returns-then-codes-gt5 : goal.returns-then-codes-gt5
returns-then-codes-gt5 c = sym (of_too_many _ c.if-codes-gt5.true)

pub returns-then-not-is_code : goal.returns-then-not-is_code
returns-then-not-is_code c =
    let l = c.loop-code in
    let codes = c.args.codes.now in
    let wrong : is_code (get_or codes l.code-index 0) ≡ false = sym c.is_code.ensures ∙ c.if-not-is_code.true in
    sym (of_wrong_code _
    (l.invariant.left.same_codes ∙ ap all_codes (code_at codes l.code-index c.loop-code-test.true) ∙ rw wrong refl))

pub overflow_mul-number : goal.overflow_mul-number
overflow_mul-number c = omega (arith, below c.loop-code.number c.loop-code.code-index c.loop-code.invariant.few (omega arith))

pub overflow_add-number : goal.overflow_add-number
overflow_add-number c = omega (arith, below c.loop-code.number c.loop-code.code-index c.loop-code.invariant.few (omega arith))

pub loop-code-preserved : goal.loop-code-preserved
loop-code-preserved c =
    let l = c.loop-code in
    let e = code_at c.args.codes.now l.code-index c.loop-code-test.true in
    let code : is_code (get_or c.args.codes.now l.code-index 0) ≡ true = sym c.is_code.ensures ∙ c.if-not-is_code.false in
    let n : count (l.code-index + 1) ≡ 6 + 6 * count l.code-index = ap count (add-one l.code-index) ∙ count_step l.code-index in
    record {
      few = omega (arith, right (get_or c.args.codes.now l.code-index 0) code);
      left =
          rw c.from.ensures
          (record {
            same_codes = l.invariant.left.same_codes ∙ ap all_codes e ∙ rw code refl;
            same_number = l.invariant.left.same_number ∙ ap (number_from l.number) e;
          });
    }

pub returns : goal.returns
returns c =
    let l = c.loop-code in
    let h = subst (λ (rest : List ℕ). Left c.args.codes.now rest l.number) (drop_of_length-le c.args.codes.now c.loop-code-test.false) l.invariant.left in
    of_number _ _ h.same_codes c.if-codes-gt5.false (rw h.same_number c.checked_sub.ensures)
