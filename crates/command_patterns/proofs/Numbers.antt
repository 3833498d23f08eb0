-- The number that a list of codes stands for, its digits, and how many lists there are.
use lib.Dec.{T}
use lib.Ieee.Fits.{and_i, and_l, and_r}
use lib.ListN.{length, length-append}
use Prim.Native.Nat.{ℕ, zero, suc, ◌+◌, ◌-◌, ◌*◌, ◌/◌, ◌%◌, ◌≤◌, ◌<◌}
use native.Mathlib.Nat.{div-add-mod, div-le_self}
use native.Mathlib.Omega.{arith}
use mathlib.Core.Path.{◌≡◌, refl, sym, ap, subst, ◌∙◌}
use mathlib.Core.Bool.{true}
use mathlib.Core.List.{List, [], ◌∷◌, ◌++◌}
use Rattle.command_patterns.specs.Patterns.{is_code, all_codes, count, number_from, digits, pattern_at}
use Rattle.command_patterns.proofs.Orders.{range_code, first_code, one_writing, compared}

-- ---- the digits of a number
number_of_more : (b : ℕ) (p : List ℕ) (c : ℕ) → number_from b (p ++ (c ∷ [])) ≡ 6 * number_from b p + c
number_of_more b [] c = refl
number_of_more b (x ∷ p) c = number_of_more (6 * b + x) p c

pub number_of_digits : (most k : ℕ) → k ≤ most → number_from 0 (digits most k) ≡ k
number_of_digits zero k h = omega arith
number_of_digits (suc most) zero h = refl
number_of_digits (suc most) (suc k) h =
    let l = div-le_self k 6 in
    number_of_more 0 (digits most (k / 6)) (k % 6 + 1)
    ∙ omega (arith, number_of_digits most (k / 6) (omega arith), div-add-mod k 6)

codes_of_more : (p : List ℕ) (c : ℕ) → T (all_codes p) → T (is_code c) → T (all_codes (p ++ (c ∷ [])))
codes_of_more [] c s t = and_i (is_code c) true t tt
codes_of_more (x ∷ p) c s t =
    and_i (is_code x) (all_codes (p ++ (c ∷ []))) (and_l (is_code x) (all_codes p) s) (codes_of_more p c (and_r (is_code x) (all_codes p) s) t)

pub codes_of_digits : (most k : ℕ) → T (all_codes (digits most k))
codes_of_digits zero k = tt
codes_of_digits (suc most) zero = tt
codes_of_digits (suc most) (suc k) =
    codes_of_more (digits most (k / 6)) (k % 6 + 1) (codes_of_digits most (k / 6)) (range_code (k % 6 + 1) (omega arith) (omega arith))

pub digits_of_number : (p : List ℕ) (most : ℕ) → T (all_codes p) → number_from 0 p ≤ most → digits most (number_from 0 p) ≡ p
digits_of_number p most s h =
    let q = digits most (number_from 0 p) in
    one_writing q p (codes_of_digits most (number_from 0 p)) s (number_of_digits most (number_from 0 p) h) (compared q p)

-- ---- how many there are
pub count_step : (n : ℕ) → count (suc n) ≡ 6 + 6 * count n
unfolding count
count_step zero = refl
count_step (suc n) = omega (arith, count_step n)

none_of_no_commands : count 0 ≡ 0
unfolding count
none_of_no_commands = refl

pub count_less : (m n : ℕ) → m ≤ n → count m ≤ count n
count_less zero n h = omega (arith, none_of_no_commands)
count_less (suc m) zero h = absurd (omega arith)
count_less (suc m) (suc n) h = omega (arith, count_step m, count_step n, count_less m n (omega arith))

-- codes after digits that come to at most count j
pub number_counted : (j n b : ℕ) (p : List ℕ) → T (all_codes p) → b ≤ count j → j + length p ≤ n → number_from b p ≤ count n
number_counted j n b [] s h l = omega (arith, count_less j n (omega arith))
number_counted j n b (x ∷ p) s h l =
    let u = first_code x p s in number_counted (suc j) n (6 * b + x) p u.2 (omega (arith, count_step j)) (omega arith)

number_grows : (b : ℕ) (p : List ℕ) → b ≤ number_from b p
number_grows b [] = omega arith
number_grows b (x ∷ p) = omega (arith, number_grows (6 * b + x) p)

pub positive : (p : List ℕ) → 1 ≤ length p → T (all_codes p) → 1 ≤ number_from 0 p
positive [] h s = absurd (omega arith)
positive (c ∷ p) h s = omega (arith, number_grows (6 * 0 + c) p, (first_code c p s).0)

digits_counted : (most n k : ℕ) → k ≤ count n → length (digits most k) ≤ n
digits_counted zero n k h = omega arith
digits_counted (suc most) n zero h = omega arith
digits_counted (suc most) zero (suc k) h = absurd (omega (arith, none_of_no_commands))
digits_counted (suc most) (suc n) (suc k) h =
    rw length-append (omega (arith, digits_counted most n (k / 6) (omega (arith, count_step n, div-add-mod k 6))))

-- ---- a number digit by digit, the last first, as the code works it out
pub digits_enough : (most k : ℕ) → k ≤ most → digits most k ≡ digits k k
digits_enough most k h =
    one_writing _ _ (codes_of_digits most k) (codes_of_digits k k)
    (number_of_digits most k h ∙ sym (number_of_digits k k (omega arith)))
    (compared _ _)

pub last_digit : (k : ℕ) → digits (suc k) (suc k) ≡ digits (k / 6) (k / 6) ++ ((k % 6 + 1) ∷ [])
last_digit k = ap (λ (p : List ℕ). p ++ ((k % 6 + 1) ∷ [])) (digits_enough k (k / 6) (div-le_self k 6))

pub one_digit_fewer : (left n : ℕ) → left ≤ count n → 0 < left → (1 ≤ n) × ((left - 1) / 6 ≤ count (n - 1))
one_digit_fewer left zero h l = absurd (omega (arith, none_of_no_commands))
one_digit_fewer left (suc n) h l =
    let e : n ≡ suc n - 1 = omega arith in
    (omega arith, subst (λ (m : ℕ). (left - 1) / 6 ≤ count m) e (omega (arith, count_step n, div-add-mod (left - 1) 6)))

pub of_five : count 5 ≡ 9330
unfolding count
of_five = refl

pub some_code : (k : ℕ) → 1 ≤ length (pattern_at k)
unfolding pattern_at
some_code k = rw length-append (omega arith)

pub right_codes : (k : ℕ) → T (all_codes (pattern_at k))
unfolding pattern_at
right_codes k = codes_of_digits (suc k) (suc k)

pub few_codes : (n k : ℕ) → k < count n → length (pattern_at k) ≤ n
unfolding pattern_at
few_codes n k h = digits_counted (suc k) n (suc k) h
