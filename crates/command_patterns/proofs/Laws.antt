-- The claims of specs/Laws.antt.
use lib.Dec.{T, eqb, leb, leb→le, le→leb}
use lib.Ieee.Fits.{and_i, and_l, and_r}
use lib.ListN.{length, get_or}
use Prim.Native.Nat.{ℕ, zero, suc, ◌+◌, ◌-◌, ◌≤◌, ◌<◌}
use native.Mathlib.Omega.{arith}
use mathlib.Core.Path.{◌≡◌, refl, sym, ap, subst, ◌∙◌}
use mathlib.Core.Logic.{◌⊎◌, inl, inr}
use mathlib.Core.Bool.{cond, ◌&&◌}
use mathlib.Core.List.{List, [], ◌∷◌}
use Rattle.std.proofs.lemmas.Bool.Decides.{nat_tests}
use Rattle.std.specs.Prelude.{None, Some}
use Rattle.command_patterns.specs.Patterns.{all_codes, is_pattern, ComesBefore, count, number_from, rank, digits, pattern_at, patterns_from, patterns}
use Rattle.command_patterns.specs.Listing.{line_feed, code_then, line, listing, digit_of, number_in, printed}
use Rattle.command_patterns.specs.Laws.{Stands, EachAtItsRank, NoOther, ListedInOrder, AsManyAsCounted, LineShowsPattern, RankGivesBack, RankOfEach, LowerComesFirst, ThreeBytesDecide, TenInputs, PatternExamples}
use Rattle.command_patterns.proofs.Lines.{length_line}
use Rattle.command_patterns.proofs.Numbers.{number_of_digits, digits_of_number, number_counted, positive, some_code, right_codes, few_codes}
use Rattle.command_patterns.proofs.Orders.{lower, Compared, same, first, last, compared}

-- what a pattern is, part by part
record Parts (n : ℕ) (p : List ℕ) : Type 0 where
  some : 1 ≤ length p
  few : length p ≤ n
  codes : T (all_codes p)

module _ (n : ℕ) (p : List ℕ) where
  parts : T (is_pattern n p) → Parts n p
  unfolding is_pattern
  parts t =
      let a = leb 1 (length p) in
      let b = leb (length p) n in
      let u = and_l (a && b) (all_codes p) t in
      record { some = leb→le 1 (length p) (and_l a b u); few = leb→le (length p) n (and_r a b u); codes = and_r (a && b) (all_codes p) t }

  whole : Parts n p → T (is_pattern n p)
  unfolding is_pattern
  whole t =
      and_i (leb 1 (length p) && leb (length p) n) (all_codes p)
      (and_i (leb 1 (length p)) (leb (length p) n) (le→leb 1 (length p) t.some) (le→leb (length p) n t.few))
      t.codes

-- ---- ranks
pub rank_gives_back : RankGivesBack
unfolding rank pattern_at
rank_gives_back n p t =
    let w = parts n p t in
    let number = number_from 0 p in
    let l : 1 ≤ number = positive p w.some w.codes in
    let m : number ≤ count n = number_counted 0 n 0 p w.codes (omega arith) (omega (arith, w.few)) in
    let e : suc (number - 1) ≡ number = omega arith in
    (omega arith, ap (λ (k : ℕ). digits k k) e ∙ digits_of_number p number w.codes (omega arith))

pub rank_of_each : RankOfEach
unfolding rank pattern_at
rank_of_each n k h =
    let p = digits (suc k) (suc k) in (
      whole n p
          (record {
            some = some_code k;
            few = few_codes n k h;
            codes = right_codes k;
          }),
      ap (λ (m : ℕ). m - 1) (number_of_digits (suc k) (suc k) (omega arith)) ∙ omega arith,
    )

first_of : (p q : List ℕ) → T (all_codes p) → T (all_codes q) → number_from 0 p < number_from 0 q → Compared p q → ComesBefore p q
first_of p q s t h (same e) = absurd (omega (arith, ap (number_from 0) e))
first_of p q s t h (first c) = c
first_of p q s t h (last c) = absurd (omega (arith, lower q p t s c))

pub lower_comes_first : LowerComesFirst
unfolding rank
lower_comes_first n p q s t =
    let u = parts n p s in
    let v = parts n q t in
    let k = positive p u.some u.codes in
    let l = positive q v.some v.codes in
    (λ h. first_of p q u.codes v.codes (omega arith) (compared p q), λ h. let m = lower p q u.codes v.codes h in omega arith)

-- ---- places
pub as_many : (k m : ℕ) → length (patterns_from k m) ≡ m
as_many k zero = refl
as_many k (suc m) = ap suc (as_many (suc k) m)

at_place : (k m i : ℕ) → i < m → get_or (patterns_from k m) i [] ≡ pattern_at (k + i)
at_place k zero i h = absurd (omega arith)
at_place k (suc m) zero h = ap pattern_at (omega arith)
at_place k (suc m) (suc i) h = at_place (suc k) m i (omega arith) ∙ ap pattern_at (omega arith)

pub as_many_as_counted : AsManyAsCounted
unfolding patterns
as_many_as_counted n = as_many 0 (count n)

listed_at : (n k : ℕ) → k < length (patterns n) → (k < count n) × (get_or (patterns n) k [] ≡ pattern_at k)
unfolding patterns
listed_at n k h =
    let l : k < count n = omega (arith, as_many 0 (count n)) in (l, at_place 0 (count n) k l ∙ ap pattern_at (omega arith))

pub each_at_its_rank : EachAtItsRank
each_at_its_rank n p t k =
    let w = rank_gives_back n p t in
    let inside : rank p < length (patterns n) = omega (arith, w.0, as_many_as_counted n) in (
      λ s. let l = listed_at n k s.inside in sym (rank_of_each n k l.0).1 ∙ ap rank (sym l.1 ∙ s.there),
      λ e. subst (λ (m : ℕ). Stands n m p) (sym e) (record { inside = inside; there = (listed_at n (rank p) inside).1 ∙ w.1 }),
    )

pub no_other : NoOther
no_other n k p s =
    let l = listed_at n k s.inside in
    subst (λ (q : List ℕ). T (is_pattern n q)) (sym l.1 ∙ s.there) (rank_of_each n k l.0).0

pub listed_in_order : ListedInOrder
listed_in_order n i j p q s t =
    let u = no_other n i p s in
    let v = no_other n j q t in
    let e = (each_at_its_rank n p u i).0 s in
    let f = (each_at_its_rank n q v j).0 t in
    let l = lower_comes_first n p q u v in (λ h. l.0 (omega arith), λ h. let m = l.1 h in omega arith)

-- ---- lines
pub line_shows_pattern : LineShowsPattern
unfolding code_then
line_shows_pattern [] [] e = refl
line_shows_pattern [] (d ∷ q) e = absurd (omega (arith, ap length e, length_line q))
line_shows_pattern (c ∷ p) [] e = absurd (omega (arith, ap length e, length_line p))
line_shows_pattern (c ∷ p) (d ∷ q) e =
    let m : 48 + c ≡ 48 + d = cc in
    let n : c ≡ d = omega arith in
    let f : line p ≡ line q = cc in cc (line_shows_pattern p q f)

-- ---- inputs
digit_taken : (d n : ℕ) → digit_of d ≡ Some n → (1 ≤ n) × (n ≤ 5) × (d ≡ 48 + n)
digit_taken d n e = grind (arith, nat_tests)

feed_taken : (d f n : ℕ) → cond (eqb f line_feed) (digit_of d) None ≡ Some n → (f ≡ line_feed) × (1 ≤ n) × (n ≤ 5) × (d ≡ 48 + n)
feed_taken d f n e = grind (arith, nat_tests)

digit_read : (n : ℕ) → 1 ≤ n → n ≤ 5 → digit_of (48 + n) ≡ Some n
digit_read n l h = grind (arith, nat_tests)

abbrev Taken : List ℕ → ℕ → Type 0
Taken input n = (1 ≤ n) × (n ≤ 5) × ((input ≡ (48 + n) ∷ []) ⊎ (input ≡ (48 + n) ∷ line_feed ∷ []))

taken : (input : List ℕ) (n : ℕ) → number_in input ≡ Some n → Taken input n
unfolding number_in
taken [] n e = cc
taken (d ∷ []) n e = let t = digit_taken d n e in (t.0, t.1, inl (ap (λ (x : ℕ). x ∷ []) t.2))
taken (d ∷ f ∷ []) n e = let t = feed_taken d f n e in (t.1, t.2, inr (cc (t.0, t.3)))
taken (d ∷ f ∷ g ∷ rest) n e = cc

read : (input : List ℕ) (n : ℕ) → Taken input n → number_in input ≡ Some n
unfolding number_in
read input n (l, h, inl e) = ap number_in e ∙ digit_read n l h
read input n (l, h, inr e) = ap number_in e ∙ digit_read n l h

pub ten_inputs : TenInputs
ten_inputs input n = (taken input n, read input n)

not_six : (n : ℕ) → Taken (54 ∷ []) n → ⊥
not_six n (l, h, inl e) = let m : 54 ≡ 48 + n = cc in omega arith
not_six n (l, h, inr e) = cc

pub three_bytes_decide : ThreeBytesDecide
unfolding number_in
three_bytes_decide [] = refl
three_bytes_decide (d ∷ []) = refl
three_bytes_decide (d ∷ e ∷ []) = refl
three_bytes_decide (d ∷ e ∷ f ∷ rest) = refl

-- ---- examples
sixth : Stands 2 5 (6 ∷ [])
unfolding is_pattern rank
sixth = (each_at_its_rank 2 (6 ∷ []) tt 5).1 refl

seventh : Stands 2 6 (1 ∷ 1 ∷ [])
unfolding is_pattern rank
seventh = (each_at_its_rank 2 (1 ∷ 1 ∷ []) tt 6).1 refl

pub pattern_examples : PatternExamples
unfolding is_pattern rank printed number_in listing patterns count pattern_at code_then
pattern_examples =
    record {
      of_1 = refl;
      of_1_with_two_feeds = refl;
      of_two_commands = refl;
      of_5_with_a_feed = (ten_inputs (53 ∷ line_feed ∷ []) 5).1 (omega arith, omega arith, inr refl);
      of_6 = λ n e. not_six n ((ten_inputs (54 ∷ []) n).0 e);
      last_of_two = (each_at_its_rank 2 (6 ∷ 6 ∷ []) tt 41).1 refl;
      nowhere_else = λ s. let e = (each_at_its_rank 2 (6 ∷ 6 ∷ []) tt 40).0 s in omega arith;
      shorter_first = (listed_in_order 2 5 6 (6 ∷ []) (1 ∷ 1 ∷ []) sixth seventh).0 (omega arith);
      longer_later = λ c. let l = (listed_in_order 2 6 5 (1 ∷ 1 ∷ []) (6 ∷ []) seventh sixth).1 c in omega arith;
      first_counts_most = (lower_comes_first 2 (1 ∷ 6 ∷ []) (2 ∷ 1 ∷ []) tt tt).0 (omega arith);
      last_counts_less = λ c. let l = (lower_comes_first 2 (2 ∷ 1 ∷ []) (1 ∷ 6 ∷ []) tt tt).1 c in omega arith;
    }
