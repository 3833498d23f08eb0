-- Numbers in the digits 1 to 6 are in the order of the patterns: shorter ones first, equal lengths by code.
use Rattle.std.proofs.Common.{T, leb, leb→le, le→leb, length, ℕ, ◌+◌, ◌*◌, ◌≤◌, ◌<◌, arith, ◌≡◌, refl, sym, ap, subst, inl, inr, List, [], ◌∷◌}
use lib.Ieee.Fits.{and_i, and_l, and_r}
use Rattle.std.proofs.lemmas.Bool.{cases_lt, cases_order}
use Rattle.command_patterns.specs.Patterns.{is_code, all_codes, ByCode, ComesBefore, number_from}

pub code_range : (c : ℕ) → T (is_code c) → (1 ≤ c) × (c ≤ 6)
code_range c t = (leb→le 1 c (and_l (leb 1 c) (leb c 6) t), leb→le c 6 (and_r (leb 1 c) (leb c 6) t))

pub range_code : (c : ℕ) → 1 ≤ c → c ≤ 6 → T (is_code c)
range_code c l h = and_i (leb 1 c) (leb c 6) (le→leb 1 c l) (le→leb c 6 h)

-- the range of the first of some codes, and those after it
pub first_code : (c : ℕ) (p : List ℕ) → T (all_codes (c ∷ p)) → (1 ≤ c) × (c ≤ 6) × T (all_codes p)
first_code c p t =
    let h = code_range c (and_l (is_code c) (all_codes p) t) in (h.0, h.1, and_r (is_code c) (all_codes p) t)

-- ---- the lower of two numbers
-- lists of one length after digits that come to less
below : (b d : ℕ) (p q : List ℕ)
    → length p ≡ length q
    → T (all_codes p)
    → T (all_codes q)
    → b < d
    → number_from b p < number_from d q
below b d [] [] l s t h = h
below b d [] (y ∷ q) l s t h = absurd (omega arith)
below b d (x ∷ p) [] l s t h = absurd (omega arith)
below b d (x ∷ p) (y ∷ q) l s t h =
    let u = first_code x p s in
    let v = first_code y q t in below (6 * b + x) (6 * d + y) p q (omega arith) u.2 v.2 (omega arith)

by_code : (b : ℕ) (p q : List ℕ) → length p ≡ length q → T (all_codes p) → T (all_codes q) → ByCode p q → number_from b p < number_from b q
by_code b [] q l s t h = absurd h
by_code b (x ∷ p) [] l s t h = absurd h
by_code b (x ∷ p) (y ∷ q) l s t (inl h) =
    below (6 * b + x) (6 * b + y) p q (omega arith) (first_code x p s).2 (first_code y q t).2 (omega arith)
by_code b (x ∷ p) (y ∷ q) l s t (inr (e, h)) =
    subst (λ (z : ℕ). number_from (6 * b + x) p < number_from (6 * b + z) q) e
    (by_code (6 * b + x) p q (omega arith) (first_code x p s).2 (first_code y q t).2 h)

-- a shorter list after digits that come to no more
shorter : (b d : ℕ) (p q : List ℕ) → length p < length q → T (all_codes p) → T (all_codes q) → b ≤ d → number_from b p < number_from d q
shorter b d p [] l s t h = absurd (omega arith)
shorter b d p (y ∷ q) l s t h =
    let v = first_code y q t in
    elim (cases_lt (length p) (length q)) [
      | inl m ↦ shorter b (6 * d + y) p q m s v.2 (omega arith)
      | inr m ↦ below b (6 * d + y) p q (omega arith) s v.2 (omega arith)
    ]

pub lower : (p q : List ℕ) → T (all_codes p) → T (all_codes q) → ComesBefore p q → number_from 0 p < number_from 0 q
lower p q s t (inl l) = shorter 0 0 p q l s t (omega arith)
lower p q s t (inr (l, h)) = by_code 0 p q l s t h

-- ---- of two lists one comes before the other, or they are equal
pub data Compared (p q : List ℕ) : Type 0 where
  same : p ≡ q → Compared p q
  first : ComesBefore p q → Compared p q
  last : ComesBefore q p → Compared p q

with_code : (x : ℕ) (p q : List ℕ) → length p ≡ length q → Compared p q → Compared (x ∷ p) (x ∷ q)
with_code x p q l (same e) = same (ap (λ (r : List ℕ). x ∷ r) e)
with_code x p q l (first (inl h)) = absurd (omega arith)
with_code x p q l (first (inr h)) = first (inr (omega arith, inr (refl, h.1)))
with_code x p q l (last (inl h)) = absurd (omega arith)
with_code x p q l (last (inr h)) = last (inr (omega arith, inr (refl, h.1)))

of_one_length : (p q : List ℕ) → length p ≡ length q → Compared p q
of_one_length [] [] l = same refl
of_one_length [] (y ∷ q) l = absurd (omega arith)
of_one_length (x ∷ p) [] l = absurd (omega arith)
of_one_length (x ∷ p) (y ∷ q) l =
    elim (cases_order x y) [
      | inl h ↦ subst (λ (z : ℕ). Compared (x ∷ p) (z ∷ q)) h (with_code x p q (omega arith) (of_one_length p q (omega arith)))
      | inr (inl h) ↦ first (inr (l, inl h))
      | inr (inr h) ↦ last (inr (sym l, inl h))
    ]

pub compared : (p q : List ℕ) → Compared p q
compared p q =
    elim (cases_order (length p) (length q)) [
      | inl h ↦ of_one_length p q h
      | inr (inl h) ↦ first (inl h)
      | inr (inr h) ↦ last (inl h)
    ]

-- ---- a number has one writing
pub one_writing : (p q : List ℕ) → T (all_codes p) → T (all_codes q) → number_from 0 p ≡ number_from 0 q → Compared p q → p ≡ q
one_writing p q s t e (same h) = h
one_writing p q s t e (first h) = let m = lower p q s t h in absurd (omega arith)
one_writing p q s t e (last h) = let m = lower q p t s h in absurd (omega arith)
