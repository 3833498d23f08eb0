-- Document 02, ask 4: "the fewest that, with zeros after them, are the exact root, told as 53 where none are", with no word on how a root is worked
-- out, and what a count means. Definitions and claims; `proofs/DigitsRule.antt` proves them.
use Rattle.std.specs.Prelude.{◌≡◌, ◌⊎◌, ℕ, ◌*◌, ◌%◌, ◌^◌, ◌≤◌, ◌<◌, T, Float}
use Rattle.std.specs.Float.{binary64}
use Rattle.std.specs.Float.Ieee.{fits}
use Rattle.std.specs.Float.Ieee.Positive.{num, den, positive}
use Rattle.root.specs.Root.{root_of}
use Rattle.root.specs.RootDigits.{digits_of}

-- k digits, with zeros after them and the point where it belongs, are the exact root of an x above zero: (digits * 2 ^ up / 2 ^ down)² is x
pub record ExactRoot (x : Float) (k : ℕ) : Type 0 where
  pub digits : ℕ
  pub up : ℕ
  pub down : ℕ
  pub short : digits < 2 ^ k
  pub square : digits * digits * (2 ^ up * 2 ^ up) * den x ≡ num x * (2 ^ down * 2 ^ down)

-- n is the fewest that are, which is 27 at most; or none are, however many, and it is 53
pub record FewestDigits (x : Float) (n : ℕ) : Type 0 where
  pub fewest : (k : ℕ) → ExactRoot x k → n ≤ k
  pub told : ((n ≤ 27) × ExactRoot x n) ⊎ ((n ≡ 53) × ((k : ℕ) → ExactRoot x k → ⊥))

-- The digits told of a finite value above zero meet the rule.
abbrev pub DigitsFewest : Type 0
DigitsFewest = (x : Float) → T (fits binary64 x) → T (positive x) → FewestDigits x (digits_of x)

-- No other number meets it.
abbrev pub OneFewest : Type 0
OneFewest = (x : Float) (n : ℕ) → T (fits binary64 x) → T (positive x) → FewestDigits x n → n ≡ digits_of x

-- Of a finite value above zero the count is 1 to 27, or 53; of any other it is 0.
pub record CountOf (x : Float) (n : ℕ) : Type 0 where
  pub above : T (positive x) → ((1 ≤ n) × (n ≤ 27)) ⊎ (n ≡ 53)
  pub other : (T (positive x) → ⊥) → n ≡ 0

abbrev pub DigitsCounted : Type 0
DigitsCounted = (x : Float) → T (fits binary64 x) → CountOf x (digits_of x)

-- r is the exact root of x, both from zero up
abbrev pub IsSquare : Float → Float → Type 0
IsSquare x r = num r * num r * den x ≡ num x * (den r * den r)

-- r is n digits, with zeros after them and the point where it belongs, and the first and the last of them are a 1
pub record DigitsOfRoot (r : Float) (n : ℕ) : Type 0 where
  pub digits : ℕ
  pub up : ℕ
  pub down : ℕ
  pub value : num r * 2 ^ down ≡ digits * 2 ^ up * den r
  pub first : 2 ^ n ≤ 2 * digits
  pub short : digits < 2 ^ n
  pub last : digits % 2 ≡ 1

-- A count from 1 to 27 means that the root is exact, and that the last digit counted is a 1; one of 53 that it is not exact.
abbrev pub DigitsExact : Type 0
DigitsExact =
    (x : Float) → T (fits binary64 x) → 1 ≤ digits_of x → digits_of x ≤ 27 → IsSquare x (root_of x) × DigitsOfRoot (root_of x) (digits_of x)

abbrev pub DigitsInexact : Type 0
DigitsInexact = (x : Float) → T (fits binary64 x) → digits_of x ≡ 53 → IsSquare x (root_of x) → ⊥
