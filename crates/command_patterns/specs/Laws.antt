-- Document 02, ask 1: "Every pattern shows up in it, none a second time, and the rank of a pattern .. gives back that pattern." The claims;
-- `proofs/Laws.antt` proves them.
use Rattle.std.specs.Prelude.{T, length, get_or, take, ℕ, ◌+◌, ◌<◌, ◌≤◌, ◌≡◌, ◌↔◌, ◌⊎◌, Some, List, [], ◌∷◌}
use Rattle.command_patterns.specs.Patterns.{is_pattern, ComesBefore, count, rank, pattern_at, patterns}
use Rattle.command_patterns.specs.Listing.{line_feed, line, number_in, eleven, printed}

-- p stands at place k of the patterns of one up to n commands
pub record Stands (n k : ℕ) (p : List ℕ) : Type 0 where
  pub inside : k < length (patterns n)
  pub there : get_or (patterns n) k [] ≡ p

-- Every pattern stands in the list at exactly one place, which is its rank.
abbrev pub EachAtItsRank : Type 0
EachAtItsRank = (n : ℕ) (p : List ℕ) → T (is_pattern n p) → (k : ℕ) → Stands n k p ↔ (k ≡ rank p)

-- What stands in it is a pattern of one up to n commands.
abbrev pub NoOther : Type 0
NoOther = (n k : ℕ) (p : List ℕ) → Stands n k p → T (is_pattern n p)

-- They stand in their order.
abbrev pub ListedInOrder : Type 0
ListedInOrder = (n i j : ℕ) (p q : List ℕ) → Stands n i p → Stands n j q → (i < j) ↔ ComesBefore p q

-- There are 6 + .. + 6ⁿ of them.
abbrev pub AsManyAsCounted : Type 0
AsManyAsCounted = (n : ℕ) → length (patterns n) ≡ count n

-- A line shows its pattern, so that none is printed a second time either.
abbrev pub LineShowsPattern : Type 0
LineShowsPattern = (p q : List ℕ) → line p ≡ line q → p ≡ q

-- "the rank of a pattern .. gives back that pattern", and the pattern of a rank that rank
abbrev pub RankGivesBack : Type 0
RankGivesBack = (n : ℕ) (p : List ℕ) → T (is_pattern n p) → (rank p < count n) × (pattern_at (rank p) ≡ p)

abbrev pub RankOfEach : Type 0
RankOfEach = (n k : ℕ) → k < count n → T (is_pattern n (pattern_at k)) × (rank (pattern_at k) ≡ k)

-- The lower rank comes first in the order, and what comes first has the lower rank.
abbrev pub LowerComesFirst : Type 0
LowerComesFirst = (n : ℕ) (p q : List ℕ) → T (is_pattern n p) → T (is_pattern n q) → (rank p < rank q) ↔ ComesBefore p q

-- Exactly ten inputs are taken: a digit from 1 to 5, with or without one line feed. Three bytes decide, however many follow.
abbrev pub TenInputs : Type 0
TenInputs =
    (input : List ℕ) (n : ℕ)
    → (number_in input ≡ Some n) ↔ ((1 ≤ n) × (n ≤ 5) × ((input ≡ (48 + n) ∷ []) ⊎ (input ≡ (48 + n) ∷ line_feed ∷ [])))

abbrev pub ThreeBytesDecide : Type 0
ThreeBytesDecide = (input : List ℕ) → number_in (take 3 input) ≡ number_in input

-- "input 1 gives `01 00` to `06 00`, six lines"
abbrev pub one_command : List ℕ
one_command =
    48 ∷ 49 ∷ 32 ∷ 48 ∷ 48 ∷ 10
    ∷ 48 ∷ 50 ∷ 32 ∷ 48 ∷ 48 ∷ 10
    ∷ 48 ∷ 51 ∷ 32 ∷ 48 ∷ 48 ∷ 10
    ∷ 48 ∷ 52 ∷ 32 ∷ 48 ∷ 48 ∷ 10
    ∷ 48 ∷ 53 ∷ 32 ∷ 48 ∷ 48 ∷ 10
    ∷ 48 ∷ 54 ∷ 32 ∷ 48 ∷ 48 ∷ 10
    ∷ []

-- An example on either side of each "exactly when", got by applying the theorem, and what the paper shows of input 1.
pub record PatternExamples : Type 0 where
  pub of_1 : printed (49 ∷ []) ≡ one_command
  pub of_1_with_two_feeds : printed (49 ∷ line_feed ∷ line_feed ∷ []) ≡ eleven
  pub of_two_commands : line (1 ∷ 6 ∷ []) ≡ 48 ∷ 49 ∷ 32 ∷ 48 ∷ 54 ∷ 32 ∷ 48 ∷ 48 ∷ 10 ∷ []
  pub of_5_with_a_feed : number_in (53 ∷ line_feed ∷ []) ≡ Some 5
  pub of_6 : (n : ℕ) → number_in (54 ∷ []) ≡ Some n → ⊥
  pub last_of_two : Stands 2 41 (6 ∷ 6 ∷ [])
  pub nowhere_else : Stands 2 40 (6 ∷ 6 ∷ []) → ⊥
  pub shorter_first : ComesBefore (6 ∷ []) (1 ∷ 1 ∷ [])
  pub longer_later : ComesBefore (1 ∷ 1 ∷ []) (6 ∷ []) → ⊥
  pub first_counts_most : ComesBefore (1 ∷ 6 ∷ []) (2 ∷ 1 ∷ [])
  pub last_counts_less : ComesBefore (2 ∷ 1 ∷ []) (1 ∷ 6 ∷ []) → ⊥
