-- Document 02, ask 1: every command pattern for the rig. A pattern is the list of its codes, without the 00 that follows them; the codes are the
-- ask's, whatever codes job files have. Definitions only.
use Rattle.std.specs.Prelude.{leb, ltb, length, ℕ, zero, suc, ◌+◌, ◌-◌, ◌*◌, ◌/◌, ◌%◌, ◌^◌, ◌<◌, ◌≡◌, ◌⊎◌, Bool, true, ◌&&◌, cond, Option, None, Some, List, [], ◌∷◌, ◌++◌}

-- "codes 01 to 06"
abbrev pub is_code : ℕ → Bool
is_code c = leb 1 c && leb c 6

abbrev pub all_codes : List ℕ → Bool
all_codes [] = true
all_codes (c ∷ cs) = is_code c && all_codes cs

-- "each sequence of one up to n commands from codes 01 to 06"
unfoldable pub is_pattern : ℕ → List ℕ → Bool
is_pattern n p = leb 1 (length p) && leb (length p) n && all_codes p

-- "by code, the first command counting most"
abbrev pub ByCode : List ℕ → List ℕ → Type 0
ByCode [] q = ⊥
ByCode (c ∷ cs) [] = ⊥
ByCode (c ∷ cs) (d ∷ ds) = (c < d) ⊎ ((c ≡ d) × ByCode cs ds)

-- "Shorter ones come first, equal lengths by code"
abbrev pub ComesBefore : List ℕ → List ℕ → Type 0
ComesBefore p q = (length p < length q) ⊎ ((length p ≡ length q) × ByCode p q)

-- how many there are of one up to n commands: 6 + .. + 6ⁿ
unfoldable pub count : ℕ → ℕ
count zero = 0
count (suc n) = count n + 6 ^ suc n

-- codes as the digits of a number to base six, the first counting most, after digits that come to `before`
abbrev pub number_from : ℕ → List ℕ → ℕ
number_from before [] = before
number_from before (c ∷ cs) = number_from (6 * before + c) cs

-- "the rank of a pattern, its place in that order from 0": digits from 1 to 6 give each number from 1 on once, shorter ones the lower numbers
unfoldable pub rank : List ℕ → ℕ
rank p = number_from 0 p - 1

-- these digits of a number, of which there are at most `most`
abbrev pub digits : ℕ → ℕ → List ℕ
digits zero k = []
digits (suc most) zero = []
digits (suc most) (suc k) = digits most (k / 6) ++ ((k % 6 + 1) ∷ [])

-- the pattern of a rank: a number has no more digits than it comes to
unfoldable pub pattern_at : ℕ → List ℕ
pattern_at k = digits (suc k) (suc k)

-- the patterns of m ranks from k on
abbrev pub patterns_from : ℕ → ℕ → List (List ℕ)
patterns_from k zero = []
patterns_from k (suc m) = pattern_at k ∷ patterns_from (suc k) m

-- those of one up to n commands, in their order
unfoldable pub patterns : ℕ → List (List ℕ)
patterns n = patterns_from 0 (count n)

-- the pattern of a rank; there is none past the last rank of one up to five commands
unfoldable pub pattern_or_none : ℕ → Option (List ℕ)
pattern_or_none k = cond (ltb k (count 5)) (Some (pattern_at k)) None

-- the rank of a pattern of one up to five commands; nothing else has one
unfoldable pub rank_or_none : List ℕ → Option ℕ
rank_or_none p = cond (is_pattern 5 p) (Some (rank p)) None
