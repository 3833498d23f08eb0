-- Lines: how long they are, and the parts that they are written in.
use lib.ListN.{length, get_or, drop, length-append}
use lib.Seq.{drop-cons}
use borrow.Author.Tests.{lt-ltb}
use Prim.Native.Nat.{ℕ, zero, suc, ◌+◌, ◌-◌, ◌*◌, ◌≤◌, ◌<◌}
use native.Mathlib.Omega.{arith}
use native.Mathlib.Numerals.{add-one}
use mathlib.Core.Path.{◌≡◌, refl, sym, ap, ◌∙◌}
use mathlib.Core.List.{List, [], ◌∷◌, ◌++◌}
use Rattle.std.specs.Prelude.{Some}
use Rattle.command_patterns.specs.Patterns.{count, pattern_at, pattern_or_none, patterns_from, patterns}
use Rattle.command_patterns.specs.Listing.{space, line_feed, code_then, line, lines, listing}
use Rattle.command_patterns.proofs.Numbers.{of_five, count_less, few_codes}

pub length_code : (c after : ℕ) → length (code_then c after) ≡ 3
unfolding code_then
length_code c after = refl

pub length_line : (p : List ℕ) → length (line p) ≡ 3 * (length p + 1)
length_line [] = length_code 0 line_feed
length_line (c ∷ p) =
    length-append (code_then c space) (line p) ∙ omega (arith, length_code c space, length_line p)

-- one code more, of a list from a place on
pub code_at : (codes : List ℕ) (i : ℕ) → i < length codes → drop i codes ≡ get_or codes i 0 ∷ drop (i + 1) codes
code_at codes i h = rw (add-one, drop-cons codes i 0)

pub of_rank : (k : ℕ) → k < count 5 → pattern_or_none k ≡ Some (pattern_at k)
unfolding pattern_or_none
of_rank k h = rw (lt-ltb k (count 5) h) refl

-- ---- the listing, a line at a time
lines_fit : (k m : ℕ) → k + m ≤ count 5 → length (lines (patterns_from k m)) ≤ 18 * m
lines_fit k zero h = omega arith
lines_fit k (suc m) h =
    let p = line (pattern_at k) in
    omega (
      arith,
      length-append p (lines (patterns_from (suc k) m)),
      length_line (pattern_at k),
      few_codes 5 k (omega arith),
      lines_fit (suc k) m (omega arith),
    )

pub listing_fits : (n : ℕ) → n ≤ 5 → length (listing n) ≤ 167940
unfolding listing patterns
listing_fits n h = omega (arith, of_five, count_less n 5 h, lines_fit 0 (count n) (omega (arith, count_less n 5 h)))

pub next_line : (k all : ℕ) → k < all → lines (patterns_from k (all - k)) ≡ line (pattern_at k) ++ lines (patterns_from (k + 1) (all - (k + 1)))
next_line k all h =
    let e : all - k ≡ suc (all - (k + 1)) = omega arith in
    ap (λ (m : ℕ). lines (patterns_from k m)) e
    ∙ ap (λ (j : ℕ). line (pattern_at k) ++ lines (patterns_from j (all - (k + 1)))) (sym (add-one k))

pub all_lines : (n : ℕ) → listing n ≡ lines (patterns_from 0 (count n - 0))
unfolding listing patterns
all_lines n = let e : count n ≡ count n - 0 = omega arith in ap (λ (m : ℕ). lines (patterns_from 0 m)) e
