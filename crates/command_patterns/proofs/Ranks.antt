-- What is answered of the rank of a list of codes.
use Rattle.std.proofs.Common.{T, length, ℕ, ◌-◌, ◌≤◌, ◌<◌, ◌≡◌, refl, sym, subst, arith, true, false, List, [], ◌∷◌}
use Rattle.std.proofs.Math.Bool.{and-false}
use Rattle.std.specs.Prelude.{Option, None, Some, SomeIff}
use borrow.Author.Tests.{le-leb, lt-leb}
use Rattle.command_patterns.specs.Patterns.{all_codes, is_pattern, number_from, rank, rank_or_none}
use Rattle.command_patterns.proofs.Numbers.{positive}

pub of_too_many : (p : List ℕ) → 5 < length p → rank_or_none p ≡ None
unfolding rank_or_none is_pattern
of_too_many p h = simp (lt-leb (length p) 5 h, and-false)

pub of_wrong_code : (p : List ℕ) → all_codes p ≡ false → rank_or_none p ≡ None
unfolding rank_or_none is_pattern
of_wrong_code p e = simp (e, and-false)

-- the number of right codes, of which none at all come to 0
pub of_number : (p : List ℕ) (r : Option ℕ) → all_codes p ≡ true → length p ≤ 5 → SomeIff r (1 ≤ number_from 0 p) (number_from 0 p - 1) → r ≡ rank_or_none p
unfolding rank_or_none is_pattern rank
of_number [] None s l h = refl
of_number [] (Some x) s l h = absurd (omega (arith, h.0))
of_number (c ∷ p) None s l h = absurd (h (positive (c ∷ p) (omega arith) (subst T (sym s) tt)))
of_number (c ∷ p) (Some x) s l h = simp (s, h.1, le-leb 1 (length (c ∷ p)) (omega arith), le-leb (length (c ∷ p)) 5 l)

-- the codes that are left decide, after those that came to a number
pub record Left (p rest : List ℕ) (number : ℕ) : Type 0 where
  pub same_codes : all_codes p ≡ all_codes rest
  pub same_number : number_from 0 p ≡ number_from number rest
