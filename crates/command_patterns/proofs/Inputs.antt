-- What an input asks for, by its length.
use Rattle.std.proofs.Common.{length, get_or, ℕ, ◌<◌, ◌≡◌, refl, List, [], ◌∷◌, arith}
use Rattle.std.specs.Prelude.{None}
use borrow.Author.Tests.{eq-eqb, ne_eqb}
use Rattle.command_patterns.specs.Listing.{line_feed, digit_of, number_in}

pub one_byte : (s : List ℕ) → length s ≡ 1 → number_in s ≡ digit_of (get_or s 0 0)
unfolding number_in
one_byte [] l = absurd (omega arith)
one_byte (d ∷ []) l = refl
one_byte (d ∷ e ∷ s) l = absurd (omega arith)

pub with_feed : (s : List ℕ) → length s ≡ 2 → get_or s 1 0 ≡ line_feed → number_in s ≡ digit_of (get_or s 0 0)
unfolding number_in
with_feed [] l h = absurd (omega arith)
with_feed (d ∷ []) l h = absurd (omega arith)
with_feed (d ∷ e ∷ []) l h = simp (eq-eqb e line_feed h)
with_feed (d ∷ e ∷ f ∷ s) l h = absurd (omega arith)

pub without_feed : (s : List ℕ) → length s ≡ 2 → (get_or s 1 0 ≡ line_feed → ⊥) → number_in s ≡ None
unfolding number_in
without_feed [] l h = refl
without_feed (d ∷ []) l h = absurd (omega arith)
without_feed (d ∷ e ∷ []) l h = simp (ne_eqb e line_feed h)
without_feed (d ∷ e ∷ f ∷ s) l h = refl

pub no_byte : (s : List ℕ) → length s ≡ 0 → number_in s ≡ None
unfolding number_in
no_byte [] l = refl
no_byte (d ∷ s) l = absurd (omega arith)

pub more_bytes : (s : List ℕ) → 2 < length s → number_in s ≡ None
unfolding number_in
more_bytes [] l = refl
more_bytes (d ∷ []) l = absurd (omega arith)
more_bytes (d ∷ e ∷ []) l = absurd (omega arith)
more_bytes (d ∷ e ∷ f ∷ s) l = refl

pub ruleset by_length = (one_byte, with_feed, without_feed, no_byte, more_bytes)
