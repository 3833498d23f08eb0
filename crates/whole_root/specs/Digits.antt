-- What the digit loop goes by: its estimate, its turns, and when it leaves. Definitions only.
use Rattle.std.specs.Prelude.{Bool, not, ◌||◌, ℕ, ◌+◌, ◌*◌, ◌^◌, ◌≤◌, ◌<◌, eqb}
use Rattle.whole_root.specs.Roots.{WholeRoot}

-- t is the whole part of √x, or up to two less, for an x below 128²
pub record Estimate (x t : ℕ) : Type 0 where
  pub low : t * t ≤ x
  pub high : x < (t + 3) * (t + 3)
  pub small : t < 128

-- What a turn starts from: a number with the whole root q and r left, and its next two digits h and l, in a base b of at most 2 * q. `room` keeps
-- the longer root within a word.
pub record Digits (q r b h l : ℕ) : Type 0 where
  pub rest : r ≤ 2 * q
  pub base : b ≤ 2 * q
  pub high : h < b
  pub low : l < b
  pub room : q * b ≤ 2 ^ 54

-- with the two digits after it the number's root is s, with t left
pub record Longer (q r b h l s t : ℕ) : Type 0 where
  pub root : WholeRoot (((q * q + r) * b + h) * b + l) s t
  pub begins : q * b ≤ s

-- Document 02, ask 4: "leave as soon as nothing remains, neither a remainder nor a nonzero digit of the argument still to be brought down"
abbrev pub remains_of : ℕ → ℕ → Bool
remains_of r d = not (eqb r 0) || not (eqb d 0)
