-- What is worked out of the root of a whole number: its whole part and what is left, the nearest whole number, and the fewest digits that are the
-- exact root. Definitions only.
use Rattle.std.specs.Prelude.{◌≡◌, ◌⊎◌, ℕ, ◌+◌, ◌-◌, ◌*◌, ◌^◌, ◌≤◌, ◌<◌}

-- q is the whole part of √a, and r is left
pub record WholeRoot (a q r : ℕ) : Type 0 where
  pub digits : q * q + r ≡ a
  pub rest : r ≤ 2 * q

-- n is the whole number nearest to √a: 4 * a lies between (2 * n - 1)² and (2 * n + 1)²
pub record IsNearest (a n : ℕ) : Type 0 where
  pub under : n * n < a + n
  pub over : a ≤ n * n + n

-- k digits, with zeros after them up to 53, are the exact root of a
pub record Exact (a k : ℕ) : Type 0 where
  pub digits : ℕ
  pub short : digits < 2 ^ k
  pub root : digits * 2 ^ (53 - k) * (digits * 2 ^ (53 - k)) ≡ a

-- n is the fewest that are, which is 27 at most; or none are, and it is 53
pub record Fewest (a n : ℕ) : Type 0 where
  pub fewest : (k : ℕ) → k ≤ 53 → Exact a k → n ≤ k
  pub told : ((n ≤ 27) × Exact a n) ⊎ ((n ≡ 53) × ((k : ℕ) → k ≤ 53 → Exact a k → ⊥))
