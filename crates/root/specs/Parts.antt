-- How a pattern is read and its root told, in the steps of src/normal.rt. Definitions only.
use Rattle.std.specs.Prelude.{◌≡◌, ◌⊎◌, ℕ, ◌+◌, ◌*◌, ◌^◌, ◌≤◌, ◌<◌, Float}
use Rattle.std.specs.Float.{binary64}
use Rattle.std.specs.Float.Ieee.{of_bits}
use Rattle.whole_root.specs.Roots.{IsNearest, Fewest}
use Rattle.root.specs.Root.{root_of_square, root_of}
use Rattle.root.specs.RootDigits.{digits_of_square, digits_of}

-- the patterns that are not finite and above zero
abbrev pub IsSpecial : ℕ → Type 0
IsSpecial b = (b ≡ 0) ⊎ (0x7ff0_0000_0000_0000 ≤ b)

-- the root of v, and the digits told of it, are those of a / 2 ^ 2148
pub record Reads (v : Float) (a : ℕ) : Type 0 where
  pub root : root_of v ≡ root_of_square a
  pub digits : digits_of v ≡ digits_of_square a

-- the root of the value with the pattern b is the nearest to that of m * 2 ^ 52, packed with k in the exponent's field, and has its digits
pub record Parted (b m k : ℕ) : Type 0 where
  pub least : 2 ^ 52 ≤ m
  pub most : m < 2 ^ 54
  pub high : k < 1534
  pub root : (n : ℕ) → IsNearest (m * 2 ^ 52) n → (n < 2 ^ 53) × (of_bits binary64 (k * 2 ^ 52 + n) ≡ root_of (of_bits binary64 b))
  pub digits : (n : ℕ) → Fewest (m * 2 ^ 52) n → n ≡ digits_of (of_bits binary64 b)

-- the pattern of the root, and the digits told, of the value with the pattern b
pub record Told (b root digits : ℕ) : Type 0 where
  pub root_is : of_bits binary64 root ≡ root_of (of_bits binary64 b)
  pub digits_are : digits ≡ digits_of (of_bits binary64 b)
  pub finite : root < 0x7ff0_0000_0000_0000
