-- Document 02, ask 4: how many binary digits of a root are told, "from the leading 1: the fewest that, with zeros after them, are the exact root, told as
-- 53 where none are, and 0 for a zero, negative, infinite or NaN argument", as a function that computes. Its rule, with no word on how a root is worked
-- out, and what a count means are stated and proved in the crate root_rule. Definitions only.
use Rattle.std.specs.Prelude.{Bool, true, false, cond, ℕ, zero, suc, ◌+◌, ◌-◌, ◌*◌, ◌/◌, ◌^◌, eqb, Float}
use Rattle.std.specs.Float.{nan, inf, fin}
use Rattle.std.specs.Float.Ieee.{size}
use Rattle.root.specs.Root.{whole_root, in_units}

-- the first k of the 53 digits of q, with zeros after them
abbrev pub first_digits : ℕ → ℕ → ℕ
first_digits k q = q / 2 ^ (53 - k) * 2 ^ (53 - k)

-- they are the exact root of a
abbrev pub are_exact : ℕ → ℕ → ℕ → Bool
are_exact a q k = eqb (first_digits k q * first_digits k q) a

-- the fewest that are, of k and the numbers after it, as many as are left to try in all; 53 where none are
unfoldable pub fewest_from : ℕ → ℕ → ℕ → ℕ → ℕ
fewest_from a q zero k = 53
fewest_from a q (suc left) k = cond (are_exact a q k) k (fewest_from a q left (k + 1))

-- the digits told of √a, for an a of 105 or 106 digits, whose root has 53
unfoldable pub digits_of_whole : ℕ → ℕ
unfolding whole_root fewest_from
digits_of_whole a = fewest_from a (whole_root 53 a) 52 1

-- the same for the a of `root_of_square`
unfoldable pub digits_of_square : ℕ → ℕ
unfolding digits_of_whole size
digits_of_square a = let k = (size a - 105) / 2 in digits_of_whole (a / 2 ^ (2 * k))

unfoldable pub digits_of : Float → ℕ
unfolding digits_of_square
digits_of nan = 0
digits_of (inf s) = 0
digits_of (fin s zero e) = 0
digits_of (fin true (suc m) e) = 0
digits_of (fin false (suc m) e) = digits_of_square (in_units (suc m) e * 2 ^ 1074)
