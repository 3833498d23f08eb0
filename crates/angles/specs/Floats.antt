-- Rust's operators on f64 in short, and the helpers in place of its methods (document 01, "Rust shapes that need another"). Definitions only.
use Rattle.std.specs.Prelude.{Float, pos, ℕ, Bool, true, false, cond}
use Rattle.std.specs.Float.{nan, inf, fin, binary64}
use Rattle.std.specs.Float.Ieee.{add, sub, mul, div, neg, of_bits, of_int, lt, ne}

-- x + y, x - y, x * y and x / y: each rounds once, none is fused
infixl 60 ◌⊕◌
infixl 60 ◌⊖◌
infixl 70 ◌⊗◌
infixl 70 ◌⊘◌
abbrev pub ◌⊕◌ : Float → Float → Float
x ⊕ y = add binary64 x y

abbrev pub ◌⊖◌ : Float → Float → Float
x ⊖ y = sub binary64 x y

abbrev pub ◌⊗◌ : Float → Float → Float
x ⊗ y = mul binary64 x y

abbrev pub ◌⊘◌ : Float → Float → Float
x ⊘ y = div binary64 x y

-- the whole number n; +0, 1
abbrev pub of_nat : ℕ → Float
of_nat n = of_int binary64 (pos n)

abbrev pub plus_zero : Float
plus_zero = of_bits binary64 0

abbrev pub one : Float
one = of_bits binary64 0x3ff0_0000_0000_0000

-- whether the sign bit is set; a NaN has none
unfoldable pub sign_of : Float → Bool
sign_of nan = false
sign_of (inf s) = s
sign_of (fin s m e) = s

-- neither infinite nor a NaN
unfoldable pub finite_of : Float → Bool
finite_of nan = false
finite_of (inf s) = false
finite_of (fin s m e) = true

-- |x|
unfoldable pub abs_of : Float → Float
abs_of nan = nan
abs_of (inf s) = inf false
abs_of (fin s m e) = fin false m e

-- x with the sign bit set or clear
unfoldable pub signed_of : Bool → Float → Float
signed_of set x = cond set (neg (abs_of x)) (abs_of x)

-- the smaller and the larger, each the other operand for a NaN
unfoldable pub min_of : Float → Float → Float
min_of x y = cond (ne x x) y (cond (lt y x) y x)

unfoldable pub max_of : Float → Float → Float
max_of x y = cond (ne x x) y (cond (lt x y) y x)
