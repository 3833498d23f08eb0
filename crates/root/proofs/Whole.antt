-- Roots of whole numbers: `whole_root` is the whole part, by induction on its digits, and `nearest_root` the one nearest number.
use mathlib.Core.Path.{◌≡◌}
use Prim.Native.Nat.{ℕ, zero, suc, ◌+◌, ◌-◌, ◌*◌, ◌/◌, ◌^◌, ◌≤◌, ◌<◌}
use native.Mathlib.Nat.{mul-le-mul, pow-suc, le_antisymm, lt_of_not-le, le_of_suc-le-suc, lt_irrefl}
use native.Mathlib.Omega.{arith}
use mathlib.Core.Bool.{Bool, true, false, cond, not}
use lib.Dec.{T, leb, ltb, leb→le, nleb→lt, ltb→lt, nltb→le}
use Rattle.whole_root.specs.Roots.{WholeRoot, IsNearest}
use Rattle.whole_root.proofs.Squares.{root_lt, nearest_down}
use Rattle.root.specs.Root.{with_digit, whole_root, nearer, nearest_root}

-- q is the whole part of √a
record IsRoot (a q : ℕ) : Type 0 where
  low : q * q ≤ a
  high : a < (q + 1) * (q + 1)

-- with two digits more
digit_is : (a q : ℕ) → IsRoot (a / 4) q → IsRoot a (with_digit a q)
digit_is a q h = go (leb ((2 * q + 1) * (2 * q + 1)) a) (leb→le _ _) (nleb→lt _ _)
  where
    go : (b : Bool) → (T b → (2 * q + 1) * (2 * q + 1) ≤ a) → (T (not b) → a < (2 * q + 1) * (2 * q + 1)) → IsRoot a (cond b (2 * q + 1) (2 * q))
    go true k l = record { low = k tt; high = omega arith }
    go false k l = record { low = omega arith; high = l tt }

whole_is : (d a : ℕ) → a < 4 ^ d → IsRoot a (whole_root d a)
unfolding whole_root
whole_is zero a h = record { low = omega arith; high = omega arith }
whole_is (suc d) a h = digit_is a (whole_root d (a / 4)) (whole_is d (a / 4) (let e : 4 ^ suc d ≡ 4 ^ d * 4 = pow-suc 4 d in omega arith))

pub whole_root_lem : (a : ℕ) → a < 4 ^ 53 → WholeRoot a (whole_root 53 a) (a - whole_root 53 a * whole_root 53 a)
whole_root_lem a h = let i = whole_is 53 a h in record { digits = omega arith; rest = omega arith }

nearer_is : (a q : ℕ) → 0 < a → WholeRoot a q (a - q * q) → IsNearest a (nearer a q)
nearer_is a q p w = go (ltb q (a - q * q)) (ltb→lt _ _) (nltb→le _ _)
  where
    go : (b : Bool) → (T b → q < a - q * q) → (T (not b) → a - q * q ≤ q) → IsNearest a (cond b (q + 1) q)
    go true k l = let g : q < a - q * q = k tt in record { under = omega arith; over = omega (arith, w.rest) }
    go false k l = nearest_down a q (a - q * q) p w (l tt)

pub nearest_is : (a : ℕ) → 0 < a → a < 4 ^ 53 → IsNearest a (nearest_root a)
unfolding nearest_root
nearest_is a p h = nearer_is a (whole_root 53 a) p (whole_root_lem a h)

-- a number has one nearest root
not_above : (a m n : ℕ) → IsNearest a m → IsNearest a n → m ≤ n
not_above a m n h k = le_of_suc-le-suc (lt_of_not-le (λ (g : suc n ≤ m). go m g h))
  where
    go : (m : ℕ) → suc n ≤ m → IsNearest a m → ⊥
    go zero g h = lt_irrefl 0 (omega arith)
    go (suc m) g h = let l : n * suc n ≤ m * suc m = mul-le-mul (le_of_suc-le-suc g) g in lt_irrefl 0 (omega arith)

pub one_nearest : (a m n : ℕ) → IsNearest a m → IsNearest a n → m ≡ n
one_nearest a m n h k = le_antisymm (not_above a m n h k) (not_above a n m k h)

-- the root of a number of 105 or 106 digits has 53, also after rounding
pub nearest_long : (a n : ℕ) → IsNearest a n → 2 ^ 104 ≤ a → 2 ^ 52 ≤ n
nearest_long a n h l = le_of_suc-le-suc (root_lt (2 ^ 52) (suc n) (omega arith))

pub nearest_short : (a n : ℕ) → IsNearest a n → a ≤ (2 ^ 53 - 1) * 2 ^ 53 → n < 2 ^ 53
nearest_short a zero h l = omega arith
nearest_short a (suc n) h l = lt_of_not-le (λ (g : 2 ^ 53 ≤ suc n). let m : (2 ^ 53 - 1) * 2 ^ 53 ≤ n * suc n = mul-le-mul (le_of_suc-le-suc g) g in lt_irrefl a (omega arith))
