-- Whole numbers and their squares, and from a whole root with what is left to the nearest root: the next number where more is left than the root.
use mathlib.Core.Path.{◌≡◌, sym, ap, ◌∙◌}
use Prim.Native.Nat.{ℕ, zero, suc, ◌+◌, ◌-◌, ◌*◌, ◌^◌, ◌≤◌, ◌<◌}
use native.Mathlib.Nat.{add-zero, add-sub_of_le, mul-le-mul, lt_of_not-le, not-le_of_lt, lt_irrefl}
use native.Mathlib.Omega.{arith}
use mathlib.Core.Bool.{Bool, true, false, not}
use lib.Dec.{T, leb, leb→le, nleb→lt}
use lib.Pow.{pow-add}
use mir.Val.{bool_byte}
use Rattle.whole_root.specs.Roots.{WholeRoot, IsNearest}

-- roots are in the order of their squares
pub root_lt : (a b : ℕ) → a * a < b * b → a < b
root_lt a b h = lt_of_not-le (λ (g : b ≤ a). not-le_of_lt h (mul-le-mul g g))

-- (a - b)² is not negative
pub twice_product : (a b : ℕ) → 2 * (a * b) ≤ a * a + b * b
twice_product a b = go (leb a b) (leb→le a b) (nleb→lt a b)
  where
    ordered : (a d : ℕ) → 2 * (a * (a + d)) ≤ a * a + (a + d) * (a + d)
    ordered a d = omega arith

    go : (t : Bool) → (T t → a ≤ b) → (T (not t) → b < a) → 2 * (a * b) ≤ a * a + b * b
    go true h k = let l = h tt in let e : a + (b - a) ≡ b = omega arith in rw e at (ordered a (b - a))
    go false h k = let l = k tt in let e : b + (a - b) ≡ a = omega arith in omega (arith, rw e at (ordered b (a - b)))

-- k digits, and as many zeros as make 53
pub all_places : (k : ℕ) → k ≤ 53 → 2 ^ k * 2 ^ (53 - k) ≡ 2 ^ 53
all_places k l = sym (pow-add 2 k (53 - k)) ∙ ap (λ (x : ℕ). 2 ^ x) (add-sub_of_le l)

module _ (a q r : ℕ) (some : 0 < a) (w : WholeRoot a q r) where
  pub some_root : 0 < q
  some_root = go q w.digits w.rest
    where
      go : (q : ℕ) → q * q + r ≡ a → r ≤ 2 * q → 0 < q
      go zero e l = absurd (lt_irrefl 0 (omega arith))
      go (suc q) e l = omega arith

  pub root_short : a < 4 ^ 53 → q < 2 ^ 53
  root_short short = root_lt q (2 ^ 53) (omega (arith, w.digits))

  pub nearest_down : r ≤ q → IsNearest a q
  nearest_down l = record { under = omega (arith, w.digits, some_root); over = omega (arith, w.digits) }

  pub nearest : (t : Bool) → (T t → q < r) → (T (not t) → r ≤ q) → IsNearest a (q + bool_byte t)
  nearest true x y = let l : q < r = x tt in record { under = omega (arith, w.digits); over = omega (arith, w.digits, w.rest) }
  nearest false x y = rw (add-zero q) (nearest_down (y tt))
