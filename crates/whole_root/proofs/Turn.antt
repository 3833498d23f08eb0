-- The last turn: where p * s leaves u of d * 2 ^ 21, and u is at most half as much again as s, the nearest root of the number times 2 ^ 44 is
-- q = s * 2 ^ 22 + p or q + 1.
use mathlib.Core.Path.{◌≡◌}
use Prim.Native.Nat.{ℕ, ◌+◌, ◌-◌, ◌*◌, ◌/◌, ◌^◌, ◌≤◌, ◌<◌}
use native.Mathlib.Nat.{mul-le-mul_right}
use native.Mathlib.Omega.{arith}
use mathlib.Core.Bool.{Bool, true, false, not}
use lib.Dec.{T}
use mir.Val.{bool_byte}
use Rattle.std.proofs.lemmas.Nat.{mul-lt}
use Rattle.whole_root.specs.Roots.{IsNearest}
use Rattle.whole_root.specs.Reciprocal.{Begun}

-- p, near to d * 2 ^ 21 / s, and what it leaves
pub record Cut (s d p u : ℕ) : Type 0 where
  pub whole : d * 2 ^ 21 ≡ p * s + u
  pub rest : 2 * u ≤ 3 * s
  pub digit : p ≤ 2 ^ 26 - 1

pub digit : (f r : ℕ) → f < 2 ^ 31 → r < 2 ^ 32 → f * r / 2 ^ 37 ≤ 2 ^ 26 - 1
digit f r a b = omega (arith, mul-lt f r (2 ^ 31) (2 ^ 32) a b)

squared : (s d p u : ℕ) → d * 2 ^ 21 ≡ p * s + u → (s * s + d) * 2 ^ 44 + p * p ≡ (s * 2 ^ 22 + p) * (s * 2 ^ 22 + p) + u * 2 ^ 23
squared s d p u e = omega arith

above : (a q w v : ℕ) → a + w ≡ q * q + v → v ≤ 3 * q → q + w < v → IsNearest a (q + 1)
above a q w v e l g = record { under = omega arith; over = omega arith }

below : (a q w v : ℕ) → a + w ≡ q * q + v → w < q → v ≤ q + w → IsNearest a (q + 0)
below a q w v e l g = record { under = omega arith; over = omega arith }

module _ (s d p u : ℕ) (b : Begun s d) (c : Cut s d p u) where
  abbrev q : ℕ
  q = s * 2 ^ 22 + p

  parts : (s * s + d) * 2 ^ 44 + p * p ≡ q * q + u * 2 ^ 23
  parts = squared s d p u c.whole

  small : p * p < q
  small = omega (arith, mul-le-mul_right p c.digit, b.least, c.digit)

  left : u * 2 ^ 23 ≤ 3 * q
  left = omega (arith, c.rest)

  pub rounds : (t : Bool) → (T t → q + p * p < u * 2 ^ 23) → (T (not t) → u * 2 ^ 23 ≤ q + p * p) → IsNearest ((s * s + d) * 2 ^ 44) (q + bool_byte t)
  rounds true x y = above _ q _ _ parts left (x tt)
  rounds false x y = below _ q _ _ parts small (y tt)
