-- The facts are those of proofs/Step.antt, at the quotient and the remainder that the code works out.
use Prim.Native.Nat.{ℕ, ◌+◌, ◌*◌, ◌/◌, ◌%◌}
use native.Mathlib.Omega.{arith}
use lib.Dec.{ltb, ltb→lt, nltb→le}
use mir.Val.{bool_byte}
use Rattle.whole_root.specs.Digits.{Digits}
use Rattle.whole_root.proofs.Step.{Parts, Stepped, parts, stepped}
use Rattle.whole_root.proofs.digits.longer.Goals as goal

module _ {q r b h l : ℕ} (d : Digits q r b h l) where
  abbrev p : ℕ
  p = (r * b + h) / (2 * q)

  abbrev u : ℕ
  u = (r * b + h) % (2 * q)

  abbrev v : ℕ
  v = u * b + l

  cut : Parts q r b h p u
  cut = parts q r b h l d

  after : Stepped q r b h l (q * b + p) v p (bool_byte (ltb v (p * p)))
  after = stepped q r b h l p u d cut (ltb v (p * p)) (ltb→lt _ _) (nltb→le _ _)

pub overflow_mul-n : goal.overflow_mul-n
overflow_mul-n c = omega (arith, cut c.requires, c.requires)

pub overflow_add-n : goal.overflow_add-n
overflow_add-n c = omega (arith, cut c.requires, c.requires)

pub overflow_mul-v : goal.overflow_mul-v
overflow_mul-v c = omega (arith, cut c.requires, c.requires)

pub overflow_add-v : goal.overflow_add-v
overflow_add-v c = omega (arith, cut c.requires, c.requires)

pub overflow_mul-f : goal.overflow_mul-f
overflow_mul-f c = omega (arith, cut c.requires, c.requires)

pub overflow_mul-result : goal.overflow_mul-result
overflow_mul-result c = omega (arith, cut c.requires, after c.requires, c.requires)

pub overflow_add-result : goal.overflow_add-result
overflow_add-result c = omega (arith, cut c.requires, after c.requires, c.requires)

pub overflow_add-result-2 : goal.overflow_add-result-2
overflow_add-result-2 c = omega (arith, cut c.requires, after c.requires, c.requires)

pub overflow_mul-result-3 : goal.overflow_mul-result-3
overflow_mul-result-3 c = omega (arith, cut c.requires, c.requires)

pub overflow_sub-result : goal.overflow_sub-result
overflow_sub-result c = (after c.requires).enough

pub returns : goal.returns
returns c = (after c.requires).is
