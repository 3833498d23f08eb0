-- Each bound is an inequality of second degree in the quotient: for the lower one the quotient lies between its roots, and for the upper one the
-- difference is a square.
use mathlib.Core.Path.{◌≡◌}
use Prim.Native.Nat.{ℕ, zero, suc, ◌+◌, ◌-◌, ◌*◌, ◌/◌, ◌≤◌, ◌<◌}
use native.Mathlib.Nat.{mul-le-mul_right}
use native.Mathlib.Omega.{arith}
use Rattle.whole_root.specs.Digits.{Estimate}
use Rattle.whole_root.proofs.Squares.{twice_product}
use Rattle.whole_root.proofs.digits.estimate.Goals as goal

-- the quotient of x by 160 is 25 + i, and that by 224 is 36 + i
lower-chord : (x i : ℕ) → x < 8192 → 160 * (25 + i) ≤ x → x < 160 * (26 + i) → Estimate x (38 + (25 + i))
lower-chord x i u l h =
    let inside : i * i ≤ 26 * i = mul-le-mul_right i (omega arith) in
    let square : 2 * (i * 14) ≤ i * i + 14 * 14 = twice_product i 14 in
    record { low = omega arith; high = omega arith; small = omega arith }

upper-chord : (x i : ℕ) → 8192 ≤ x → x < 16384 → 224 * (36 + i) ≤ x → x < 224 * (37 + i) → Estimate x (54 + (36 + i))
upper-chord x zero v u l h = record { low = omega arith; high = omega arith; small = omega arith }
upper-chord x (suc i) v u l h =
    let inside : i * i ≤ 36 * i = mul-le-mul_right i (omega arith) in
    let square : 2 * (i * 18) ≤ i * i + 18 * 18 = twice_product i 18 in
    record { low = omega arith; high = omega arith; small = omega arith }

pub returns-then-x-lt8192 : goal.returns-then-x-lt8192
returns-then-x-lt8192 c =
    let x = c.args.x in
    let e : 25 + (x / 160 - 25) ≡ x / 160 = omega arith in
    rw e at (lower-chord x (x / 160 - 25) (omega arith) (omega arith) (omega arith))

pub returns-else-x-lt8192 : goal.returns-else-x-lt8192
returns-else-x-lt8192 c =
    let x = c.args.x in
    let e : 36 + (x / 224 - 36) ≡ x / 224 = omega arith in
    rw e at (upper-chord x (x / 224 - 36) (omega arith) (omega arith) (omega arith) (omega arith))
