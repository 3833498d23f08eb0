-- With the whole root q and r left, the nearest is the next number where q < r, and q is exact where r is 0.
use mathlib.Core.Path.{refl, subst}
use Prim.Native.Nat.{◌*◌, ◌^◌, ◌<◌}
use native.Mathlib.Omega.{arith}
use lib.Count.{count_trailing_zeros}
use lib.Dec.{ltb→lt, nltb→le}
use Rattle.whole_root.specs.Roots.{Fewest}
use Rattle.whole_root.proofs.Squares.{nearest, nearest_down}
use Rattle.whole_root.proofs.Fewest.{few_zeros, exactly, none}
use Rattle.whole_root.proofs.digits.counted_root.Goals as goal
use Rattle.whole_root.proofs.digits.counted_root.Goals.{Then-s-eq0}

few : (c : Then-s-eq0) → count_trailing_zeros 64 c.sqrt_rem-s.result.root < 53
few c =
    let m = c.args.of.m in
    few_zeros (m * 2 ^ 52) _ _ m refl (omega arith) (omega arith) c.sqrt_rem-s.ensures

pub overflow_sub-result : goal.overflow_sub-result
overflow_sub-result c = omega (arith, few c)

pub returns-then-s-eq0 : goal.returns-then-s-eq0
returns-then-s-eq0 c =
    let m = c.args.of.m in
    let w = c.sqrt_rem-s.ensures in
    (nearest_down (m * 2 ^ 52) _ _ (omega arith) w (omega arith), subst (Fewest (m * 2 ^ 52)) (omega arith) (exactly (m * 2 ^ 52) _ _ m refl (omega arith) (omega arith) w c.if-s-eq0.true))

pub returns : goal.returns
returns c =
    let m = c.args.of.m in
    let s = c.sqrt_rem-s in (
      nearest (m * 2 ^ 52) _ _ (omega arith) s.ensures _ (λ h. omega (arith, ltb→lt _ _ h)) (λ h. omega (arith, nltb→le _ _ h)),
      subst (Fewest (m * 2 ^ 52)) (omega arith) (none (m * 2 ^ 52) _ _ m refl (omega arith) (omega arith) s.ensures c.if-s-eq0.false),
    )
