-- The facts are those of proofs/Turn.antt, at what the code takes for the quotient and finds left.
use Prim.Native.Nat.{◌-◌, ◌*◌, ◌/◌, ◌^◌}
use native.Mathlib.Omega.{arith}
use lib.Dec.{ltb→lt, nltb→le}
use Rattle.whole_root.proofs.Turn.{digit, rounds}
use Rattle.whole_root.proofs.reciprocal.last_turn.Goals as goal

pub returns : goal.returns
returns c =
    let s = c.args.s in
    let p = c.args.d / 16 * c.args.r / 2 ^ 37 in
    let u = c.args.d * 2 ^ 21 - p * s in
    rounds s c.args.d p u c.requires.begun (record { whole = omega (arith, c.if-n-p.false); rest = omega (arith, c.if-s-u.false); digit = digit (c.args.d / 16) c.args.r (omega (arith, c.requires.begun.near)) c.requires.reciprocal }) _ (λ h. omega (arith, ltb→lt _ _ h)) (λ h. omega (arith, nltb→le _ _ h))
