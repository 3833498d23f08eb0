-- The invariant is `Brought` of proofs/Loop.antt: the digits brought down are q² + r, and d has those that follow. Each turn lowers 53 - n.
use Prim.Native.Nat.{ℕ, ◌-◌, ◌*◌, ◌/◌, ◌%◌, ◌^◌, ◌<◌}
use mathlib.Core.Path.{◌≡◌, subst}
use mathlib.Core.Bool.{Bool, false, ◌&&◌}
use lib.Dec.{ltb}
use native.Mathlib.Omega.{arith}
use Rattle.whole_root.specs.Roots.{WholeRoot}
use Rattle.whole_root.proofs.Loop.{Brought, Digit, top_digit, power, asked, turn, left}
use Rattle.whole_root.proofs.digits.sqrt_rem.Goals as goal
use Rattle.whole_root.proofs.digits.sqrt_rem.Goals.{After-gain-k}

-- a turn's two digits, and what holds before and after it
module _ (c : After-gain-k) where
  abbrev s : ℕ
  s = c.gain-k.result

  abbrev e : ℕ
  e = c.loop-n.d * 2 ^ s % 2 ^ 64

  first : Digit (2 ^ s) c.loop-n.d (c.loop-n.d / 2 ^ (64 - s)) e
  first = top_digit s c.loop-n.d (omega arith) c.loop-n.invariant.word

  second : Digit (2 ^ s) e (e / 2 ^ (64 - s)) (e * 2 ^ s % 2 ^ 64)
  second = top_digit s e (omega arith) first.word

  holds : Brought c.args.of.m c.loop-n.d c.loop-n.s.root c.loop-n.s.rem c.loop-n.n
  holds = c.loop-n.invariant

  fewer : c.args.of.m < 2 ^ 54
  fewer = omega arith

  base : 1 * 2 ^ s % 2 ^ 64 ≡ 2 ^ s
  base = power s (omega arith)

pub longer-s-requires : goal.longer-s-requires
longer-s-requires c =
    let g = c.gain-k.ensures in
    rw (base c) (asked _ _ _ _ _ (fewer c) (holds c) (s c) g.0 g.1 g.2 _ _ _ _ (first c) (second c))

pub loop-n-preserved : goal.loop-n-preserved
loop-n-preserved c =
    let b = c.before in
    let g = b.gain-k.ensures in
    turn _ _ _ _ _ (fewer b) (holds b) (s b) g.0 g.1 g.2 _ _ _ _ (first b) (second b) _ _ (rw (base b) at c.longer-s.ensures)

pub returns : goal.returns
returns c =
    let l = c.loop-n in
    let w = left _ _ _ _ _ (omega arith) l.invariant (subst (λ (b : Bool). (ltb l.n 53 && b) ≡ false) c.remains.ensures c.loop-n-test.false) in
    subst (λ (k : ℕ). WholeRoot (c.args.of.m * 2 ^ 52) (l.s.root * 2 ^ k % 2 ^ 64) l.s.rem) (omega arith) w
