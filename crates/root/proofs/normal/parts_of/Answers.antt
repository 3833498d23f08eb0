-- A subnormal number is moved up by as many places as its leading zeros tell, a normal one has its leading digit put back; proofs/Bits.antt says
-- that either has the pattern's root and digits.
use mathlib.Core.Path.{◌≡◌, sym, ap₂, ◌∙◌, subst}
use Prim.Native.Nat.{ℕ, ◌-◌, ◌*◌, ◌%◌, ◌^◌, ◌≤◌, ◌<◌}
use native.Mathlib.Nat.{mod-eq_of_lt}
use native.Mathlib.Omega.{arith}
use lib.Ieee.{binary64, of_bits}
use lib.Count.{count_leading_zeros}
use Rattle.root.specs.Parts.{Reads, Parted}
use Rattle.root.proofs.Bits.{Moved, moved, read_normal, read_subnormal, parted}
use Rattle.root.proofs.normal.parts_of.Goals as goal

-- nothing is lost at the top
shifted : (t z : ℕ) → Moved t z → t * 2 ^ (z - 11) % 2 ^ 64 ≡ t * 2 ^ (z - 11)
shifted t z m = mod-eq_of_lt (omega arith)

kept : {x y : ℕ} → x ≡ y → 2 ^ 52 ≤ y → y < 2 ^ 53 → (2 ^ 52 ≤ x) × (x < 2 ^ 53)
kept e l h = omega arith

-- what even_parts gives is what is asked for
same : {b m k x y : ℕ} → x ≡ m → y ≡ k → Parted b m k → Parted b x y
same {b} {m} {k} {x} {y} e f p = subst (λ (z : ℕ). Parted b z y) (sym e) (subst (Parted b m) (sym f) p)

at : (b : ℕ) → 0 < b % 2 ^ 52 → Moved (b % 2 ^ 52) (count_leading_zeros 64 (b % 2 ^ 52))
at b h = moved (b % 2 ^ 52) h (omega arith)

pub overflow_sub-s : goal.overflow_sub-s
overflow_sub-s c = omega (arith, at c.args.b (omega arith))

pub overflow_add-g : goal.overflow_add-g
overflow_add-g c = let m = at c.args.b (omega arith) in omega (arith, m, shifted _ _ m)

pub even_parts-requires-2-clause-significand : goal.even_parts-requires-2-clause-significand
even_parts-requires-2-clause-significand c = let m = at c.args.b (omega arith) in kept (shifted _ _ m) m.least m.most

pub returns-clause-parts : goal.returns-clause-parts
returns-clause-parts c =
    let b = c.args.b in
    let t = b % 2 ^ 52 in
    let m = at b (omega arith) in
    let s = count_leading_zeros 64 t - 11 in
    let e : t ≡ b = omega arith in
    let r = subst (λ (x : ℕ). Reads (of_bits binary64 x) (t * 2 ^ s * 2 ^ (1074 - s))) e (read_subnormal t s (omega arith) (omega arith) (omega arith)) in
    same
    (c.even_parts-2.ensures.0 ∙ ap₂ (λ (x g : ℕ). x * 2 ^ (g % 2)) (shifted t (count_leading_zeros 64 t) m) (omega arith))
    (omega (arith, c.even_parts-2.ensures.1))
    (parted b (t * 2 ^ s) (1074 - s) m.least m.most (omega arith) (omega arith) r)

pub returns-then-e-gt0-clause-parts : goal.returns-then-e-gt0-clause-parts
returns-then-e-gt0-clause-parts c =
    let b = c.args.b in
    same
    c.even_parts.ensures.0
    c.even_parts.ensures.1
    (parted b _ _ (omega arith) (omega arith) (omega arith) (omega arith) (read_normal b (omega arith) (omega arith)))
