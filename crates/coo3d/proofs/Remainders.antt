-- The longitude modulo π/2 without a remainder of floats: for a longitude in the turn, with k of 0 to 3 quarter turns in it, `rem` rounds the same fraction as the
-- difference of the longitude and k × (π/2), which is a value of the format for each of the four.
use mathlib.Core.Path.{◌≡◌, refl, sym, ap, ◌∙◌, subst}
use mathlib.Core.Logic.{⊎_elim}
use mathlib.Core.Bool.{Bool, true, false, ◌&&◌, cond}
use Prim.Native.Nat.{ℕ, ◌+◌, ◌-◌, ◌*◌, ◌%◌, ◌^◌, ◌≤◌, ◌<◌}
use native.Mathlib.Nat.{mul-pos, mul-le-mul_right, le_of_mul-le-mul_right, lt_of_not-le, mod-eq_of_lt, add-mul-mod_self_right, zero-mod}
use native.Mathlib.Omega.{arith}
use borrow.Author.Tests.{le-ltb}
use lib.Dec.{T, ltb→lt, lit≤}
use lib.IntN.{ℤ, pos, negsuc}
use lib.Pow.{pow_pos}
use lib.Ieee.{Float, nan, inf, fin, binary64, up, down, round, sum, add, sub, mul, rem, neg, of_bits, of_int, lt, le}
use lib.Ieee.Fits.{and_l, and_r, down_pos}
use lib.Ieee.Bits.{is_true}
use lib.Ieee.Scale.{round_same}
use Rattle.angles.specs.Floats.{◌⊖◌, ◌⊗◌, of_nat, plus_zero}
use Rattle.angles.specs.Constants.{half_pi, two_pi}
use Rattle.angles.specs.Circular.{quarter_turns}
use Rattle.bounds.proofs.Order.{le→below, below→le}
use Rattle.coo3d.specs.LonLats.{is_longitude, InTurn}
use Rattle.coo3d.specs.Quarters.{lon_mod_half_pi}

-- x − k × y of an x with k × y in it
left_over : (x y k : ℕ) → k * y ≤ x → x < k * y + y → x % y ≡ x - k * y
left_over x y k h l =
    let e : x ≡ x - k * y + k * y = omega arith in
    let i : x - k * y < y = omega arith in
    ap (λ (z : ℕ). z % y) e ∙ add-mul-mod_self_right (x - k * y) k y ∙ mod-eq_of_lt i

-- x − y of two floats without a sign, for y ≤ x
pub difference : (m : ℕ) (e : ℤ) (n : ℕ) (d : ℤ) → n * up d * down e ≤ m * up e * down d
    → sub binary64 (fin false m e) (fin false n d) ≡ round binary64 false (m * up e * down d - n * up d * down e) (down e * down d)
unfolding sub add neg sum
difference m e n d h = rw (le-ltb (m * up e * down d) (n * up d * down e) h)

-- a / c − b / c and x / l − y / l, where a / c is x / l and b / c is y / l
same_fraction : (a b x y d l c : ℕ) → b ≤ a → y ≤ x → a * l ≡ x * c → b * l ≡ y * c → (a - b) * (d * l) ≡ (x - y) * (d * c)
same_fraction a b x y d l c h k e f = go (a - b) (x - y) (omega arith) (omega arith)
  where
    go : (t u : ℕ) → t + b ≡ a → u + y ≡ x → t * (d * l) ≡ u * (d * c)
    go t u p q =
        let i : t * l ≡ u * c = let r = ap (λ (z : ℕ). z * l) p in let s = ap (λ (z : ℕ). z * c) q in omega arith in
        let j = ap (λ (z : ℕ). d * z) i in
        omega arith

-- the numerator of π/2, over 2 ^ 49
abbrev M : ℕ
M = 884279719003555

module _ (m : ℕ) (e : ℤ) where
  abbrev x : Float
  x = fin false m e

  abbrev X : ℕ
  X = m * up e * 2 ^ 49

  abbrev Y : ℕ
  Y = M * 1 * down e

  -- n × 2 ^ d is k × (π/2)
  module _ (k n : ℕ) (d : ℤ) (exact : n * up d * 2 ^ 49 ≡ k * M * down d) where
    abbrev A : ℕ
    A = m * up e * down d

    abbrev B : ℕ
    B = n * up d * down e

    scaled : B * 2 ^ 49 ≡ k * Y * down d
    scaled = let s = ap (λ (z : ℕ). z * down e) exact in omega arith

    contained : B ≤ A → k * Y ≤ X
    contained h = le_of_mul-le-mul_right (let s = scaled in let t = mul-le-mul_right (2 ^ 49) h in omega arith) (down_pos d)

    less_turns : B ≤ A → X < k * Y + Y → sub binary64 x (fin false n d) ≡ rem binary64 x half_pi
    unfolding rem of_bits
    less_turns h l =
        difference m e n d h
        ∙ round_same binary64 false (A - B) (down e * down d) (X - k * Y) (down e * 2 ^ 49)
        (mul-pos (down_pos e) (down_pos d)) (mul-pos (down_pos e) (pow_pos 49))
        (same_fraction A B X (k * Y) (down e) (2 ^ 49) (down d) h (contained h) (omega arith) scaled)
        ∙ ap (λ (z : ℕ). round binary64 false z (down e * 2 ^ 49)) (sym (left_over X Y k (contained h) l))

  -- where n × 2 ^ d is not in x
  short : (n : ℕ) (d : ℤ) → le (fin false n d) x ≡ false → m * up e * down d < n * up d * down e
  short n d h = lt_of_not-le (λ (b : n * up d * down e ≤ m * up e * down d). subst T h (below→le (fin false n d) x tt tt (omega arith)))

  long : (n : ℕ) (d : ℤ) → le (fin false n d) x ≡ true → n * up d * down e ≤ m * up e * down d
  long n d h = let l = le→below (fin false n d) x tt tt (rw h tt) in omega arith

  -- of no sign, and below 2π
  unsigned : lt x two_pi ≡ true → x ⊖ of_nat (quarter_turns x) ⊗ half_pi ≡ rem binary64 x half_pi
  unfolding quarter_turns of_bits of_int mul lt
  unsigned h = by (le (of_nat 3 ⊗ half_pi) x) (le (of_nat 2 ⊗ half_pi) x) (le (of_nat 1 ⊗ half_pi) x) refl refl refl
    where
      by : (a b c : Bool) → le (of_nat 3 ⊗ half_pi) x ≡ a → le (of_nat 2 ⊗ half_pi) x ≡ b → le (of_nat 1 ⊗ half_pi) x ≡ c
          → x ⊖ of_nat (cond a 3 (cond b 2 (cond c 1 0))) ⊗ half_pi ≡ rem binary64 x half_pi
      by true b c p q r =
          let l = ltb→lt (m * up e * 2 ^ 47) (M * 1 * down e) (rw h tt) in
          less_turns 3 2652839157010665 (negsuc 48) refl (long 2652839157010665 (negsuc 48) p) (omega arith)
      by false true c p q r =
          let l = short 2652839157010665 (negsuc 48) p in
          less_turns 2 M (negsuc 47) refl (long M (negsuc 47) q) (omega arith)
      by false false true p q r =
          let l = short M (negsuc 47) q in
          less_turns 1 M (negsuc 48) refl (long M (negsuc 48) r) (omega arith)
      by false false false p q r =
          let l = short M (negsuc 48) r in
          less_turns 0 0 (pos 0) refl (omega arith) (omega arith)

-- −0
module _ (m : ℕ) (e : ℤ) (none : m * up e ≡ 0) where
  not_in_zero : (n : ℕ) (d : ℤ) → 0 < n * up d → le (fin false n d) (fin true m e) ≡ true → ⊥
  not_in_zero n d p h =
      let l = le→below (fin false n d) (fin true m e) tt tt (rw h tt) in
      let q = mul-pos p (down_pos e) in
      omega arith

  same_zero : fin true m e ⊖ fin false 0 (pos 0) ≡ rem binary64 (fin true m e) half_pi
  unfolding sub add neg sum rem of_bits
  same_zero =
      let z : m * up e * 2 ^ 49 % (M * 1 * down e) ≡ 0 = ap (λ (t : ℕ). t * 2 ^ 49 % (M * 1 * down e)) none ∙ zero-mod (M * 1 * down e) in
      round_same binary64 true (m * up e * 1 + 0 * 1 * down e) (down e * 1) (m * up e * 2 ^ 49 % (M * 1 * down e)) (down e * 2 ^ 49)
      (mul-pos (down_pos e) (lit≤ tt)) (mul-pos (down_pos e) (pow_pos 49))
      (rw (z, none) (omega arith))

  minus_zero : fin true m e ⊖ of_nat (quarter_turns (fin true m e)) ⊗ half_pi ≡ rem binary64 (fin true m e) half_pi
  unfolding quarter_turns of_bits of_int mul
  minus_zero = by (le (of_nat 3 ⊗ half_pi) (fin true m e)) (le (of_nat 2 ⊗ half_pi) (fin true m e)) (le (of_nat 1 ⊗ half_pi) (fin true m e)) refl refl refl
    where
      by : (a b c : Bool) → le (of_nat 3 ⊗ half_pi) (fin true m e) ≡ a → le (of_nat 2 ⊗ half_pi) (fin true m e) ≡ b → le (of_nat 1 ⊗ half_pi) (fin true m e) ≡ c
          → fin true m e ⊖ of_nat (cond a 3 (cond b 2 (cond c 1 0))) ⊗ half_pi ≡ rem binary64 (fin true m e) half_pi
      by true b c p q r = absurd (not_in_zero 2652839157010665 (negsuc 48) (lit≤ tt) p)
      by false true c p q r = absurd (not_in_zero M (negsuc 47) (lit≤ tt) q)
      by false false true p q r = absurd (not_in_zero M (negsuc 48) (lit≤ tt) r)
      by false false false p q r = same_zero

of_number : (x : Float) → T (le plus_zero x) → T (lt x two_pi) → x ⊖ of_nat (quarter_turns x) ⊗ half_pi ≡ rem binary64 x half_pi
unfolding le lt of_bits
of_number nan h k = absurd h
of_number (inf true) h k = absurd h
of_number (inf false) h k = absurd k
of_number (fin false m e) h k = unsigned m e (is_true (lt (fin false m e) two_pi) k)
of_number (fin true m e) h k = minus_zero m e (let l = le→below plus_zero (fin true m e) tt tt h in omega arith)

of_nan : nan ⊖ of_nat (quarter_turns nan) ⊗ half_pi ≡ rem binary64 nan half_pi
unfolding sub add rem
of_nan = refl

pub by_turns : (lon : Float) → InTurn lon → lon ⊖ of_nat (quarter_turns lon) ⊗ half_pi ≡ lon_mod_half_pi lon
unfolding lon_mod_half_pi is_longitude
by_turns lon =
    ⊎_elim
    (λ h. rw h of_nan)
    (λ h. let t : T (le plus_zero lon && lt lon two_pi) = rw h tt in
    of_number lon (and_l (le plus_zero lon) (lt lon two_pi) t) (and_r (le plus_zero lon) (lt lon two_pi) t))
