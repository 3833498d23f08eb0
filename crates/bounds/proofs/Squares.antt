-- A value of the format is its own rounding, so a rounded result on one side of it means an exact one on that side or at it (`rounds_below`, `rounds_above`).
-- So l ⊗ l < x gives l ≤ √x, and p < k ⊗ g gives p / g ≤ k, with no word on errors.
use mathlib.Core.Path.{◌≡◌, refl, sym}
use mathlib.Core.Bool.{Bool, true, false, true≢false}
use Prim.Native.Nat.{ℕ, ◌+◌, ◌*◌, ◌≤◌, ◌<◌}
use native.Mathlib.Nat.{mul-pos, le_of_eq, lt_of_not-le, le_of_lt}
use native.Mathlib.Omega.{arith}
use lib.IntN.{ℤ}
use lib.Dec.{T, ltb, lt→ltb, ltb→lt}
use lib.Ieee.{of_bits, down, mul, Float, nan, inf, fin, binary64, up, round, lt, le, fits}
use lib.Ieee.Fits.{up_pos, down_pos}
use lib.Ieee.Exact.{HasValue, round_exact}
use lib.Ieee.Order.{le_of_values}
use lib.Ieee.Positive.{above_of_le, first_pos, num, den, den_pos, positive, value→cross}
use lib.Ieee.Scale.{finite}
use Rattle.root.specs.Root.{root_of}
use Rattle.root_rule.specs.Nearest.{not_negative, Value}
use Rattle.root_rule.proofs.Nearest.{root_is_nearer, in_units_lem}
use Rattle.angles.specs.Floats.{plus_zero, ◌⊗◌, ◌⊘◌}
use Rattle.bounds.proofs.Order.{no_both, le_trans_at}
use Rattle.bounds.proofs.Rounding.{Rounds, rounds_le, mul_rounds, div_rounds}
use Rattle.bounds.proofs.Bounds.{root_low, root_high}

-- ---- a value rounds to itself
abbrev pub own : Float → Float
own y = round binary64 false (num y) (den y)

has_own : (y : Float) → T (not_negative y) → HasValue y false (num y) (den y)
has_own nan p = absurd p
has_own (inf s) p = absurd p
has_own (fin true m e) p = absurd p
has_own (fin false m e) p = (refl, refl)

finite_of_value : (x : Float) (s : Bool) (a c : ℕ) → HasValue x s a c → T (finite x)
finite_of_value nan s a c h = absurd h
finite_of_value (inf t) s a c h = absurd h
finite_of_value (fin t m e) s a c h = tt

module _ (y : Float) (v : Value y) where
  pub own_value : HasValue (own y) false (num y) (den y)
  own_value =
      let u = in_units_lem y v.0 v.1 in
      let i = u.2 in
      round_exact binary64 false (num y) (den y) u.0 u.1 (den_pos y) i.short i.bound (value→cross y _ _ i.value)

  own_rounds : Rounds (own y) (num y) 0 (den y)
  own_rounds = record { sign = false; size = num y; is = refl; by = omega arith }

  own_finite : T (finite (own y))
  own_finite = finite_of_value (own y) false (num y) (den y) own_value

  own_le : T (le (own y) y)
  own_le = le_of_values (own y) y _ _ _ _ (den_pos y) (den_pos y) own_value (has_own y v.1) (le_of_eq refl)

  le_own : T (le y (own y))
  le_own = le_of_values y (own y) _ _ _ _ (den_pos y) (den_pos y) (has_own y v.1) own_value (le_of_eq refl)

  -- what is at most y, or at least y, rounds to such
  pub rounds_high : {z : Float} (p n c : ℕ) → 0 < c → Rounds z p n c → p * den y ≤ num y * c + n * den y → T (le z y)
  rounds_high {z} p n c C r h = le_trans_at z (own y) y own_finite (rounds_le p n c (num y) 0 (den y) C (den_pos y) r own_rounds (omega arith)) own_le

  pub rounds_low : {z : Float} (p n c : ℕ) → 0 < c → Rounds z p n c → num y * c + n * den y ≤ p * den y → T (le y z)
  rounds_low {z} p n c C r h = le_trans_at y (own y) z own_finite le_own (rounds_le (num y) 0 (den y) p n c (den_pos y) C own_rounds r (omega arith))

-- a rounded result below y, or above it
pub rounds_below : {z : Float} (y : Float) → Value y → (p n c : ℕ) → 0 < c → Rounds z p n c → lt z y ≡ true → p * den y ≤ num y * c + n * den y
rounds_below {z} y v p n c C r h =
    omega (arith, lt_of_not-le (λ (k : num y * c + n * den y < p * den y). no_both z y h (rounds_low y v p n c C r (le_of_lt k))))

pub rounds_above : {z : Float} (y : Float) → Value y → (p n c : ℕ) → 0 < c → Rounds z p n c → lt y z ≡ true → num y * c + n * den y ≤ p * den y
rounds_above {z} y v p n c C r h =
    omega (arith, lt_of_not-le (λ (k : p * den y < num y * c + n * den y). no_both y z h (rounds_high y v p n c C r (le_of_lt k))))

pub positive_value : (x : Float) → T (fits binary64 x) → T (positive x) → Value x
positive_value nan f p = absurd p
positive_value (inf s) f p = absurd p
positive_value (fin true m e) f p = absurd p
positive_value (fin false m e) f p = (f, tt)

-- ---- above 0
pub zero_finite : T (finite plus_zero)
unfolding of_bits
zero_finite = tt

pub zero_value : Value plus_zero
unfolding of_bits fits
zero_value = (tt, tt)

pub positive_of : (r : Float) → T (finite r) → lt plus_zero r ≡ true → T (positive r)
unfolding lt of_bits
positive_of nan f h = absurd f
positive_of (inf s) f h = absurd f
positive_of (fin true m e) f h = absurd (true≢false (sym h))
positive_of (fin false m e) f h =
    let l = ltb→lt (0 * 1 * down e) (m * up e * 1) (rw h tt) in lt→ltb 0 m (first_pos m (up e) (omega arith))

pub positive_over : (g r : Float) → T (positive g) → T (not_negative r) → T (le g r) → T (positive r)
positive_over g nan p n h = absurd n
positive_over g (inf s) p n h = absurd n
positive_over g (fin true m e) p n h = absurd n
positive_over g (fin false m e) p n h = above_of_le g (fin false m e) p h

-- ---- a root by squares
pub root_from : (l x : Float) → Value l → T (fits binary64 x) → T (positive x) → lt (l ⊗ l) x ≡ true → T (le l (root_of x))
root_from nan x v f p h = absurd v.1
root_from (inf s) x v f p h = absurd v.1
root_from (fin true m e) x v f p h = absurd v.1
root_from (fin false m e) x v f p h =
    let l = fin false m e in
    let k = rounds_below x (positive_value x f p) _ _ _ (mul-pos (down_pos e) (down_pos e)) (mul_rounds l l tt tt) h in
    root_low x f p l v (omega arith)

pub root_to : (l x : Float) → Value l → T (fits binary64 x) → T (positive x) → lt x (l ⊗ l) ≡ true → T (le (root_of x) l)
root_to nan x v f p h = absurd v.1
root_to (inf s) x v f p h = absurd v.1
root_to (fin true m e) x v f p h = absurd v.1
root_to (fin false m e) x v f p h =
    let l = fin false m e in
    let k = rounds_above x (positive_value x f p) _ _ _ (mul-pos (down_pos e) (down_pos e)) (mul_rounds l l tt tt) h in
    root_high x f p l v (omega arith)

-- the smallest value, whose square rounds to 0
abbrev tiny : Float
tiny = of_bits binary64 1

tiny_square : (x : Float) → lt plus_zero x ≡ true → lt (tiny ⊗ tiny) x ≡ true
unfolding of_bits mul
tiny_square x h = h

tiny_value : Value tiny × T (positive tiny)
unfolding of_bits fits
tiny_value = ((tt, tt), tt)

pub root_positive : (x : Float) → T (fits binary64 x) → T (positive x) → lt plus_zero x ≡ true → T (positive (root_of x))
root_positive x held p h =
    positive_over tiny (root_of x) tiny_value.1 ((root_is_nearer x held p).value.1) (root_from tiny x tiny_value.0 held p (tiny_square x h))

-- ---- a quotient by a product

-- what holds of three without a sign, of which the second is above 0
of_values : (P : Float → Float → Float → Type 0)
    → ((m : ℕ) (e : ℤ) (n : ℕ) (d : ℤ) (o : ℕ) (c : ℤ) → Value (fin false m e) → Value (fin false o c) → T (ltb 0 n) → P (fin false m e) (fin false n d) (fin false o c))
    → (k g p : Float) → Value k → Value p → T (positive g) → P k g p
of_values P f nan g p vk vp pg = absurd vk.1
of_values P f (inf s) g p vk vp pg = absurd vk.1
of_values P f (fin true m e) g p vk vp pg = absurd vk.1
of_values P f (fin false m e) nan p vk vp pg = absurd pg
of_values P f (fin false m e) (inf s) p vk vp pg = absurd pg
of_values P f (fin false m e) (fin true n d) p vk vp pg = absurd pg
of_values P f (fin false m e) (fin false n d) nan vk vp pg = absurd vp.1
of_values P f (fin false m e) (fin false n d) (inf s) vk vp pg = absurd vp.1
of_values P f (fin false m e) (fin false n d) (fin true o c) vk vp pg = absurd vp.1
of_values P f (fin false m e) (fin false n d) (fin false o c) vk vp pg = f m e n d o c vk vp pg

pub quotient_high : (k g p : Float) → Value k → Value p → T (positive g) → lt p (k ⊗ g) ≡ true → T (le (p ⊘ g) k)
quotient_high =
    of_values (λ k g p. lt p (k ⊗ g) ≡ true → T (le (p ⊘ g) k))
    (λ m e n d o c vk vp pg h. let k = fin false m e in
    let g = fin false n d in
    let p = fin false o c in
    let G : 0 < n * up d = mul-pos (ltb→lt 0 n pg) (up_pos d) in
    let i = rounds_above p vp _ _ _ (mul-pos (down_pos e) (down_pos d)) (mul_rounds k g tt tt) h in
    rounds_high k vk _ _ _ (mul-pos G (down_pos c)) (div_rounds p g tt tt G) (omega arith))

pub quotient_low : (k g p : Float) → Value k → Value p → T (positive g) → lt (k ⊗ g) p ≡ true → T (le k (p ⊘ g))
quotient_low =
    of_values (λ k g p. lt (k ⊗ g) p ≡ true → T (le k (p ⊘ g)))
    (λ m e n d o c vk vp pg h. let k = fin false m e in
    let g = fin false n d in
    let p = fin false o c in
    let G : 0 < n * up d = mul-pos (ltb→lt 0 n pg) (up_pos d) in
    let i = rounds_below p vp _ _ _ (mul-pos (down_pos e) (down_pos d)) (mul_rounds k g tt tt) h in
    rounds_low k vk _ _ _ (mul-pos G (down_pos c)) (div_rounds p g tt tt G) (omega arith))
