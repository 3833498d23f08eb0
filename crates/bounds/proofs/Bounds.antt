-- Bounds of rounded operations, a law for each: a sum, a difference, a product, a quotient or a root of numbers that lie `Within` two ends lies
-- between what the same operation gives at the ends. Where the ends are closed floats, that others cover them (`covers`) is found by computing.
-- Rests on the order of rounded results (proofs/Rounding.antt), and for the root on its being the nearest value (crate root, proofs/Nearest.antt).
use Rattle.std.proofs.Common.{◌≡◌, ℕ, ◌+◌, ◌*◌, ◌<◌, ◌≤◌, Bool, true, false, cond, ◌&&◌, T, ltb, leb, refl, ap, lt_of_lt_of_le, mul-le-mul_right, mul_comm, add-mul, mul-le-mul, mul-le-mul_left, mul-pos, not-le_of_lt, arith, lit≤, ltb→lt, leb→le, nltb→le}
use lib.Dec.{not_T}
use lib.Ieee.{Float, nan, inf, fin, binary64, up, down, sub, neg, of_bits, lt, le, fits}
use lib.Ieee.Fits.{up_pos, down_pos, and_l, and_r}
use lib.Ieee.Positive.{num, den, den_pos, positive, first_pos, le→cross, through, between}
use lib.Ieee.Scale.{finite}
use Rattle.root.specs.Root.{root_of}
use Rattle.root_rule.specs.Nearest.{not_negative, Value}
use Rattle.root_rule.proofs.Nearest.{Nearer, root_is_nearer}
use Rattle.angles.specs.Floats.{◌⊕◌, ◌⊖◌, ◌⊗◌, ◌⊘◌, plus_zero, one, sign_of, abs_of, signed_of}
use Rattle.bounds.proofs.Order.{plus_of, minus_of, le→below, below→le, le_trans_at, finite_between, neg_finite, neg_mono}
use Rattle.bounds.proofs.Order.{at_least_zero, at_most_zero, zero_sign, zero_least}
use Rattle.bounds.proofs.Rounding.{rounds_le, zero_rounds, one_rounds, add_rounds, mul_rounds_by, div_rounds}

-- ---- between two ends, and between two finite ends

pub record Ends (lo hi x : Float) : Type 0 where
  pub low : T (le lo x)
  pub high : T (le x hi)

pub record Within (lo hi x : Float) : Type 0 where
  pub from : T (finite lo)
  pub to : T (finite hi)
  pub low : T (le lo x)
  pub high : T (le x hi)

pub within : {lo hi x : Float} → Ends lo hi x → T (finite lo) → T (finite hi) → Within lo hi x
within e f g = record { from = f; to = g; low = e.low; high = e.high }

pub number : {lo hi x : Float} → Within lo hi x → T (finite x)
number {lo} {hi} {x} w = finite_between lo x hi w.from w.to w.low w.high

-- the ends lo and hi lie between a and b, and all four are finite
abbrev pub covers : Float → Float → Float → Float → Bool
covers a b lo hi = finite a && finite b && finite lo && finite hi && le a lo && le hi b

pub covered : {lo hi a b x : Float} → Ends lo hi x → T (covers a b lo hi) → Within a b x
covered {lo} {hi} {a} {b} {x} e t =
    let t4 = and_l (finite a && finite b && finite lo && finite hi && le a lo) (le hi b) t in
    let t3 = and_l (finite a && finite b && finite lo && finite hi) (le a lo) t4 in
    let t2 = and_l (finite a && finite b && finite lo) (finite hi) t3 in
    let t1 = and_l (finite a && finite b) (finite lo) t2 in
    record {
      from = and_l (finite a) (finite b) t1;
      to = and_r (finite a) (finite b) t1;
      low =
          le_trans_at a lo x (and_r (finite a && finite b) (finite lo) t2)
          (and_r (finite a && finite b && finite lo && finite hi) (le a lo) t4)
          e.low;
      high =
          le_trans_at x hi b (and_r (finite a && finite b && finite lo) (finite hi) t3) e.high
          (and_r (finite a && finite b && finite lo && finite hi && le a lo) (le hi b) t);
    }

-- a finite float, from itself to itself, and between any ends that cover it
pub at_itself : (k : Float) → T (finite k) → Ends k k k
at_itself k f = let l = below→le k k f f (omega arith) in record { low = l; high = l }

pub itself : (k : Float) → T (finite k) → Within k k k
itself k f = within (at_itself k f) f f

pub constant : {a b : Float} (k : Float) → T (finite k) → T (covers a b k k) → Within a b k
constant k f t = covered (at_itself k f) t

pub widen : {lo hi a b x : Float} → Within lo hi x → T (covers a b lo hi) → Within a b x
widen w t = covered (record { low = w.low; high = w.high }) t

-- ---- sums and differences

-- the numerator of a sum over another denominator
spread : (x b y a c d : ℕ) → (x * b + y * a) * (c * d) ≡ x * c * (b * d) + y * d * (a * c)
spread x b y a c d = omega arith

both_sums : (u u' v v' w w' z z' : ℕ) → u + v ≤ w + z → u' + v' ≤ w' + z' → u + u' + (v + v') ≤ w + w' + (z + z')
both_sums u u' v v' w w' z z' h k = omega arith

pub sum_below : (p n a p' n' a' q m b q' m' b' : ℕ)
    → p * a' + n' * a ≤ p' * a + n * a'
    → q * b' + m' * b ≤ q' * b + m * b'
    → (p * b + q * a) * (a' * b') + (n' * b' + m' * a') * (a * b) ≤ (p' * b' + q' * a') * (a * b) + (n * b + m * a) * (a' * b')
sum_below p n a p' n' a' q m b q' m' b' h k =
    rw (spread p b q a a' b', spread n b m a a' b', spread n' b' m' a' a b, spread p' b' q' a' a b, mul_comm b' b, mul_comm a' a)
    (both_sums _ _ _ _ _ _ _ _ (simp add-mul at (mul-le-mul_right (b * b') h)) (simp add-mul at (mul-le-mul_right (a * a') k)))

add_mono : (x x' y y' : Float)
    → T (finite x)
    → T (finite x')
    → T (finite y)
    → T (finite y')
    → T (le x x')
    → T (le y y')
    → T (le (x ⊕ y) (x' ⊕ y'))
add_mono x x' y y' fx fx' fy fy' h k =
    rounds_le _ _ _ _ _ _ (mul-pos (den_pos x) (den_pos y)) (mul-pos (den_pos x') (den_pos y')) (add_rounds x y fx fy) (add_rounds x' y' fx' fy')
    (sum_below (plus_of x) (minus_of x) (den x) (plus_of x') (minus_of x') (den x') (plus_of y) (minus_of y) (den y) (plus_of y') (minus_of y') (den y')
    (le→below x x' fx fx' h)
    (le→below y y' fy fy' k))

pub add_ends : {lo hi lo' hi' x y : Float} → Within lo hi x → Within lo' hi' y → Ends (lo ⊕ lo') (hi ⊕ hi') (x ⊕ y)
add_ends {lo} {hi} {lo'} {hi'} {x} {y} w v =
    record {
      low = add_mono lo x lo' y w.from (number w) v.from (number v) w.low v.low;
      high = add_mono x hi y hi' (number w) w.to (number v) v.to w.high v.high;
    }

pub add_within : {lo hi lo' hi' a b x y : Float}
    → Within lo hi x
    → Within lo' hi' y
    → T (covers a b (lo ⊕ lo') (hi ⊕ hi'))
    → Within a b (x ⊕ y)
add_within w v t = covered (add_ends w v) t

pub neg_within : {lo hi x : Float} → Within lo hi x → Within (neg hi) (neg lo) (neg x)
neg_within {lo} {hi} {x} w =
    record {
      from = neg_finite hi w.to;
      to = neg_finite lo w.from;
      low = neg_mono x hi w.high;
      high = neg_mono lo x w.low;
    }

pub sub_within : {lo hi lo' hi' a b x y : Float}
    → Within lo hi x
    → Within lo' hi' y
    → T (covers a b (lo ⊖ hi') (hi ⊖ lo'))
    → Within a b (x ⊖ y)
unfolding sub
sub_within w v t = add_within w (neg_within v) t

-- ---- products

scaled : (n w p v e r u d g : ℕ) → n * w ≤ p * w + v * e → r * u ≤ d * g → n * r * (w * u) ≤ p * r * (w * u) + v * d * (e * g)
scaled n w p v e r u d g h k =
    let i = mul-le-mul_right (r * u) h in
    let j = mul-le-mul_left (v * e) k in
    omega arith

-- x × y for a y from 0 to d: for an x from lo to hi it lies between lo × d, or 0 where lo has no sign, and hi × d, or 0 where hi has one
abbrev pub least : Float → Float → Float
least lo d = cond (sign_of lo) (lo ⊗ d) plus_zero

abbrev pub largest : Float → Float → Float
largest hi d = cond (sign_of hi) plus_zero (hi ⊗ d)

module _ (x y d : Float) (fx : T (finite x)) (fy : T (finite y)) (fd : T (finite d)) (zy : minus_of y ≡ 0) (zd : minus_of d ≡ 0) (k : T (le y d)) where
  part : plus_of y * den d ≤ plus_of d * den y
  part = let l = le→below y d fy fd k in omega (arith, ap (λ (t : ℕ). t * den y) zd, ap (λ (t : ℕ). t * den d) zy)

  mul_low : (lo : Float) → T (finite lo) → T (le lo x) → T (le (least lo d) (x ⊗ y))
  unfolding sign_of
  mul_low nan f h = absurd f
  mul_low (inf s) f h = absurd f
  mul_low (fin true m e) f h =
      rounds_le _ _ _ _ _ _ (mul-pos (down_pos e) (den_pos d)) (mul-pos (den_pos x) (den_pos y))
      (mul_rounds_by (fin true m e) d tt fd zd)
      (mul_rounds_by x y fx fy zy)
      (let l = le→below (fin true m e) x tt fx h in
      let t = scaled (minus_of x) (down e) (plus_of x) (m * up e) (den x) (plus_of y) (den d) (plus_of d) (den y) (omega arith) part in
      omega arith)
  mul_low (fin false m e) f h =
      let z = at_least_zero (fin false m e) x tt fx refl h in
      rounds_le _ _ _ _ _ _ (lit≤ tt) (mul-pos (den_pos x) (den_pos y)) zero_rounds (mul_rounds_by x y fx fy zy)
      (omega (arith, ap (λ (t : ℕ). t * plus_of y) z))

  mul_high : (hi : Float) → T (finite hi) → T (le x hi) → T (le (x ⊗ y) (largest hi d))
  unfolding sign_of
  mul_high nan f h = absurd f
  mul_high (inf s) f h = absurd f
  mul_high (fin true m e) f h =
      let z = at_most_zero x (fin true m e) fx tt refl h in
      rounds_le _ _ _ _ _ _ (mul-pos (den_pos x) (den_pos y)) (lit≤ tt) (mul_rounds_by x y fx fy zy) zero_rounds
      (omega (arith, ap (λ (t : ℕ). t * plus_of y) z))
  mul_high (fin false m e) f h =
      rounds_le _ _ _ _ _ _ (mul-pos (den_pos x) (den_pos y)) (mul-pos (down_pos e) (den_pos d))
      (mul_rounds_by x y fx fy zy)
      (mul_rounds_by (fin false m e) d tt fd zd)
      (let l = le→below x (fin false m e) fx tt h in
      let t = scaled (plus_of x) (down e) (minus_of x) (m * up e) (den x) (plus_of y) (den d) (plus_of d) (den y) (omega arith) part in
      omega arith)

pub mul_ends : {lo hi d x y : Float} → Within lo hi x → Within plus_zero d y → Ends (least lo d) (largest hi d) (x ⊗ y)
mul_ends {lo} {hi} {d} {x} {y} w v =
    let zy = at_least_zero plus_zero y v.from (number v) zero_sign v.low in
    let zd = at_least_zero plus_zero d v.from v.to zero_sign (le_trans_at plus_zero y d (number v) v.low v.high) in
    record {
      low = mul_low x y d (number w) (number v) v.to zy zd v.high lo w.from w.low;
      high = mul_high x y d (number w) (number v) v.to zy zd v.high hi w.to w.high;
    }

pub mul_within : {lo hi d a b x y : Float}
    → Within lo hi x
    → Within plus_zero d y
    → T (covers a b (least lo d) (largest hi d))
    → Within a b (x ⊗ y)
mul_within w v t = covered (mul_ends w v) t

-- ---- x / y for an x from 0 and a y above 0

pub above_zero : (x : Float) → T (positive x) → (T (finite x)) × (0 < plus_of x) × (minus_of x ≡ 0)
above_zero nan p = absurd p
above_zero (inf s) p = absurd p
above_zero (fin true m e) p = absurd p
above_zero (fin false m e) p = (tt, mul-pos (ltb→lt 0 m p) (up_pos e), refl)

pub div_low : (x y : Float) → T (finite x) → T (finite y) → minus_of x ≡ 0 → 0 < plus_of y → T (le plus_zero (x ⊘ y))
div_low x y f g z p =
    rounds_le 0 0 1 _ _ _ (lit≤ tt) (mul-pos p (den_pos x)) zero_rounds (div_rounds x y f g p) (omega (arith, ap (λ (t : ℕ). t * den y) z))

pub quotients : (x a h b l c y d : ℕ) → x * b ≤ h * a → l * d ≤ y * c → x * d * (l * b) ≤ h * c * (y * a)
quotients x a h b l c y d i j = let t = mul-le-mul i j in omega arith

pub div_within : {hi lo hi' a b x y : Float}
    → Within plus_zero hi x
    → Within lo hi' y
    → T (positive lo)
    → T (covers a b plus_zero (hi ⊘ lo))
    → Within a b (x ⊘ y)
div_within {hi} {lo} {hi'} {a} {b} {x} {y} w v p t =
    let fx = number w in
    let fy = number v in
    let zx = at_least_zero plus_zero x w.from fx zero_sign w.low in
    let zh = at_least_zero plus_zero hi w.from w.to zero_sign (le_trans_at plus_zero x hi fx w.low w.high) in
    let pl = above_zero lo p in
    let lx = le→below x hi fx w.to w.high in
    let ly = le→below lo y v.from fy v.low in
    let less : plus_of x * den hi ≤ plus_of hi * den x = omega (arith, ap (λ (t : ℕ). t * den hi) zx, ap (λ (t : ℕ). t * den x) zh) in
    let more : plus_of lo * den y ≤ plus_of y * den lo = omega (arith, ap (λ (t : ℕ). t * den y) pl.2) in
    let py : 0 < plus_of y = first_pos (plus_of y) (den lo) (lt_of_lt_of_le (mul-pos pl.1 (den_pos y)) more) in
    let q = quotients (plus_of x) (den x) (plus_of hi) (den hi) (plus_of lo) (den lo) (plus_of y) (den y) less more in
    covered
    (record {
      low = div_low x y fx fy zx py;
      high =
          rounds_le _ _ _ _ _ _ (mul-pos py (den_pos x)) (mul-pos pl.1 (den_pos hi))
          (div_rounds x y fx fy py)
          (div_rounds hi lo w.to v.from pl.1)
          (omega (arith, ap (λ (t : ℕ). t * den lo * (plus_of y * den x)) zh, ap (λ (t : ℕ). t * den y * (plus_of lo * den hi)) zx));
    })
    t

-- y / x is at most 1 for a y from 0 to x
pub ratio_within : (y x : Float) → T (le plus_zero y) → T (le y x) → T (positive x) → Within plus_zero one (y ⊘ x)
unfolding of_bits le
ratio_within y x l h p =
    let px = above_zero x p in
    let fy = finite_between plus_zero y x tt px.0 l h in
    let zy = at_least_zero plus_zero y tt fy zero_sign l in
    let k = le→below y x fy px.0 h in
    record {
      from = tt;
      to = tt;
      low = div_low y x fy px.0 zy px.1;
      high =
          rounds_le _ _ _ 1 0 1 (mul-pos px.1 (den_pos y)) (lit≤ tt) (div_rounds y x fy px.0 px.1) one_rounds
          (omega (arith, ap (λ (t : ℕ). t * den x) zy, ap (λ (t : ℕ). t * den y) px.2));
    }

-- ---- the root: it is the nearest value, so one whose square is no larger than x is not above it

not_below : (a r : Float) → T (not_negative a) → T (not_negative r) → (T (lt r a) → num r * den a ≤ num a * den r → ⊥) → T (le a r)
unfolding lt le
not_below nan r p q n = absurd p
not_below (inf s) r p q n = absurd p
not_below (fin true m e) r p q n = absurd p
not_below (fin false m e) nan p q n = absurd q
not_below (fin false m e) (inf t) p q n = absurd q
not_below (fin false m e) (fin true k d) p q n = absurd q
not_below (fin false m e) (fin false k d) p q n =
    let A = m * up e * down d in
    let R = k * up d * down e in
    below→le (fin false m e) (fin false k d) tt tt (omega (arith, nltb→le R A (not_T (ltb R A) (λ l. n l (omega (arith, ltb→lt R A l))))))

smaller_sum : (s w d a : ℕ) → s ≤ w → w * w * d ≤ a → (s + w) * (s + w) * d ≤ 4 * a
smaller_sum s w d a h k =
    let t : (s + w) * (s + w) ≤ (w + w) * (w + w) = let i : s + w ≤ w + w = omega arith in mul-le-mul i i in
    let u = mul-le-mul_right d t in
    omega arith

larger_sum : (s w d a : ℕ) → w ≤ s → a ≤ w * w * d → 4 * a ≤ (s + w) * (s + w) * d
larger_sum s w d a h k =
    let t : (w + w) * (w + w) ≤ (s + w) * (s + w) = let i : w + w ≤ s + w = omega arith in mul-le-mul i i in
    let u = mul-le-mul_right d t in
    omega arith

module _ (x : Float) (held : T (fits binary64 x)) (p : T (positive x)) where
  abbrev near : Nearer x (root_of x)
  near = root_is_nearer x held p

  pub root_low : (a : Float) → Value a → num a * num a * den x ≤ num x * (den a * den a) → T (le a (root_of x))
  root_low a v h =
      let r = root_of x in
      not_below a r v.1 near.value.1
      (λ l k. not-le_of_lt (near.up a v l)
      (let u = mul-le-mul_right (den r * den r) h in
      let t = smaller_sum (num r * den a) (num a * den r) (den x) (num x * (den r * den a * (den r * den a))) k (omega arith) in
      omega arith))

  pub root_high : (b : Float) → Value b → num x * (den b * den b) ≤ num b * num b * den x → T (le (root_of x) b)
  root_high b v h =
      let r = root_of x in
      not_below r b near.value.1 v.1
      (λ l k. not-le_of_lt (near.down b v l)
      (let u = mul-le-mul_right (den r * den r) h in
      let t = larger_sum (num r * den b) (num b * den r) (den x) (num x * (den r * den b * (den r * den b))) k (omega arith) in
      omega arith))

-- a² ≤ lo and hi ≤ b²
abbrev pub squares : Float → Float → Float → Float → Bool
squares a b lo hi = leb (num a * num a * den lo) (num lo * (den a * den a)) && leb (num hi * (den b * den b)) (num b * num b * den hi)

pub root_within : {lo hi x : Float} (a b : Float) → Value a → Value b
    → T (fits binary64 x)
    → Within lo hi x
    → T (positive lo)
    → T (positive hi)
    → T (squares a b lo hi)
    → T (covers a b a b)
    → Within a b (root_of x)
root_within {lo} {hi} {x} a b va vb f w pl ph s t =
    let p = between lo x hi pl ph w.low w.high in
    let A = leb (num a * num a * den lo) (num lo * (den a * den a)) in
    let B = leb (num hi * (den b * den b)) (num b * num b * den hi) in
    let below = leb→le (num a * num a * den lo) (num lo * (den a * den a)) (and_l A B s) in
    let above = leb→le (num hi * (den b * den b)) (num b * num b * den hi) (and_r A B s) in
    covered
    (record {
      low =
          root_low x f p a va
          (through (num a * num a) (num lo) (num x) (den a * den a) (den lo) (den x) (den_pos lo) below (le→cross lo x pl p w.low));
      high =
          root_high x f p b vb
          (through (num x) (num hi) (num b * num b) (den x) (den hi) (den b * den b) (den_pos hi) (le→cross x hi p ph w.high) above);
    })
    t

-- ---- |x| and ±|x| for an x from 0 to hi

abs_at : (hi x : Float) → T (finite x) → Within plus_zero hi x → Within plus_zero hi (abs_of x)
unfolding abs_of sign_of
abs_at hi nan f w = absurd f
abs_at hi (inf s) f w = absurd f
abs_at hi (fin false m e) f w = w
abs_at hi (fin true m e) f w =
    let z = at_least_zero plus_zero (fin true m e) w.from tt zero_sign w.low in
    let l = le→below (fin true m e) hi tt w.to w.high in
    record {
      from = w.from;
      to = w.to;
      low = zero_least (fin false m e) tt refl;
      high = below→le (fin false m e) hi tt w.to (omega (arith, ap (λ (t : ℕ). t * den hi) z));
    }

abs_within : {hi x : Float} → Within plus_zero hi x → Within plus_zero hi (abs_of x)
abs_within {hi} {x} w = abs_at hi x (number w) w

pub signed_within : {hi x : Float} (set : Bool) → Within plus_zero hi x
    → T (covers (neg hi) hi plus_zero hi)
    → T (covers (neg hi) hi (neg hi) (neg plus_zero))
    → Within (neg hi) hi (signed_of set x)
unfolding signed_of
signed_within false w s t = widen (abs_within w) s
signed_within true w s t = widen (neg_within (abs_within w)) t
