-- Rounding keeps the order (`rounds_le`): the library's `round_mono`, extended to either sign, overflow included. What a sum, a product or a
-- quotient gives is an exact fraction, rounded (`add_rounds`, `mul_rounds_by`, `div_rounds`), so results are in the order of their fractions.
use Rattle.std.proofs.Common.{◌≡◌, ℕ, zero, suc, ◌+◌, ◌-◌, ◌*◌, ◌/◌, ◌^◌, ◌<◌, ◌≤◌, Bool, true, false, cond, not, T, ltb, sym, refl, ap, ◌∙◌, true≢false, zero-mul, arith, lit≤, ltb→lt, nltb→le}
use lib.Dec.{eqb-suc-zero}
use lib.Ieee.{Float, nan, inf, fin, binary64, up, down, size, odd, units, round, sum, add, mul, div, neg, of_bits, le}
use lib.Ieee.Exact.{HasValue, round_exact}
use lib.Ieee.Nearest.{closest}
use lib.Ieee.Fits.{round_is}
use lib.Ieee.Order.{round_mono}
use lib.Ieee.Positive.{den}
use lib.Ieee.Scale.{finite}
use Rattle.angles.specs.Floats.{◌⊕◌, ◌⊗◌, ◌⊘◌, plus_zero, one}
use Rattle.bounds.proofs.Order.{plus_of, minus_of, below→le, neg_mono, no_factor}

-- z is the fraction (p − n) / c, rounded
pub record Rounds (z : Float) (p n c : ℕ) : Type 0 where
  pub sign : Bool
  pub size : ℕ
  pub is : z ≡ round binary64 sign size c
  pub by : p + cond sign size 0 ≡ n + cond sign 0 size

pub same_fraction : {z : Float} {p n c p' n' : ℕ} → Rounds z p n c → p + n' ≡ p' + n → Rounds z p' n' c
same_fraction r e = record { sign = r.sign; size = r.size; is = r.is; by = let h = r.by in omega arith }

-- ---- rounding keeps the order, by the sign that the result has

odd_neg : (d q k l : ℕ) → odd d true q k l ≡ neg (odd d false q k l)
unfolding odd neg
odd_neg d zero k l = refl
odd_neg d (suc q) k l = refl

units_neg : (q k : ℕ) → units binary64 true q k ≡ neg (units binary64 false q k)
unfolding units neg
units_neg q k = go (ltb (q * 2 ^ k) (2 ^ 2098))
  where
    go : (b : Bool) → cond b (odd 54 true q k 1074) (inf true) ≡ neg (cond b (odd 54 false q k 1074) (inf false))
    go true = odd_neg 54 q k 1074
    go false = refl

pub round_neg : (a c : ℕ) → round binary64 true a c ≡ neg (round binary64 false a c)
round_neg a c =
    let k = size (a * 2 ^ 1074 / c) - 53 in
    round_is binary64 true a c ∙ units_neg (closest (a * 2 ^ 1074) (c * 2 ^ k)) k ∙ ap neg (sym (round_is binary64 false a c))

-- what rounds an a / c with the sign clear is not below what rounds one with the sign set
abbrev pub unsigned : Float → Bool
unsigned nan = false
unsigned (inf s) = not s
unsigned (fin s m e) = not s

odd_unsigned : (d q k l : ℕ) → T (unsigned (odd d false q k l))
unfolding odd
odd_unsigned d zero k l = tt
odd_unsigned d (suc q) k l = tt

pub round_unsigned : (a c : ℕ) → T (unsigned (round binary64 false a c))
unfolding units
round_unsigned a c =
    let k = size (a * 2 ^ 1074 / c) - 53 in
    rw (round_is binary64 false a c) (go (closest (a * 2 ^ 1074) (c * 2 ^ k)) k (ltb (closest (a * 2 ^ 1074) (c * 2 ^ k) * 2 ^ k) (2 ^ 2098)))
  where
    go : (q k : ℕ) (b : Bool) → T (unsigned (cond b (odd 54 false q k 1074) (inf false)))
    go q k true = odd_unsigned 54 q k 1074
    go q k false = tt

neg_below : (x y : Float) → T (unsigned x) → T (unsigned y) → T (le (neg x) y)
unfolding le neg
neg_below nan y f g = absurd f
neg_below (inf true) y f g = absurd f
neg_below (inf false) nan f g = absurd g
neg_below (inf false) (inf true) f g = absurd g
neg_below (inf false) (inf false) f g = tt
neg_below (inf false) (fin t n d) f g = tt
neg_below (fin true m e) y f g = absurd f
neg_below (fin false m e) nan f g = absurd g
neg_below (fin false m e) (inf true) f g = absurd g
neg_below (fin false m e) (inf false) f g = tt
neg_below (fin false m e) (fin true n d) f g = absurd g
neg_below (fin false m e) (fin false n d) f g = below→le (fin true m e) (fin false n d) tt tt (omega arith)

-- and at zero the sign makes no difference
zero_value : (s : Bool) (c : ℕ) → 0 < c → HasValue (round binary64 s 0 c) s 0 c
zero_value s c C = round_exact binary64 s 0 c 0 0 C (lit≤ tt) (lit≤ tt) (sym (zero-mul c))

zero_below : (x y : Float) (c c' : ℕ) → 0 < c → 0 < c' → HasValue x false 0 c → HasValue y true 0 c' → T (le x y)
unfolding le
zero_below nan y c c' C C' h k = absurd h
zero_below (inf s) y c c' C C' h k = absurd h
zero_below (fin s m e) nan c c' C C' h k = absurd k
zero_below (fin s m e) (inf t) c c' C C' h k = absurd k
zero_below (fin true m e) (fin t n d) c c' C C' h k = absurd (true≢false h.0)
zero_below (fin false m e) (fin false n d) c c' C C' h k = absurd (true≢false (sym k.0))
zero_below (fin false m e) (fin true n d) c c' C C' h k =
    let a : m * up e ≡ 0 = no_factor (m * up e) c C (omega (arith, h.1)) in
    let b : n * up d ≡ 0 = no_factor (n * up d) c' C' (omega (arith, k.1)) in
    below→le (fin false m e) (fin true n d) tt tt (omega (arith, ap (λ (t : ℕ). t * down d) a, ap (λ (t : ℕ). t * down e) b))

pub rounds_le : {z z' : Float} (p n c p' n' c' : ℕ) → 0 < c → 0 < c'
    → Rounds z p n c
    → Rounds z' p' n' c'
    → p * c' + n' * c ≤ p' * c + n * c'
    → T (le z z')
rounds_le p n c p' n' c' C C' r r' h =
    rw (r.is, r'.is) (go r.sign r'.sign r.size r'.size r.by r'.by)
  where
    go : (s t : Bool) (a b : ℕ)
        → p + cond s a 0 ≡ n + cond s 0 a
        → p' + cond t b 0 ≡ n' + cond t 0 b
        → T (le (round binary64 s a c) (round binary64 t b c'))
    go false false a b e f =
        round_mono binary64 a c b c' C C' (let u = ap (λ (z : ℕ). z * c') e in let v = ap (λ (z : ℕ). z * c) f in omega arith)
    go true false a b e f =
        rw (round_neg a c) (neg_below (round binary64 false a c) (round binary64 false b c') (round_unsigned a c) (round_unsigned b c'))
    go true true a b e f =
        rw (round_neg a c, round_neg b c')
        (neg_mono (round binary64 false b c') (round binary64 false a c)
        (round_mono binary64 b c' a c C' C (let u = ap (λ (z : ℕ). z * c') e in let v = ap (λ (z : ℕ). z * c) f in omega arith)))
    go false true a b e f =
        let w : a * c' + b * c ≡ 0 = let u = ap (λ (z : ℕ). z * c') e in let v = ap (λ (z : ℕ). z * c) f in omega arith in
        let x : a ≡ 0 = no_factor a c' C' (omega arith) in
        let y : b ≡ 0 = no_factor b c C (omega arith) in
        rw (x, y) (zero_below (round binary64 false 0 c) (round binary64 true 0 c') c c' C C' (zero_value false c C) (zero_value true c' C'))

-- ---- the exact fraction that each operation rounds

pub zero_rounds : Rounds plus_zero 0 0 1
unfolding of_bits round
zero_rounds = record { sign = false; size = 0; is = refl; by = refl }

pub one_rounds : Rounds one 1 0 1
unfolding of_bits round
one_rounds = record { sign = false; size = 1; is = refl; by = refl }

sum_rounds : (s t : Bool) (a b c : ℕ) → Rounds (sum binary64 s a t b c) (cond s 0 a + cond t 0 b) (cond s a 0 + cond t b 0) c
unfolding sum
sum_rounds false false a b c = record { sign = false; size = a + b; is = refl; by = omega arith }
sum_rounds true true a b c = record { sign = true; size = a + b; is = refl; by = omega arith }
sum_rounds false true a b c = go (ltb a b) (ltb→lt a b) (nltb→le a b)
  where
    go : (t : Bool) → (T t → a < b) → (T (not t) → b ≤ a)
        → Rounds (cond t (round binary64 true (b - a) c) (round binary64 false (a - b) c)) (a + 0) (0 + b) c
    go true h k = let l = h tt in record { sign = true; size = b - a; is = refl; by = omega arith }
    go false h k = let l = k tt in record { sign = false; size = a - b; is = refl; by = omega arith }
sum_rounds true false a b c = go (ltb a b) (ltb b a) (ltb→lt a b) (ltb→lt b a) (nltb→le a b) (nltb→le b a)
  where
    go : (t u : Bool) → (T t → a < b) → (T u → b < a) → (T (not t) → b ≤ a) → (T (not u) → a ≤ b)
        → Rounds (cond t (round binary64 false (b - a) c) (round binary64 u (a - b) c)) (0 + b) (a + 0) c
    go true u h i k j = let l = h tt in record { sign = false; size = b - a; is = refl; by = omega arith }
    go false true h i k j = let l = i tt in record { sign = true; size = a - b; is = refl; by = omega arith }
    go false false h i k j = let l = k tt in let m = j tt in record { sign = false; size = a - b; is = refl; by = omega arith }

pub add_rounds : (x y : Float) → T (finite x) → T (finite y)
    → Rounds (x ⊕ y) (plus_of x * den y + plus_of y * den x) (minus_of x * den y + minus_of y * den x) (den x * den y)
unfolding add
add_rounds nan y f g = absurd f
add_rounds (inf s) y f g = absurd f
add_rounds (fin s m e) nan f g = absurd g
add_rounds (fin s m e) (inf t) f g = absurd g
add_rounds (fin true m e) (fin true n d) f g =
    same_fraction (sum_rounds true true (m * up e * down d) (n * up d * down e) (down e * down d)) (omega arith)
add_rounds (fin true m e) (fin false n d) f g =
    same_fraction (sum_rounds true false (m * up e * down d) (n * up d * down e) (down e * down d)) (omega arith)
add_rounds (fin false m e) (fin true n d) f g =
    same_fraction (sum_rounds false true (m * up e * down d) (n * up d * down e) (down e * down d)) (omega arith)
add_rounds (fin false m e) (fin false n d) f g =
    same_fraction (sum_rounds false false (m * up e * down d) (n * up d * down e) (down e * down d)) (omega arith)

pub mul_rounds : (x y : Float) → T (finite x) → T (finite y)
    → Rounds (x ⊗ y) (plus_of x * plus_of y + minus_of x * minus_of y) (plus_of x * minus_of y + minus_of x * plus_of y) (den x * den y)
unfolding mul
mul_rounds nan y f g = absurd f
mul_rounds (inf s) y f g = absurd f
mul_rounds (fin s m e) nan f g = absurd g
mul_rounds (fin s m e) (inf t) f g = absurd g
mul_rounds (fin true m e) (fin true n d) f g = record { sign = false; size = m * up e * (n * up d); is = refl; by = omega arith }
mul_rounds (fin true m e) (fin false n d) f g = record { sign = true; size = m * up e * (n * up d); is = refl; by = omega arith }
mul_rounds (fin false m e) (fin true n d) f g = record { sign = true; size = m * up e * (n * up d); is = refl; by = omega arith }
mul_rounds (fin false m e) (fin false n d) f g = record { sign = false; size = m * up e * (n * up d); is = refl; by = omega arith }

-- a product with a z that is 0 or above
pub mul_rounds_by : (x z : Float) → T (finite x) → T (finite z) → minus_of z ≡ 0
    → Rounds (x ⊗ z) (plus_of x * plus_of z) (minus_of x * plus_of z) (den x * den z)
mul_rounds_by x z f g m =
    same_fraction (mul_rounds x z f g) (omega (arith, ap (λ (t : ℕ). minus_of x * t) m, ap (λ (t : ℕ). plus_of x * t) m))

-- by a y above 0
pub div_rounds : (x y : Float) → T (finite x) → T (finite y) → 0 < plus_of y
    → Rounds (x ⊘ y) (plus_of x * den y) (minus_of x * den y) (plus_of y * den x)
unfolding div
div_rounds nan y f g h = absurd f
div_rounds (inf s) y f g h = absurd f
div_rounds (fin s m e) nan f g h = absurd g
div_rounds (fin s m e) (inf t) f g h = absurd g
div_rounds (fin s m e) (fin true n d) f g h = absurd (omega arith)
div_rounds (fin s m e) (fin false zero d) f g h = absurd (omega (arith, zero-mul (up d)))
div_rounds (fin true m e) (fin false (suc n) d) f g h =
    record { sign = true; size = m * up e * down d; is = simp (eqb-suc-zero n); by = omega arith }
div_rounds (fin false m e) (fin false (suc n) d) f g h =
    record { sign = false; size = m * up e * down d; is = simp (eqb-suc-zero n); by = omega arith }
