-- Signs and sizes of rounded operations: `Sized s lo hi x`, x has the sign s and a size from lo to hi, and a law for each operation. The ends may be any floats.
use mathlib.Core.Path.{◌≡◌, refl, sym, ap, ◌∙◌}
use mathlib.Core.Bool.{true≢false, Bool, true, false, not, cond}
use Prim.Native.Nat.{ℕ, zero, suc, ◌+◌, ◌*◌, ◌≤◌, ◌<◌}
use native.Mathlib.Nat.{zero-mul, mul-pos, mul-le-mul, lt_of_lt_of_le}
use native.Mathlib.Omega.{arith}
use lib.Dec.{lt→ltb, T, ltb, eqb-suc-zero}
use lib.Ieee.{Float, nan, inf, fin, binary64, up, down, unlike, round, sum, add, sub, mul, div, neg, of_bits, lt, le, fits}
use lib.Ieee.Fits.{down_pos, round-fits}
use lib.Ieee.Positive.{num, den, den_pos, positive, first_pos}
use lib.Ieee.Scale.{finite}
use borrow.Author.Tests.{le-ltb, ltb-false}
use Rattle.root_rule.specs.Nearest.{not_negative, Value}
use Rattle.angles.specs.Floats.{◌⊕◌, ◌⊖◌, ◌⊗◌, ◌⊘◌, plus_zero, sign_of, abs_of}
use Rattle.bounds.proofs.Order.{le_trans_any, no_both, plus_of, minus_of, le→below, below→le, le_trans_at, neg_neg, neg_finite, at_least_zero, zero_sign}
use Rattle.bounds.proofs.Rounding.{Rounds, rounds_le, round_neg, round_unsigned, unsigned, add_rounds, mul_rounds_by, div_rounds}
use Rattle.bounds.proofs.Bounds.{Within, itself, number, above_zero, quotients, sum_below}
use Rattle.bounds.proofs.Exchanged.{abs_neg}
use Rattle.bounds.proofs.Negated.{mul_neg, neg_mul}
use Rattle.bounds.proofs.Squares.{zero_value, rounds_high, rounds_low}

-- ---- a finite number from 0 on
pub record Size (x : Float) : Type 0 where
  pub is : T (finite x)
  pub no : minus_of x ≡ 0

pub size_from : (x : Float) → T (finite x) → T (le plus_zero x) → Size x
unfolding of_bits
size_from x f h = record { is = f; no = at_least_zero plus_zero x tt f zero_sign h }

pub sized_from : {hi x : Float} → Within plus_zero hi x → Size x
sized_from {hi} {x} w = size_from x (number w) w.low

-- ---- each operation keeps the order
products : (x a x' a' y b y' b' : ℕ) → x * a' ≤ x' * a → y * b' ≤ y' * b → x * y * (a' * b') ≤ x' * y' * (a * b)
products x a x' a' y b y' b' h k = let t = mul-le-mul h k in omega arith

less : {x y : Float} → Size x → Size y → T (le x y) → plus_of x * den y ≤ plus_of y * den x
less {x} {y} p q h = let l = le→below x y p.is q.is h in omega (arith, ap (λ (t : ℕ). t * den y) p.no, ap (λ (t : ℕ). t * den x) q.no)

pub mul_mono : {x x' y y' : Float} → Size x → Size x' → Size y → Size y' → T (le x x') → T (le y y') → T (le (x ⊗ y) (x' ⊗ y'))
mul_mono {x} {x'} {y} {y'} p p' q q' h k =
    let t = products (plus_of x) (den x) (plus_of x') (den x') (plus_of y) (den y) (plus_of y') (den y') (less p p' h) (less q q' k) in
    rounds_le _ _ _ _ _ _ (mul-pos (den_pos x) (den_pos y)) (mul-pos (den_pos x') (den_pos y'))
    (mul_rounds_by x y p.is q.is q.no)
    (mul_rounds_by x' y' p'.is q'.is q'.no)
    (omega (arith, ap (λ (z : ℕ). z * plus_of y' * (den x * den y)) p'.no))

pub div_mono : {x x' : Float} (y y' : Float) → Size x → Size x' → T (finite y) → T (positive y') → T (le x x') → T (le y' y) → T (le (x ⊘ y) (x' ⊘ y'))
div_mono {x} {x'} y y' p p' f q h k =
    let pl = above_zero y' q in
    let l = le→below y' y pl.0 f k in
    let more : plus_of y' * den y ≤ plus_of y * den y' = omega (arith, ap (λ (t : ℕ). t * den y) pl.2) in
    let py : 0 < plus_of y = first_pos (plus_of y) (den y') (lt_of_lt_of_le (mul-pos pl.1 (den_pos y)) more) in
    let t = quotients (plus_of x) (den x) (plus_of x') (den x') (plus_of y') (den y') (plus_of y) (den y) (less p p' h) more in
    rounds_le _ _ _ _ _ _ (mul-pos py (den_pos x)) (mul-pos pl.1 (den_pos x'))
    (div_rounds x y p.is f py)
    (div_rounds x' y' p'.is pl.0 pl.1)
    (omega (arith, ap (λ (z : ℕ). z * den y' * (plus_of y * den x)) p'.no))

-- ---- signs
-- x, or −x where s is set
abbrev pub sgn : Bool → Float → Float
sgn s x = cond s (neg x) x

neg_round : (u : Bool) (a c : ℕ) → neg (round binary64 u a c) ≡ round binary64 (not u) a c
neg_round false a c = sym (round_neg a c)
neg_round true a c = ap neg (round_neg a c) ∙ neg_neg (round binary64 false a c)

neg_div : (x y : Float) → T (finite x) → T (positive y) → neg x ⊘ y ≡ neg (x ⊘ y)
unfolding div neg
neg_div nan y f p = absurd f
neg_div (inf s) y f p = absurd f
neg_div (fin s m e) nan f p = absurd p
neg_div (fin s m e) (inf t) f p = absurd p
neg_div (fin s m e) (fin true n d) f p = absurd p
neg_div (fin s m e) (fin false zero d) f p = absurd p
neg_div (fin true m e) (fin false (suc n) d) f p = simp (eqb-suc-zero n) (sym (neg_round true (m * up e * down d) (suc n * up d * down e)))
neg_div (fin false m e) (fin false (suc n) d) f p = simp (eqb-suc-zero n) (sym (neg_round false (m * up e * down d) (suc n * up d * down e)))

pub mul_sgn : (s t : Bool) (x y : Float) → sgn s x ⊗ sgn t y ≡ sgn (unlike s t) (x ⊗ y)
mul_sgn false false x y = refl
mul_sgn false true x y = mul_neg x y
mul_sgn true false x y = neg_mul x y
mul_sgn true true x y = neg_mul x (neg y) ∙ ap neg (mul_neg x y) ∙ neg_neg (x ⊗ y)

pub div_sgn : (s : Bool) (x y : Float) → T (finite x) → T (positive y) → sgn s x ⊘ y ≡ sgn s (x ⊘ y)
div_sgn false x y f p = refl
div_sgn true x y f p = neg_div x y f p

sgn_finite : (s : Bool) (x : Float) → T (finite (sgn s x)) → T (finite x)
sgn_finite false x f = f
sgn_finite true x f = rw neg_neg at (neg_finite (neg x) f)

-- ---- values of the format from 0 on, of such
pub value_size : (x : Float) → Value x → Size x
value_size nan v = absurd v.1
value_size (inf s) v = absurd v.1
value_size (fin true m e) v = absurd v.1
value_size (fin false m e) v = record { is = tt; no = refl }

round_value : (a c : ℕ) → T (finite (round binary64 false a c)) → Value (round binary64 false a c)
round_value a c f = (round-fits binary64 false a c, go (round binary64 false a c) f (round_unsigned a c))
  where
    go : (x : Float) → T (finite x) → T (unsigned x) → T (not_negative x)
    go nan f u = absurd f
    go (inf s) f u = absurd f
    go (fin true m e) f u = absurd u
    go (fin false m e) f u = tt

pub mul_value : (x y : Float) → Value x → Value y → T (finite (x ⊗ y)) → Value (x ⊗ y)
unfolding mul
mul_value nan y v w f = absurd v.1
mul_value (inf s) y v w f = absurd v.1
mul_value (fin true m e) y v w f = absurd v.1
mul_value (fin false m e) nan v w f = absurd w.1
mul_value (fin false m e) (inf s) v w f = absurd w.1
mul_value (fin false m e) (fin true n d) v w f = absurd w.1
mul_value (fin false m e) (fin false n d) v w f = round_value (m * up e * (n * up d)) (down e * down d) f

pub add_value : (x y : Float) → Value x → Value y → T (finite (x ⊕ y)) → Value (x ⊕ y)
unfolding add sum
add_value nan y v w f = absurd v.1
add_value (inf s) y v w f = absurd v.1
add_value (fin true m e) y v w f = absurd v.1
add_value (fin false m e) nan v w f = absurd w.1
add_value (fin false m e) (inf s) v w f = absurd w.1
add_value (fin false m e) (fin true n d) v w f = absurd w.1
add_value (fin false m e) (fin false n d) v w f = round_value (m * up e * down d + n * up d * down e) (down e * down d) f

pub div_value : (x y : Float) → Value x → T (positive y) → T (finite (x ⊘ y)) → Value (x ⊘ y)
unfolding div
div_value nan y v p f = absurd v.1
div_value (inf s) y v p f = absurd v.1
div_value (fin true m e) y v p f = absurd v.1
div_value (fin false m e) nan v p f = absurd p
div_value (fin false m e) (inf s) v p f = absurd p
div_value (fin false m e) (fin true n d) v p f = absurd p
div_value (fin false m e) (fin false zero d) v p f = absurd p
div_value (fin false m e) (fin false (suc n) d) v p f =
    let k = round_value (m * up e * down d) (suc n * up d * down e) (simp (eqb-suc-zero n) at f) in simp (eqb-suc-zero n) k

-- ---- of the sign s, or 0, and a size from lo to hi
pub record Sized (s : Bool) (lo hi x : Float) : Type 0 where
  pub from : Value lo
  pub to : Value hi
  pub size : Within lo hi (sgn s x)

pub sized_number : {s : Bool} {lo hi x : Float} → Sized s lo hi x → T (finite x)
sized_number {s} {lo} {hi} {x} w = sgn_finite s x (number w.size)

pub zero_under : (x : Float) → Size x → T (le plus_zero x)
unfolding of_bits
zero_under x p = below→le plus_zero x tt p.is (omega (arith, p.no))

pub size_of : {s : Bool} {lo hi x : Float} → Sized s lo hi x → Size (sgn s x)
size_of {s} {lo} {hi} {x} w =
    size_from (sgn s x) (number w.size) (le_trans_at plus_zero lo (sgn s x) ((value_size lo w.from).is) (zero_under lo (value_size lo w.from)) w.size.low)

-- what the ends give is found beforehand to be from 0 on
pub mul_sized : {s t : Bool} {a b c d x y : Float} → Sized s a b x → Sized t c d y → T (finite (a ⊗ c))
    → T (finite (b ⊗ d)) → Sized (unlike s t) (a ⊗ c) (b ⊗ d) (x ⊗ y)
mul_sized {s} {t} {a} {b} {c} {d} {x} {y} w v p q =
    record {
      from = mul_value a c w.from v.from p;
      to = mul_value b d w.to v.to q;
      size =
          rw (← mul_sgn s t x y)
          (record {
            from = p;
            to = q;
            low = mul_mono (value_size a w.from) (size_of w) (value_size c v.from) (size_of v) w.size.low v.size.low;
            high = mul_mono (size_of w) (value_size b w.to) (size_of v) (value_size d v.to) w.size.high v.size.high;
          });
    }

pub div_sized : {s : Bool} {a b c d x y : Float} → Sized s a b x → Within c d y → T (positive c)
    → T (positive y) → T (positive d) → T (finite (a ⊘ d)) → T (finite (b ⊘ c)) → Sized s (a ⊘ d) (b ⊘ c) (x ⊘ y)
div_sized {s} {a} {b} {c} {d} {x} {y} w v pc py pd p q =
    record {
      from = div_value a d w.from pd p;
      to = div_value b c w.to pc q;
      size =
          rw (← div_sgn s x y (sized_number w) py)
          (record {
            from = p;
            to = q;
            low = div_mono d y (value_size a w.from) (size_of w) v.to py w.size.low v.high;
            high = div_mono y c (size_of w) (value_size b w.to) (number v) pc w.size.high v.low;
          });
    }

-- ---- differences of numbers of opposite signs: z is x + y, rounded
abbrev Plus : Float → Float → Float → Type 0
Plus x y z = Rounds z (plus_of x * den y + plus_of y * den x) (minus_of x * den y + minus_of y * den x) (den x * den y)

plus_le : (x x' y y' : Float) {z z' : Float} → T (finite x) → T (finite x') → T (finite y) → T (finite y')
    → Plus x y z → Plus x' y' z' → T (le x x') → T (le y y') → T (le z z')
plus_le x x' y y' f f' g g' r r' h k =
    rounds_le _ _ _ _ _ _ (mul-pos (den_pos x) (den_pos y)) (mul-pos (den_pos x') (den_pos y')) r r'
    (sum_below (plus_of x) (minus_of x) (den x) (plus_of x') (minus_of x') (den x') (plus_of y) (minus_of y) (den y) (plus_of y') (minus_of y') (den y')
    (le→below x x' f f' h) (le→below y y' g g' k))

neg_rounds : {z : Float} {p n c : ℕ} → Rounds z p n c → Rounds (neg z) n p c
neg_rounds {z} {p} {n} {c} r = record { sign = not r.sign; size = r.size; is = ap neg r.is ∙ neg_round r.sign r.size c; by = go r.sign r.size r.by }
  where
    go : (s : Bool) (a : ℕ) → p + cond s a 0 ≡ n + cond s 0 a → n + cond (not s) a 0 ≡ p + cond (not s) 0 a
    go true a h = omega arith
    go false a h = omega arith

-- −(x − y) is −x + y
turned : (x y : Float) → T (finite x) → T (finite y) → Plus (neg x) y (neg (x ⊖ y))
unfolding sub neg
turned nan y f g = absurd f
turned (inf s) y f g = absurd f
turned (fin s m e) nan f g = absurd g
turned (fin s m e) (inf t) f g = absurd g
turned (fin true m e) (fin true n d) f g = neg_rounds (add_rounds (fin true m e) (fin false n d) tt tt)
turned (fin true m e) (fin false n d) f g = neg_rounds (add_rounds (fin true m e) (fin true n d) tt tt)
turned (fin false m e) (fin true n d) f g = neg_rounds (add_rounds (fin false m e) (fin false n d) tt tt)
turned (fin false m e) (fin false n d) f g = neg_rounds (add_rounds (fin false m e) (fin true n d) tt tt)

signed_sum : (s : Bool) (x y : Float) → T (finite x) → T (finite y) → Plus (sgn s x) (sgn (not s) y) (sgn s (x ⊖ y))
unfolding sub
signed_sum false x y f g = add_rounds x (neg y) f (neg_finite y g)
signed_sum true x y f g = turned x y f g

pub sub_sized : {s : Bool} {a b c d x y : Float} → Sized s a b x → Sized (not s) c d y → T (finite (a ⊕ c)) → T (finite (b ⊕ d)) → Sized s (a ⊕ c) (b ⊕ d) (x ⊖ y)
sub_sized {s} {a} {b} {c} {d} {x} {y} w v p q =
    let r = signed_sum s x y (sized_number w) (sized_number v) in
    let X = sgn s x in
    let Y = sgn (not s) y in
    record {
      from = add_value a c w.from v.from p;
      to = add_value b d w.to v.to q;
      size =
          record {
            from = p;
            to = q;
            low = plus_le a X c Y ((value_size a w.from).is) (number w.size) ((value_size c v.from).is) (number v.size) (add_rounds a c ((value_size a w.from).is) ((value_size c v.from).is)) r w.size.low v.size.low;
            high = plus_le X b Y d (number w.size) ((value_size b w.to).is) (number v.size) ((value_size d v.to).is) r (add_rounds b d ((value_size b w.to).is) ((value_size d v.to).is)) w.size.high v.size.high;
          };
    }

-- 0 − x, and nothing is lost since the ends are values of the format
plus_num : (b : Float) → Value b → (plus_of b ≡ num b) × (minus_of b ≡ 0)
plus_num nan v = absurd v.1
plus_num (inf s) v = absurd v.1
plus_num (fin true m e) v = absurd v.1
plus_num (fin false m e) v = (refl, refl)

zeros : (s : Bool) → (plus_of (sgn s plus_zero) ≡ 0) × (minus_of (sgn s plus_zero) ≡ 0) × (den (sgn s plus_zero) ≡ 1)
unfolding of_bits neg
zeros true = (refl, refl, refl)
zeros false = (refl, refl, refl)

module _ (s : Bool) (y b : Float) {z : Float} (f : T (finite y)) (v : Value b) (r : Plus (sgn s plus_zero) y z) where
  zero_high : T (le y b) → T (le z b)
  zero_high h =
      let k = le→below y b f ((value_size b v).is) h in
      let n = plus_num b v in
      let o = zeros s in
      rounds_high b v _ _ _ (mul-pos (den_pos (sgn s plus_zero)) (den_pos y)) r
      (rw (o.0, o.1, o.2) (omega (arith, ap (λ (t : ℕ). t * den y) n.0, ap (λ (t : ℕ). t * den y) n.1)))

  zero_low : T (le b y) → T (le b z)
  zero_low h =
      let k = le→below b y ((value_size b v).is) f h in
      let n = plus_num b v in
      let o = zeros s in
      rounds_low b v _ _ _ (mul-pos (den_pos (sgn s plus_zero)) (den_pos y)) r
      (rw (o.0, o.1, o.2) (omega (arith, ap (λ (t : ℕ). t * den y) n.0, ap (λ (t : ℕ). t * den y) n.1)))

pub from_zero_sized : {s : Bool} {a b x : Float} → Sized (not s) a b x → Sized s a b (plus_zero ⊖ x)
unfolding of_bits
from_zero_sized {s} {a} {b} {x} w =
    let r = signed_sum s plus_zero x tt (sized_number w) in
    let y = sgn (not s) x in
    let f = number w.size in
    record {
      from = w.from;
      to = w.to;
      size = record { from = w.size.from; to = w.size.to; low = zero_low s y a f w.from r w.size.low; high = zero_high s y b f w.to r w.size.high };
    }

-- ---- a number by its own sign, and by that of a test
pub abs_value : (x : Float) → T (fits binary64 x) → T (finite x) → Value (abs_of x)
unfolding abs_of fits
abs_value nan h f = absurd f
abs_value (inf s) h f = absurd f
abs_value (fin s zero e) h f = (h, tt)
abs_value (fin s (suc m) e) h f = (h, tt)

own_sized : (x : Float) → T (finite x) → Within (abs_of x) (abs_of x) (sgn (sign_of x) x)
unfolding abs_of sign_of neg
own_sized nan f = absurd f
own_sized (inf s) f = absurd f
own_sized (fin true m e) f = itself (fin false m e) tt
own_sized (fin false m e) f = itself (fin false m e) tt

pub sized_by_sign : (x : Float) → T (fits binary64 x) → T (finite x) → Sized (sign_of x) (abs_of x) (abs_of x) x
sized_by_sign x h f = let v = abs_value x h f in record { from = v; to = v; size = own_sized x f }

test_sized : {a b : Float} (x : Float) → T (finite x) → Within a b (abs_of x) → Within a b (sgn (lt x plus_zero) x)
unfolding abs_of lt neg of_bits
test_sized nan f w = absurd f
test_sized (inf s) f w = absurd f
test_sized (fin false m e) f w = rw (le-ltb (m * up e * 1) (0 * 1 * down e) (omega arith)) w
test_sized {a} {b} (fin true m e) f w = go (ltb 0 (m * up e * 1 + 0 * 1 * down e)) refl
  where
    go : (t : Bool) → ltb 0 (m * up e * 1 + 0 * 1 * down e) ≡ t → Within a b (sgn t (fin true m e))
    go true h = w
    go false h =
        let z : m * up e ≡ 0 = omega (arith, ltb-false 0 (m * up e * 1 + 0 * 1 * down e) h) in
        let p : T (le (fin false m e) (fin true m e)) = below→le (fin false m e) (fin true m e) tt tt (omega (arith, ap (λ (t : ℕ). t * down e) z)) in
        let q : T (le (fin true m e) (fin false m e)) = below→le (fin true m e) (fin false m e) tt tt (omega arith) in
        record {
          from = w.from;
          to = w.to;
          low = le_trans_at a (fin false m e) (fin true m e) tt w.low p;
          high = le_trans_at (fin true m e) (fin false m e) b tt q w.high;
        }

pub sized_by_test : {a b : Float} (x : Float) → T (finite x) → Value a → Value b → Within a b (abs_of x) → Sized (lt x plus_zero) a b x
sized_by_test x f va vb w = record { from = va; to = vb; size = test_sized x f w }

-- ---- a factor above 0
pub factor_positive : (k g p : Float) → Value k → Value g → T (le plus_zero p) → lt p (k ⊗ g) ≡ true → T (positive g)
unfolding of_bits
factor_positive k nan p vk vg l h = absurd vg.1
factor_positive k (inf s) p vk vg l h = absurd vg.1
factor_positive k (fin true m e) p vk vg l h = absurd vg.1
factor_positive k (fin false (suc m) e) p vk vg l h = lt→ltb 0 (suc m) (omega arith)
factor_positive k (fin false zero e) p vk vg l h =
    absurd
    (no_both p (k ⊗ fin false 0 e) h
    (le_trans_any (k ⊗ fin false 0 e) plus_zero p
    (rounds_high plus_zero zero_value _ _ _ (mul-pos (den_pos k) (down_pos e)) (mul_rounds_by k (fin false 0 e) ((value_size k vk).is) tt refl) (omega (arith, zero-mul (up e), ap (λ (t : ℕ). plus_of k * t) (zero-mul (up e)))))
    l))

-- ---- sizes
pub abs_least : (z : Float) → T (finite z) → T (le plus_zero (abs_of z))
unfolding of_bits abs_of
abs_least nan f = absurd f
abs_least (inf s) f = absurd f
abs_least (fin s m e) f = below→le plus_zero (fin false m e) tt tt (omega arith)

pub abs_of_value : (x : Float) → Value x → abs_of x ≡ x
unfolding abs_of
abs_of_value nan v = refl
abs_of_value (inf s) v = absurd v.1
abs_of_value (fin true m e) v = absurd v.1
abs_of_value (fin false m e) v = refl

pub abs_div : (c r : Float) → T (finite c) → T (positive r) → Value (abs_of c ⊘ r) → abs_of (c ⊘ r) ≡ abs_of c ⊘ r
unfolding abs_of neg
abs_div nan r f p v = absurd f
abs_div (inf s) r f p v = absurd f
abs_div (fin false m e) r f p v = abs_of_value (fin false m e ⊘ r) v
abs_div (fin true m e) r f p v =
    let a = fin false m e in
    ap abs_of (div_sgn true a r tt p) ∙ abs_neg (a ⊘ r) ∙ abs_of_value (a ⊘ r) v

pub abs_finite : (x : Float) → T (finite (abs_of x)) → T (finite x)
unfolding abs_of
abs_finite nan f = f
abs_finite (inf s) f = f
abs_finite (fin s m e) f = tt

pub below_finite : (c y : Float) → T (finite y) → lt (abs_of c) y ≡ true → T (finite c)
unfolding abs_of lt
below_finite nan y f h = absurd (true≢false (sym h))
below_finite (inf s) nan f h = absurd f
below_finite (inf s) (inf t) f h = absurd f
below_finite (inf s) (fin t n d) f h = absurd (true≢false (sym h))
below_finite (fin s m e) y f h = tt

-- the sign of the height makes no difference
pub fits_abs : (x : Float) → fits binary64 (abs_of x) ≡ fits binary64 x
unfolding fits abs_of
fits_abs nan = refl
fits_abs (inf s) = refl
fits_abs (fin s zero e) = refl
fits_abs (fin s (suc m) e) = refl
