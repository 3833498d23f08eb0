-- The order of floats. A finite one is the fraction (`plus_of` − `minus_of`) / `den`, and `le` is the order of these fractions (`le→below`,
-- `below→le`), so laws of two or three floats in order, of a test that fails and of signs come by arithmetic on whole numbers.
use Rattle.std.proofs.Common.{◌≡◌, ℕ, ◌+◌, ◌*◌, ◌<◌, ◌≤◌, Bool, true, false, cond, not, ◌&&◌, ◌||◌, T, eqb, ltb, sym, refl, ◌∙◌, subst, ⊎_elim, true≢false, lt_of_lt_of_le, lt_irrefl, mul-le-mul_right, eq-zero-or-pos, le_of_mul-le-mul_right, arith, eqb→eq, ltb→lt, nltb→le, ltb-false, lt-ltb}
use mathlib.Core.Bool.{false≢true, and-true}
use lib.Arith.{lt_of_le-ne}
use lib.Dec.{eqb_refl}
use borrow.Author.Tests.{eqb-false}
use lib.Ieee.{Float, nan, inf, fin, up, down, neg, of_bits, lt, le, eq, ne, below, level}
use lib.Ieee.Bits.{is_true}
use lib.Ieee.Fits.{down_pos, and_i, and_l, and_r, eq→eqb}
use lib.Ieee.Positive.{den, den_pos}
use lib.Ieee.Scale.{finite}
use Rattle.angles.specs.Floats.{plus_zero, sign_of, abs_of}
use Rattle.bounds.specs.Ranges.{is_number}

-- ---- a finite float as a fraction, and the order of fractions

abbrev pub plus_of : Float → ℕ
plus_of nan = 0
plus_of (inf s) = 0
plus_of (fin true m e) = 0
plus_of (fin false m e) = m * up e

abbrev pub minus_of : Float → ℕ
minus_of nan = 0
minus_of (inf s) = 0
minus_of (fin true m e) = m * up e
minus_of (fin false m e) = 0

-- the order of fractions, with no subtraction
abbrev pub Below : Float → Float → Type 0
Below x y = plus_of x * den y + minus_of y * den x ≤ plus_of y * den x + minus_of x * den y

-- ±a ≤ ±b
abbrev most : Bool → ℕ → Bool → ℕ → Bool
most s a t b = below s a t b || level s a t b

either : {X : Type 0} (p q : Bool) → (T p → X) → (T q → X) → T (p || q) → X
either true q f g h = f tt
either false q f g h = g h

unless : (p q : Bool) → (T (not p) → T q) → T (p || q)
unless true q f = tt
unless false q f = f tt

most→ : (s t : Bool) (a b : ℕ) → T (most s a t b) → cond s 0 a + cond t b 0 ≤ cond t 0 b + cond s a 0
most→ false false a b h =
    either (ltb a b) (eqb a b && true) (λ l. omega (arith, ltb→lt a b l)) (λ e. omega (arith, eqb→eq a b (and_l (eqb a b) true e))) h
most→ false true a b h = omega (arith, eqb→eq a b (and_l (eqb a b) (eqb a 0) h), eqb→eq a 0 (and_r (eqb a b) (eqb a 0) h))
most→ true false a b h = omega arith
most→ true true a b h =
    either (ltb b a) (eqb a b && true) (λ l. omega (arith, ltb→lt b a l)) (λ e. omega (arith, eqb→eq a b (and_l (eqb a b) true e))) h

most← : (s t : Bool) (a b : ℕ) → cond s 0 a + cond t b 0 ≤ cond t 0 b + cond s a 0 → T (most s a t b)
most← false false a b h =
    unless (ltb a b) (eqb a b && true) (λ n. and_i (eqb a b) true (eq→eqb {a = a} {b = b} (omega (arith, nltb→le a b n))) tt)
most← false true a b h = and_i (eqb a b) (eqb a 0) (eq→eqb {a = a} {b = b} (omega arith)) (eq→eqb {a = a} {b = 0} (omega arith))
most← true false a b h =
    unless (ltb 0 (a + b)) (eqb a b && eqb a 0)
    (λ n. let z = nltb→le 0 (a + b) n in
    and_i (eqb a b) (eqb a 0) (eq→eqb {a = a} {b = b} (omega arith)) (eq→eqb {a = a} {b = 0} (omega arith)))
most← true true a b h =
    unless (ltb b a) (eqb a b && true) (λ n. and_i (eqb a b) true (eq→eqb {a = a} {b = b} (omega (arith, nltb→le b a n))) tt)

pub le→below : (x y : Float) → T (finite x) → T (finite y) → T (le x y) → Below x y
unfolding le
le→below nan y f g h = absurd f
le→below (inf s) y f g h = absurd f
le→below (fin s m e) nan f g h = absurd g
le→below (fin s m e) (inf t) f g h = absurd g
le→below (fin true m e) (fin true n d) f g h = let l = most→ true true (m * up e * down d) (n * up d * down e) h in omega arith
le→below (fin true m e) (fin false n d) f g h = omega arith
le→below (fin false m e) (fin true n d) f g h = let l = most→ false true (m * up e * down d) (n * up d * down e) h in omega arith
le→below (fin false m e) (fin false n d) f g h = let l = most→ false false (m * up e * down d) (n * up d * down e) h in omega arith

pub below→le : (x y : Float) → T (finite x) → T (finite y) → Below x y → T (le x y)
unfolding le
below→le nan y f g h = absurd f
below→le (inf s) y f g h = absurd f
below→le (fin s m e) nan f g h = absurd g
below→le (fin s m e) (inf t) f g h = absurd g
below→le (fin true m e) (fin true n d) f g h = most← true true (m * up e * down d) (n * up d * down e) (omega arith)
below→le (fin true m e) (fin false n d) f g h = most← true false (m * up e * down d) (n * up d * down e) (omega arith)
below→le (fin false m e) (fin true n d) f g h = most← false true (m * up e * down d) (n * up d * down e) (omega arith)
below→le (fin false m e) (fin false n d) f g h = most← false false (m * up e * down d) (n * up d * down e) (omega arith)

-- ---- three in order, and what lies between

-- x / a ≤ y / b ≤ z / c, with differences
below_trans : (p n a p' n' b p'' n'' c : ℕ) → 0 < b
    → p * b + n' * a ≤ p' * a + n * b
    → p' * c + n'' * b ≤ p'' * b + n' * c
    → p * c + n'' * a ≤ p'' * a + n * c
below_trans p n a p' n' b p'' n'' c B h k =
    le_of_mul-le-mul_right (let u = mul-le-mul_right c h in let v = mul-le-mul_right a k in omega arith) B

pub le_trans_at : (x y z : Float) → T (finite y) → T (le x y) → T (le y z) → T (le x z)
unfolding le
le_trans_at x nan z f h k = absurd f
le_trans_at x (inf s) z f h k = absurd f
le_trans_at x (fin t n d) nan f h k = absurd k
le_trans_at nan (fin t n d) (inf u) f h k = absurd h
le_trans_at (inf true) (fin t n d) (inf true) f h k = absurd k
le_trans_at (inf true) (fin t n d) (inf false) f h k = tt
le_trans_at (inf false) (fin t n d) (inf u) f h k = absurd h
le_trans_at (fin s m e) (fin t n d) (inf true) f h k = absurd k
le_trans_at (fin s m e) (fin t n d) (inf false) f h k = tt
le_trans_at nan (fin t n d) (fin u o c) f h k = absurd h
le_trans_at (inf true) (fin t n d) (fin u o c) f h k = tt
le_trans_at (inf false) (fin t n d) (fin u o c) f h k = absurd h
le_trans_at (fin s m e) (fin t n d) (fin u o c) f h k =
    let x = fin s m e in
    let y = fin t n d in
    let z = fin u o c in
    below→le x z tt tt
    (below_trans (plus_of x) (minus_of x) (den x) (plus_of y) (minus_of y) (den y) (plus_of z) (minus_of z) (den z) (den_pos y)
    (le→below x y tt tt h)
    (le→below y z tt tt k))

pub finite_between : (lo x hi : Float) → T (finite lo) → T (finite hi) → T (le lo x) → T (le x hi) → T (finite x)
unfolding le
finite_between nan x hi f g h k = absurd f
finite_between (inf s) x hi f g h k = absurd f
finite_between (fin s m e) x nan f g h k = absurd g
finite_between (fin s m e) x (inf t) f g h k = absurd g
finite_between (fin s m e) nan (fin t n d) f g h k = absurd h
finite_between (fin s m e) (inf true) (fin t n d) f g h k = absurd h
finite_between (fin s m e) (inf false) (fin t n d) f g h k = absurd k
finite_between (fin s m e) (fin u o c) (fin t n d) f g h k = tt

-- a finite float is no NaN
pub not_nan : (x : Float) → T (finite x) → ne x x ≡ false
unfolding ne
not_nan nan f = absurd f
not_nan (inf s) f = absurd f
not_nan (fin true m e) f = rw (is_true (eqb (m * up e * down e) (m * up e * down e)) (eqb_refl (m * up e * down e)))
not_nan (fin false m e) f = rw (is_true (eqb (m * up e * down e) (m * up e * down e)) (eqb_refl (m * up e * down e)))

-- ---- where a test fails

neither : (a b : Bool) → (a || b) ≡ false → (a ≡ false) × (b ≡ false)
neither true b h = absurd (true≢false h)
neither false b h = (refl, h)

both_zero : (a b : ℕ) → a + b ≡ 0 → (eqb a b && eqb a 0) ≡ true
both_zero a b h =
    let p : a ≡ 0 = omega arith in
    let q : b ≡ 0 = omega arith in simp (p, q)

-- ±a and ±b, where ±a ≤ ±b is false
above_by : (s t : Bool) (a b : ℕ) → most s a t b ≡ false → below t b s a ≡ true
above_by false false a b h =
    let n = neither (ltb a b) (eqb a b && true) h in
    lt-ltb b a (lt_of_le-ne (ltb-false a b n.0) (λ e. eqb-false a b (sym (and-true (eqb a b)) ∙ n.1) (sym e)))
above_by false true a b h =
    ⊎_elim
    (λ (e : a + b ≡ 0). absurd (true≢false (sym (both_zero a b e) ∙ h)))
    (λ (l : 0 < a + b). lt-ltb 0 (b + a) (omega arith))
    (eq-zero-or-pos (a + b))
above_by true false a b h =
    let n = neither (ltb 0 (a + b)) (eqb a b && eqb a 0) h in
    let z : a + b ≡ 0 = omega (arith, ltb-false 0 (a + b) n.0) in
    absurd (true≢false (sym (both_zero a b z) ∙ n.1))
above_by true true a b h =
    let n = neither (ltb b a) (eqb a b && true) h in
    lt-ltb a b (lt_of_le-ne (ltb-false b a n.0) (eqb-false a b (sym (and-true (eqb a b)) ∙ n.1)))

-- of two numbers x and y, where x ≤ y is false
pub above : (x y : Float) → is_number x → is_number y → le x y ≡ false → lt y x ≡ true
unfolding le lt eq ne
above nan y p q h = absurd (true≢false p)
above (inf s) nan p q h = absurd (true≢false q)
above (inf true) (inf true) p q h = absurd (true≢false h)
above (inf true) (inf false) p q h = absurd (true≢false h)
above (inf false) (inf true) p q h = refl
above (inf false) (inf false) p q h = absurd (true≢false h)
above (inf true) (fin t n d) p q h = absurd (true≢false h)
above (inf false) (fin t n d) p q h = refl
above (fin s m e) nan p q h = absurd (true≢false q)
above (fin s m e) (inf true) p q h = refl
above (fin s m e) (inf false) p q h = absurd (true≢false h)
above (fin s m e) (fin t n d) p q h = above_by s t (m * up e * down d) (n * up d * down e) h

-- and the other way: where y is below x, whatever they are, x ≤ y is false
less→ : (s t : Bool) (a b : ℕ) → T (below s a t b) → cond s 0 a + cond t b 0 < cond t 0 b + cond s a 0
less→ false false a b h = omega (arith, ltb→lt a b h)
less→ false true a b h = absurd h
less→ true false a b h = omega (arith, ltb→lt 0 (a + b) h)
less→ true true a b h = omega (arith, ltb→lt b a h)

not_most : (s t : Bool) (a b : ℕ) → below t b s a ≡ true → most s a t b ≡ false
not_most s t a b h = by (most s a t b) refl
  where
    by : (x : Bool) → most s a t b ≡ x → x ≡ false
    by true e = absurd (lt_irrefl _ (lt_of_lt_of_le (less→ t s b a (rw h tt)) (most→ s t a b (rw e tt))))
    by false e = refl

pub not_at_most : (x y : Float) → lt y x ≡ true → le x y ≡ false
unfolding le lt eq
not_at_most nan y h = refl
not_at_most (inf s) nan h = refl
not_at_most (inf true) (inf true) h = absurd (false≢true h)
not_at_most (inf true) (inf false) h = absurd (false≢true h)
not_at_most (inf false) (inf true) h = refl
not_at_most (inf false) (inf false) h = absurd (false≢true h)
not_at_most (inf true) (fin t n d) h = absurd (false≢true h)
not_at_most (inf false) (fin t n d) h = refl
not_at_most (fin s m e) nan h = refl
not_at_most (fin s m e) (inf true) h = refl
not_at_most (fin s m e) (inf false) h = absurd (false≢true h)
not_at_most (fin s m e) (fin t n d) h = not_most s t (m * up e * down d) (n * up d * down e) h

pub less_le : (x y : Float) → lt x y ≡ true → T (le x y)
unfolding le
less_le x y h = rw h tt

level→ : (s t : Bool) (a b : ℕ) → T (level s a t b) → cond t 0 b + cond s a 0 ≤ cond s 0 a + cond t b 0
level→ false false a b h = omega (arith, eqb→eq a b (and_l (eqb a b) true h))
level→ false true a b h = omega (arith, eqb→eq a b (and_l (eqb a b) (eqb a 0) h), eqb→eq a 0 (and_r (eqb a b) (eqb a 0) h))
level→ true false a b h = omega (arith, eqb→eq a b (and_l (eqb a b) (eqb a 0) h), eqb→eq a 0 (and_r (eqb a b) (eqb a 0) h))
level→ true true a b h = omega (arith, eqb→eq a b (and_l (eqb a b) true h))

-- equal, and so at most, the other way round
pub equal_le : (x y : Float) → T (finite x) → T (finite y) → T (eq x y) → T (le y x)
unfolding le lt eq
equal_le nan y f g h = absurd f
equal_le (inf s) y f g h = absurd f
equal_le (fin s m e) nan f g h = absurd g
equal_le (fin s m e) (inf t) f g h = absurd g
equal_le (fin s m e) (fin t n d) f g h = most← t s (n * up d * down e) (m * up e * down d) (level→ s t (m * up e * down d) (n * up d * down e) h)

pub not_above : (x y : Float) → T (finite x) → T (finite y) → le x y ≡ false → T (le y x)
not_above x y f g h = less_le y x (above x y (not_nan x f) (not_nan y g) h)

pub not_less : (x y : Float) → T (finite x) → T (finite y) → lt x y ≡ false → T (le y x)
not_less x y f g h = by (le y x) refl
  where
    by : (b : Bool) → le y x ≡ b → T b
    by true e = tt
    by false e = true≢false (sym (above y x (not_nan y g) (not_nan x f) e) ∙ h)

-- strict order and the other
pub no_both : (x y : Float) → lt x y ≡ true → T (le y x) → ⊥
no_both x y h k = true≢false (sym (is_true (le y x) k) ∙ not_at_most y x h)

pub le_trans_any : (x y z : Float) → T (le x y) → T (le y z) → T (le x z)
unfolding le lt
le_trans_any x nan z h k = absurd k
le_trans_any nan (inf true) z h k = absurd h
le_trans_any (inf true) (inf true) z h k = k
le_trans_any (inf false) (inf true) z h k = absurd h
le_trans_any (fin s m e) (inf true) z h k = absurd h
le_trans_any x (inf false) nan h k = absurd k
le_trans_any x (inf false) (inf true) h k = absurd k
le_trans_any x (inf false) (inf false) h k = h
le_trans_any x (inf false) (fin t n d) h k = absurd k
le_trans_any x (fin t n d) z h k = le_trans_at x (fin t n d) z tt h k

pub less_le_trans : (x y z : Float) → T (finite x) → T (finite z) → lt x y ≡ true → T (le y z) → lt x z ≡ true
less_le_trans x y z f g h k = go (lt x z) refl
  where
    go : (b : Bool) → lt x z ≡ b → b ≡ true
    go true e = refl
    go false e = absurd (no_both x y h (le_trans_any y z x k (not_less x z f g e)))

pub le_less_trans : (x y z : Float) → T (finite x) → T (finite z) → T (le x y) → lt y z ≡ true → lt x z ≡ true
le_less_trans x y z f g h k = go (lt x z) refl
  where
    go : (b : Bool) → lt x z ≡ b → b ≡ true
    go true e = refl
    go false e = absurd (no_both y z k (le_trans_any z x y (not_less x z f g e) h))

-- ---- signs

pub neg_finite : (x : Float) → T (finite x) → T (finite (neg x))
unfolding neg
neg_finite nan f = f
neg_finite (inf s) f = f
neg_finite (fin s m e) f = f

pub neg_mono : (x y : Float) → T (le x y) → T (le (neg y) (neg x))
unfolding le neg
neg_mono nan y h = absurd h
neg_mono (inf s) nan h = absurd h
neg_mono (inf true) (inf true) h = tt
neg_mono (inf true) (inf false) h = tt
neg_mono (inf false) (inf true) h = absurd h
neg_mono (inf false) (inf false) h = tt
neg_mono (inf true) (fin t n d) h = tt
neg_mono (inf false) (fin t n d) h = absurd h
neg_mono (fin s m e) nan h = absurd h
neg_mono (fin s m e) (inf true) h = absurd h
neg_mono (fin s m e) (inf false) h = tt
neg_mono (fin true m e) (fin true n d) h =
    let l = most→ true true (m * up e * down d) (n * up d * down e) h in most← false false (n * up d * down e) (m * up e * down d) (omega arith)
neg_mono (fin true m e) (fin false n d) h = most← true false (n * up d * down e) (m * up e * down d) (omega arith)
neg_mono (fin false m e) (fin true n d) h =
    let l = most→ false true (m * up e * down d) (n * up d * down e) h in most← false true (n * up d * down e) (m * up e * down d) (omega arith)
neg_mono (fin false m e) (fin false n d) h =
    let l = most→ false false (m * up e * down d) (n * up d * down e) h in most← true true (n * up d * down e) (m * up e * down d) (omega arith)

pub neg_neg : (x : Float) → neg (neg x) ≡ x
unfolding neg
neg_neg nan = refl
neg_neg (inf true) = refl
neg_neg (inf false) = refl
neg_neg (fin true m e) = refl
neg_neg (fin false m e) = refl

-- |x| for an x from −b to b
pub abs_below : (b x : Float) → T (finite x) → T (le (neg b) x) → T (le x b) → T (le (abs_of x) b)
unfolding abs_of neg
abs_below b nan f h k = absurd f
abs_below b (inf s) f h k = absurd f
abs_below b (fin false m e) f h k = k
abs_below b (fin true m e) f h k = subst (λ (z : Float). T (le (fin false m e) z)) (neg_neg b) (neg_mono (neg b) (fin true m e) h)

-- a factor above 0
pub no_factor : (a c : ℕ) → 0 < c → a * c ≡ 0 → a ≡ 0
no_factor a c C h =
    let l : a ≤ 0 = le_of_mul-le-mul_right {k = c} (let m : a * c ≤ 0 * c = omega arith in m) C in
    omega arith

-- 0 and above
pub at_least_zero : (x y : Float) → T (finite x) → T (finite y) → sign_of x ≡ false → T (le x y) → minus_of y ≡ 0
unfolding sign_of
at_least_zero nan y f g z h = absurd f
at_least_zero (inf s) y f g z h = absurd f
at_least_zero (fin true m e) y f g z h = absurd (true≢false z)
at_least_zero (fin false m e) nan f g z h = absurd g
at_least_zero (fin false m e) (inf t) f g z h = absurd g
at_least_zero (fin false m e) (fin false n d) f g z h = refl
at_least_zero (fin false m e) (fin true n d) f g z h =
    no_factor (n * up d) (down e) (down_pos e) (let l = le→below (fin false m e) (fin true n d) tt tt h in omega arith)

pub at_most_zero : (x y : Float) → T (finite x) → T (finite y) → sign_of y ≡ true → T (le x y) → plus_of x ≡ 0
unfolding sign_of
at_most_zero nan y f g z h = absurd f
at_most_zero (inf s) y f g z h = absurd f
at_most_zero (fin s m e) nan f g z h = absurd g
at_most_zero (fin s m e) (inf t) f g z h = absurd g
at_most_zero (fin s m e) (fin false n d) f g z h = absurd (false≢true z)
at_most_zero (fin true m e) (fin true n d) f g z h = refl
at_most_zero (fin false m e) (fin true n d) f g z h =
    no_factor (m * up e) (down d) (down_pos d) (let l = le→below (fin false m e) (fin true n d) tt tt h in omega arith)

pub zero_sign : sign_of plus_zero ≡ false
unfolding sign_of of_bits
zero_sign = refl

-- and 0 is not above what has no sign
pub zero_least : (x : Float) → T (finite x) → sign_of x ≡ false → T (le plus_zero x)
unfolding sign_of of_bits
zero_least nan f z = absurd f
zero_least (inf s) f z = absurd f
zero_least (fin true m e) f z = absurd (true≢false z)
zero_least (fin false m e) f z = below→le plus_zero (fin false m e) tt tt (omega arith)
