-- √x is strictly nearer to `root_of x` than to any other value, for a finite x above zero: both are written in units of the smallest value, where
-- proofs/Middle.antt compares their squares, and the comparison is carried back to fractions.
use mathlib.Core.Path.{◌≡◌, refl, sym, ap, ◌∙◌, subst}
use Prim.Native.Nat.{ℕ, zero, suc, ◌+◌, ◌-◌, ◌*◌, ◌/◌, ◌%◌, ◌^◌, ◌≤◌, ◌<◌}
use native.Mathlib.Nat.{le_trans, le_of_eq, le_of_suc-le-suc, lt_of_not-le, not-le_of_lt, lt_of_lt_of_le, zero-mul, mul-one, mul_comm, mul_assoc, mul-le-mul, mul-lt-mul_of_pos_right, lt_of_mul-lt-mul_right, mul-pos, mul-div_cancel}
use native.Mathlib.Omega.{arith}
use mathlib.Core.Bool.{true, false, ◌&&◌, true≢false}
use lib.IntN.{ℤ, pos, negsuc}
use lib.Dec.{T, leb, ltb, eqb, ltb→lt, leb→le, lit≤}
use lib.Pow.{pow-add, pow_pos, pow_mono, pow-lt}
use lib.Count.{count_leading_zeros}
use lib.Ieee.{Float, nan, inf, fin, binary64, up, down, fits, lt}
use lib.Ieee.Digits.{back}
use lib.Ieee.Fits.{and_l, and_r}
use lib.Ieee.Bits.{of_bits-fits}
use lib.Ieee.Exact.{HasValue, odd_sign}
use lib.Ieee.Positive.{num, den, positive, den_pos, value→cross, positive_of_value, value_pos, first_pos}
use Rattle.whole_root.specs.Roots.{IsNearest}
use Rattle.root.specs.Root.{nearest_root, root_of_square, root_of}
use Rattle.root.specs.RootDigits.{digits_of_whole, digits_of_square, digits_of}
use Rattle.root_rule.specs.Nearest.{not_negative, Value, four_times, square_of_sum}
use Rattle.root.proofs.Whole.{nearest_is, nearest_long}
use Rattle.root.proofs.Bits.{of_units, moved, doubled, square_root, square_digits, cut_exact, written}
use Rattle.root_rule.proofs.Middle.{upper, lower}

-- ---- a value of the format that is finite and not negative is n * 2 ^ j units, with n below 2 ^ 53

pub record InUnits (x : Float) (n j : ℕ) : Type 0 where
  pub short : n < 2 ^ 53
  pub value : HasValue x false (n * 2 ^ j) (2 ^ 1074)
  pub bound : n * 2 ^ j < 2 ^ 2098

pow_le_back : (a l : ℕ) → 2 ^ a ≤ 2 ^ l → a ≤ l
pow_le_back a l h = le_of_suc-le-suc (lt_of_not-le (λ (g : suc l ≤ a). not-le_of_lt (lt_of_lt_of_le (pow-lt g) h) (le_of_eq refl)))

place : (n : ℕ) (e : ℤ) → down e ≤ 2 ^ 1074 → (j : ℕ) × (n * up e * 2 ^ 1074 ≡ n * 2 ^ j * down e)
place n (pos k) h = (k + 1074, mul_assoc n (2 ^ k) (2 ^ 1074) ∙ ap (λ (x : ℕ). n * x) (sym (pow-add 2 k 1074)) ∙ sym (mul-one (n * 2 ^ (k + 1074))))
place n (negsuc k) h =
    let l : suc k ≤ 1074 = pow_le_back (suc k) 1074 h in (
      1074 - suc k,
      ap (λ (x : ℕ). x * 2 ^ 1074) (mul-one n)
          ∙ ap (λ (x : ℕ). n * x) (ap (λ (x : ℕ). 2 ^ x) (sym (back 1074 (suc k) l)) ∙ pow-add 2 (1074 - suc k) (suc k))
          ∙ sym (mul_assoc n (2 ^ (1074 - suc k)) (2 ^ suc k)),
    )

pub in_units_lem : (x : Float) → T (fits binary64 x) → T (not_negative x) → (n : ℕ) × (j : ℕ) × InUnits x n j
unfolding fits
in_units_lem nan h p = absurd p
in_units_lem (inf s) h p = absurd p
in_units_lem (fin true m e) h p = absurd p
in_units_lem (fin false zero e) h p = (0, 0, record { short = lit≤ tt; value = (refl, ap (λ (x : ℕ). x * 2 ^ 1074) (zero-mul (up e)) ∙ sym (zero-mul (down e))); bound = lit≤ tt })
in_units_lem (fin false (suc m) e) h p =
    let A = eqb (suc m % 2) 1 in
    let B = ltb (suc m) (2 ^ 53) in
    let C = leb (down e) (2 ^ 1074) in
    let D = ltb (suc m * up e) (2 ^ 1024 * down e) in
    let pl = place (suc m) e (leb→le (down e) (2 ^ 1074) (and_r (A && B) C (and_l (A && B && C) D h))) in
    let d : suc m * up e < 2 ^ 1024 * down e = ltb→lt (suc m * up e) (2 ^ 1024 * down e) (and_r (A && B && C) D h) in (
      suc m,
      pl.0,
      record {
        short = ltb→lt (suc m) (2 ^ 53) (and_r A B (and_l (A && B) C (and_l (A && B && C) D h)));
        value = (refl, pl.1);
        bound = lt_of_mul-lt-mul_right (down e) (subst (λ (z : ℕ). z < 2 ^ 2098 * down e) pl.1 (lt_of_lt_of_le (mul-lt-mul_of_pos_right d (pow_pos 1074)) (le_of_eq (scale (down e)))));
      },
    )
  where
    scale : (d : ℕ) → 2 ^ 1024 * d * 2 ^ 1074 ≡ 2 ^ 2098 * d
    scale d = mul_assoc (2 ^ 1024) d (2 ^ 1074) ∙ ap (λ (z : ℕ). 2 ^ 1024 * z) (mul_comm d (2 ^ 1074)) ∙ sym (mul_assoc (2 ^ 1024) (2 ^ 1074) d)

-- ---- x as m * 2 ^ g / 2 ^ 2148, with m of 53 digits

-- x is X units, and its root is near to q * 2 ^ k units, where X * 2 ^ 1074 is a * 4 ^ k
pub record Rooted (x : Float) (X a q k : ℕ) : Type 0 where
  pub of : HasValue x false X (2 ^ 1074)
  pub square : X * 2 ^ 1074 ≡ a * (2 ^ k * 2 ^ k)
  pub wide : 2 ^ 104 ≤ a
  pub short : a < 4 ^ 53
  pub zeros : a / 2 ^ 52 * 2 ^ 52 ≡ a
  pub near : IsNearest a q
  pub is : HasValue (root_of x) false (q * 2 ^ k) (2 ^ 1074)
  pub held : T (fits binary64 (root_of x))
  pub told : digits_of x ≡ digits_of_whole a

rooted : (x : Float) (n j : ℕ) → InUnits x n j → 0 < n → (a : ℕ) × (q : ℕ) × (k : ℕ) × Rooted x (n * 2 ^ j) a q k
rooted x n j i p =
    let f = moved n p i.short in
    let s = count_leading_zeros 64 n - 11 in
    let few-places : s ≤ 52 = omega arith in
    let m = n * 2 ^ s in
    let g = j + 1074 - s in
    let X = n * 2 ^ j in
    let e : X * 2 ^ 1074 ≡ m * 2 ^ g = moved_up s j few-places in
    let w : 52 ≤ g = enough s j few-places in
    let d = doubled m g f.least f.most in
    let a = m * 2 ^ (g % 2) * 2 ^ 52 in
    let k = (g - 52) / 2 in
    let q = nearest_root a in
    let near : IsNearest a q = nearest_is a (omega (arith, d.least)) (omega (arith, d.most)) in
    let u = of_units x X i.value (mul-pos p (pow_pos j)) in
    let r : root_of x ≡ root_of_square (m * 2 ^ g) = u.root ∙ ap root_of_square e in (
      a,
      q,
      k,
      record {
        of = i.value;
        square = e ∙ cut_exact m g w ∙ ap (λ (z : ℕ). a * z) (twice k);
        wide = omega (arith, d.least);
        short = omega (arith, d.most);
        zeros = ap (λ (z : ℕ). z * 2 ^ 52) (mul-div_cancel (m * 2 ^ (g % 2)) (pow_pos 52));
        told = u.digits ∙ ap digits_of_square e ∙ square_digits m g f.least f.most w;
        near = near;
        is = subst (λ (z : Float). HasValue z false (q * 2 ^ k) (2 ^ 1074)) (sym (r ∙ square_root m g f.least f.most w)) (odd_sign 53 false q k 1074);
        held = subst (λ (z : Float). T (fits binary64 z)) ((written m g f.least f.most w (few g f.least e) q near).1 ∙ sym r) (of_bits-fits binary64 (k * 2 ^ 52 + q));
      },
    )
  where
    enough : (s j : ℕ) → s ≤ 52 → 52 ≤ j + 1074 - s
    enough s j h = omega arith

    split : (s j : ℕ) → s ≤ 52 → j + 1074 ≡ s + (j + 1074 - s)
    split s j h = omega arith

    moved_up : (s j : ℕ) → s ≤ 52 → n * 2 ^ j * 2 ^ 1074 ≡ n * 2 ^ s * 2 ^ (j + 1074 - s)
    moved_up s j h =
        mul_assoc n (2 ^ j) (2 ^ 1074)
        ∙ ap (λ (z : ℕ). n * z) (sym (pow-add 2 j 1074) ∙ ap (λ (z : ℕ). 2 ^ z) (split s j h) ∙ pow-add 2 s (j + 1074 - s))
        ∙ sym (mul_assoc n (2 ^ s) (2 ^ (j + 1074 - s)))

    twice : (k : ℕ) → 2 ^ (2 * k) ≡ 2 ^ k * 2 ^ k
    twice k = ap (λ (z : ℕ). 2 ^ z) (let t : 2 * k ≡ k + k = omega arith in t) ∙ pow-add 2 k k

    few : {m : ℕ} (g : ℕ) → 2 ^ 52 ≤ m → n * 2 ^ j * 2 ^ 1074 ≡ m * 2 ^ g → g < 3120
    few {m} g l e = lt_of_not-le (λ (h : 3120 ≤ g). not-le_of_lt (mul-lt-mul_of_pos_right i.bound (pow_pos 1074)) (le_trans (mul-le-mul l (pow_mono h)) (le_of_eq (sym e))))

-- ---- from units to fractions

-- A and B times K are a and b times S, so they are in the same order
scaled_lt : (A B a b K S : ℕ) → A * K ≡ a * S → B * K ≡ b * S → 0 < S → a < b → A < B
scaled_lt A B a b K S e f p h = lt_of_mul-lt-mul_right K (rw (e, f) (mul-lt-mul_of_pos_right h p))

-- the order of two values, in units
lt_units : (x y : Float) (a b : ℕ) → HasValue x false a (2 ^ 1074) → HasValue y false b (2 ^ 1074) → T (lt x y) → a < b
unfolding lt
lt_units nan y a b h k l = absurd h
lt_units (inf s) y a b h k l = absurd h
lt_units (fin s m e) nan a b h k l = absurd k
lt_units (fin s m e) (inf t) a b h k l = absurd k
lt_units (fin true m e) (fin t n d) a b h k l = absurd (true≢false h.0)
lt_units (fin false m e) (fin true n d) a b h k l = absurd (true≢false k.0)
lt_units (fin false m e) (fin false n d) a b h k l =
    scaled_lt a b (m * up e * down d) (n * up d * down e) (down e * down d) (2 ^ 1074)
    (cross (m * up e) (down e) (down d) (2 ^ 1074) a h.1)
    (ap (λ (z : ℕ). b * z) (mul_comm (down e) (down d)) ∙ cross (n * up d) (down d) (down e) (2 ^ 1074) b k.1)
    (pow_pos 1074)
    (ltb→lt (m * up e * down d) (n * up d * down e) l)
  where
    cross : (p q s L a : ℕ) → p * L ≡ a * q → a * (q * s) ≡ p * s * L
    cross p q s L a e = let x : p * L * s ≡ a * q * s = ap (λ (z : ℕ). z * s) e in omega arith

-- the two numbers that the rule compares, for x, r and y that are X, w and v units, L to a whole: both times L² have the same factor
module _ (nx dx nr dr ny dy L X w v : ℕ) (ex : nx * L ≡ X * dx) (er : nr * L ≡ w * dr) (ey : ny * L ≡ v * dy) where
  abbrev D : ℕ
  D = dr * dy

  fours : 4 * nx * (D * D) * (L * L) ≡ 4 * (X * L) * (dx * (D * D))
  fours = let a : nx * L * (L * (D * D)) ≡ X * dx * (L * (D * D)) = ap (λ (z : ℕ). z * (L * (D * D))) ex in omega arith

  sum_is : (nr * dy + ny * dr) * L ≡ (w + v) * D
  sum_is =
      let a : nr * L * dy ≡ w * dr * dy = ap (λ (z : ℕ). z * dy) er in
      let b : ny * L * dr ≡ v * dy * dr = ap (λ (z : ℕ). z * dr) ey in
      omega arith

  squares : (nr * dy + ny * dr) * (nr * dy + ny * dr) * dx * (L * L) ≡ (w + v) * (w + v) * (dx * (D * D))
  squares = factored (nr * dy + ny * dr) D (w + v) sum_is
    where
      factored : (S D W : ℕ) → S * L ≡ W * D → S * S * dx * (L * L) ≡ W * W * (dx * (D * D))
      factored S D W e = let a : S * L * (S * L) * dx ≡ W * D * (W * D) * dx = ap (λ (z : ℕ). z * z * dx) e in omega arith

-- ---- the comparison, at every value

pub record Nearer (x r : Float) : Type 0 where
  pub value : Value r
  pub up : (y : Float) → Value y → T (lt r y) → four_times x r y < square_of_sum x r y
  pub down : (y : Float) → Value y → T (lt y r) → square_of_sum x r y < four_times x r y

not_negative_lem : (x : Float) → T (positive x) → T (not_negative x)
not_negative_lem nan p = absurd p
not_negative_lem (inf s) p = absurd p
not_negative_lem (fin true m e) p = absurd p
not_negative_lem (fin false m e) p = tt

module _ (x : Float) (X a q k : ℕ) (r : Rooted x X a q k) where
  abbrev root : Float
  root = root_of x

  abbrev L : ℕ
  L = 2 ^ 1074

  abbrev w : ℕ
  w = q * 2 ^ k

  ex : num x * L ≡ X * den x
  ex = value→cross x X L r.of

  er : num root * L ≡ w * den root
  er = value→cross root w L r.is

  long : 2 ^ 52 ≤ q
  long = nearest_long a q r.near r.wide

  root_value : Value root
  root_value = (r.held, not_negative_lem root (positive_of_value root w L r.is (mul-pos (lt_of_lt_of_le (pow_pos 52) long) (pow_pos k))))

  -- another value, in units
  module _ (y : Float) (n j : ℕ) (i : InUnits y n j) where
    abbrev v : ℕ
    v = n * 2 ^ j

    abbrev S : ℕ
    S = den x * (den root * den y * (den root * den y))

    ey : num y * L ≡ v * den y
    ey = value→cross y v L i.value

    positive_scale : 0 < S
    positive_scale = let d = mul-pos (den_pos root) (den_pos y) in mul-pos (den_pos x) (mul-pos d d)

    four : four_times x root y * (L * L) ≡ 4 * (X * L) * S
    four = fours (num x) (den x) (num root) (den root) (num y) (den y) L X w v ex er ey

    square : square_of_sum x root y * (L * L) ≡ (w + v) * (w + v) * S
    square = squares (num x) (den x) (num root) (den root) (num y) (den y) L X w v ex er ey

    nearer_up : T (lt root y) → four_times x root y < square_of_sum x root y
    nearer_up l =
        scaled_lt _ _ _ _ (L * L) S four square positive_scale
        (rw r.square (upper a q k n j r.near long i.short (lt_units root y w v r.is i.value l)))

    nearer_down : T (lt y root) → square_of_sum x root y < four_times x root y
    nearer_down l =
        scaled_lt _ _ _ _ (L * L) S square four positive_scale
        (rw r.square (lower a q k n j r.near r.wide i.short (lt_units y root v w i.value r.is l)))

  nearest_of : Nearer x root
  nearest_of =
      record {
        value = root_value;
        up = λ y v. let i = in_units_lem y v.0 v.1 in nearer_up y i.0 i.1 i.2;
        down = λ y v. let i = in_units_lem y v.0 v.1 in nearer_down y i.0 i.1 i.2;
      }

pub root_in_units : (x : Float) → T (fits binary64 x) → T (positive x) → (X : ℕ) × (a : ℕ) × (q : ℕ) × (k : ℕ) × Rooted x X a q k
root_in_units x h p =
    let i = in_units_lem x h (not_negative_lem x p) in
    let X = i.0 * 2 ^ i.1 in
    let r = rooted x i.0 i.1 i.2 (first_pos i.0 (2 ^ i.1) (value_pos x X (2 ^ 1074) p (pow_pos 1074) i.2.value)) in
    (X, r.0, r.1, r.2, r.3)

pub root_is_nearer : (x : Float) → T (fits binary64 x) → T (positive x) → Nearer x (root_of x)
root_is_nearer x h p = let r = root_in_units x h p in nearest_of x r.0 r.1 r.2 r.3 r.4
