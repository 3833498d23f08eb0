-- Of every value of the format above zero the digits told meet the rule of specs/DigitsRule.antt, and mean what it says. In units x is a * 4 ^ k, and its
-- root q * 2 ^ k (proofs/Nearest.antt), so that x has the exact roots of a, moved (proofs/Searched.antt of the crate root has the digits of a).
use mathlib.Core.Path.{◌≡◌, refl, sym, ap, ◌∙◌, subst}
use mathlib.Core.Logic.{◌⊎◌, inl, inr, ⊎_elim}
use mathlib.Core.Bool.{Bool, true, false, not}
use Prim.Native.Nat.{ℕ, zero, suc, ◌+◌, ◌-◌, ◌*◌, ◌/◌, ◌%◌, ◌^◌, ◌≤◌, ◌<◌}
use native.Mathlib.Nat.{le_antisymm, mul-pos, eq_of_mul-eq-mul_right, lt_irrefl, zero-lt-suc, lt_of_not-le, not-le_of_lt, le_of_suc-le-suc, le_trans, le_of_eq, mul-le-mul_left, lt_of_mul-lt-mul_right, le_of_mul-le-mul_right, mul_assoc, mul-one, pow-suc}
use native.Mathlib.Omega.{arith}
use lib.Dec.{T, ltb, leb, lt→ltb, ltb→lt, nltb→le, leb→le, nleb→lt}
use lib.Pow.{pow-add, pow_pos, pow_mono, shl_lt}
use lib.Ieee.{Float, nan, inf, fin, size}
use lib.Ieee.Digits.{size-lt}
use lib.Ieee.Positive.{num, den, positive, den_pos, value→cross}
use Rattle.whole_root.specs.Roots.{IsNearest, Exact, Fewest}
use Rattle.whole_root.proofs.Squares.{root_lt, all_places}
use Rattle.whole_root.proofs.Zeros.{Multiple, halves}
use Rattle.root.specs.Root.{root_of}
use Rattle.root.specs.RootDigits.{digits_of}
use Rattle.root_rule.specs.DigitsRule.{ExactRoot, FewestDigits, DigitsFewest, OneFewest, DigitsCounted, IsSquare, DigitsOfRoot, DigitsExact, DigitsInexact}
use Rattle.root.proofs.Whole.{one_nearest}
use Rattle.root.proofs.Searched.{told_fewest, some_digit}
use Rattle.root_rule.proofs.Nearest.{Rooted, root_in_units}

-- ---- whole numbers

-- the square of a number moved
moved_square : (d j a : ℕ) → d * 2 ^ j * (d * 2 ^ j) ≡ a → (e : ℕ) → d * d * (2 ^ (j + e) * 2 ^ (j + e)) ≡ a * (2 ^ e * 2 ^ e)
moved_square d j a h e = rw (pow-add 2 j e) (go (2 ^ j) (2 ^ e) h)
  where
    go : (m n : ℕ) → d * m * (d * m) ≡ a → d * d * (m * n * (m * n)) ≡ a * (n * n)
    go m n h = let z : d * m * (d * m) * (n * n) ≡ a * (n * n) = ap (λ (y : ℕ). y * (n * n)) h in omega arith

-- a root of a, which is d moved up, or d moved down
record Moved (a d : ℕ) : Type 0 where
  root : ℕ
  square : root * root ≡ a
  either : ((j : ℕ) × (d * 2 ^ j ≡ root)) ⊎ (root ≤ d)

-- where d * 2 ^ u is a root of a * 4 ^ v, by cases on which of the two moves is the longer
moved_up : (d a v j : ℕ) → d * d * (2 ^ (v + j) * 2 ^ (v + j)) ≡ a * (2 ^ v * 2 ^ v) → Moved a d
moved_up d a v j e =
    record {
      root = d * 2 ^ j;
      square = eq_of_mul-eq-mul_right (2 ^ v * 2 ^ v) (mul-pos (pow_pos v) (pow_pos v)) _ _ (same (2 ^ v) (2 ^ j) (rw (pow-add 2 v j) at e));
      either = inl (j, refl);
    }
  where
    same : (m n : ℕ) → d * d * (m * n * (m * n)) ≡ a * (m * m) → d * n * (d * n) * (m * m) ≡ a * (m * m)
    same m n e = omega arith

moved_down : (d a u j : ℕ) → d * d * (2 ^ u * 2 ^ u) ≡ a * (2 ^ (u + j) * 2 ^ (u + j)) → Moved a d
moved_down d a u j e = go (halves j a d (square ∙ ap (λ (z : ℕ). a * z) (fours j)))
  where
    fours : (j : ℕ) → 2 ^ j * 2 ^ j ≡ 4 ^ j
    fours zero = refl
    fours (suc j) = rw (pow-suc 2 j, pow-suc 4 j) (let i = fours j in omega arith)

    same : (m n : ℕ) → d * d * (m * m) ≡ a * (m * n * (m * n)) → d * d * (m * m) ≡ a * (n * n) * (m * m)
    same m n e = omega arith

    square : d * d ≡ a * (2 ^ j * 2 ^ j)
    square = eq_of_mul-eq-mul_right (2 ^ u * 2 ^ u) (mul-pos (pow_pos u) (pow_pos u)) _ _ (same (2 ^ u) (2 ^ j) (rw (pow-add 2 u j) at e))

    halved : (h n : ℕ) → d ≡ h * n → d * d ≡ a * (n * n) → h * h * (n * n) ≡ a * (n * n)
    halved h n e f = let z : d * d ≡ h * n * (h * n) = ap (λ (y : ℕ). y * y) e in omega arith

    go : Multiple d j → Moved a d
    go m =
        record {
          root = m.times;
          square = eq_of_mul-eq-mul_right (2 ^ j * 2 ^ j) (mul-pos (pow_pos j) (pow_pos j)) _ _ (halved m.times (2 ^ j) m.is square);
          either = inr (le_trans (le_of_eq (sym (mul-one m.times))) (le_trans (mul-le-mul_left m.times (pow_pos j)) (le_of_eq (sym m.is))));
        }

moved : (d a u v : ℕ) → d * d * (2 ^ u * 2 ^ u) ≡ a * (2 ^ v * 2 ^ v) → Moved a d
moved d a u v e = go (leb v u) (leb→le v u) (nleb→lt v u)
  where
    go : (b : Bool) → (T b → v ≤ u) → (T (not b) → u < v) → Moved a d
    go true l m =
        let h : v ≤ u = l tt in
        let f : u ≡ v + (u - v) = omega arith in
        moved_up d a v (u - v) (subst (λ (z : ℕ). d * d * (2 ^ z * 2 ^ z) ≡ a * (2 ^ v * 2 ^ v)) f e)
    go false l m =
        let h : u < v = m tt in
        let f : v ≡ u + (v - u) = omega arith in
        moved_down d a u (v - u) (subst (λ (z : ℕ). d * d * (2 ^ u * 2 ^ u) ≡ a * (2 ^ z * 2 ^ z)) f e)

-- fewer than 53 digits that are a root of a, moved to where 53 are
module _ (a d k : ℕ) (wide : 2 ^ 104 ≤ a) (short : a < 4 ^ 53) (few : d < 2 ^ k) (m : Moved a d) where
  abbrev s : ℕ
  s = m.root

  long : 2 ^ 52 ≤ s
  long = le_of_suc-le-suc (root_lt (2 ^ 52) (suc s) (omega (arith, m.square)))

  below : s < 2 ^ 53
  below = root_lt s (2 ^ 53) (omega (arith, m.square))

  all_digits : Exact a 53
  all_digits = record { digits = s; short = below; root = rw (mul-one s) m.square }

  few_digits : k < 53 → Exact a k
  few_digits l = ⊎_elim (λ h. up h.0 h.1) (λ h. absurd (not-le_of_lt few (le_trans fewer (le_trans long h)))) m.either
    where
      fewer : 2 ^ k ≤ 2 ^ 52
      fewer = pow_mono (le_of_suc-le-suc l)

      -- there are as many zeros as are asked for
      enough : (j : ℕ) → d * 2 ^ j ≡ s → 53 - k ≤ j
      enough j e =
          let g : 52 < k + j = lt_of_not-le (λ (h : k + j ≤ 52). not-le_of_lt (shl_lt k j few) (le_trans (pow_mono h) (le_trans long (le_of_eq (sym e))))) in
          omega arith

      placed : (j i : ℕ) → i + (53 - k) ≡ j → d * 2 ^ j ≡ s → Exact a k
      placed j i f e =
          let whole : d * 2 ^ i * 2 ^ (53 - k) ≡ s = mul_assoc d (2 ^ i) (2 ^ (53 - k)) ∙ ap (λ (z : ℕ). d * z) (sym (pow-add 2 i (53 - k))) ∙ ap (λ (z : ℕ). d * 2 ^ z) f ∙ e in
          record { digits = d * 2 ^ i; short = lt_of_mul-lt-mul_right (2 ^ (53 - k)) (rw (whole, all_places k (omega arith)) below); root = rw whole m.square }

      up : (j : ℕ) → d * 2 ^ j ≡ s → Exact a k
      up j e = let g : 53 - k ≤ j = enough j e in placed j (j - (53 - k)) (let z : j - (53 - k) + (53 - k) ≡ j = omega arith in z) e

-- n digits that are exact, and no fewer: the first and the last are a 1
first_digit : (a n : ℕ) → 2 ^ 104 ≤ a → n ≤ 53 → (x : Exact a n) → 2 ^ n ≤ 2 * x.digits
first_digit a n wide l x = le_of_mul-le-mul_right (rw (all_places n l) (go (2 ^ (53 - n)) long)) (pow_pos (53 - n))
  where
    long : 2 ^ 52 ≤ x.digits * 2 ^ (53 - n)
    long = le_of_suc-le-suc (root_lt (2 ^ 52) (suc (x.digits * 2 ^ (53 - n))) (omega (arith, x.root)))

    go : (m : ℕ) → 2 ^ 52 ≤ x.digits * m → 2 ^ 53 ≤ 2 * x.digits * m
    go m l = omega arith

-- with a 0 at the end there would be fewer
without_last : (a n d : ℕ) → suc n ≤ 53 → d % 2 ≡ 0 → d < 2 ^ suc n → d * 2 ^ (53 - suc n) * (d * 2 ^ (53 - suc n)) ≡ a → Exact a n
without_last a n d l e s r =
    record { digits = d / 2; short = let z : 2 ^ suc n ≡ 2 ^ n * 2 = pow-suc 2 n in omega arith; root = rw (place, half (2 ^ (53 - suc n))) r }
  where
    place : 2 ^ (53 - n) ≡ 2 ^ (53 - suc n) * 2
    place = ap (λ (z : ℕ). 2 ^ z) (let f : 53 - n ≡ suc (53 - suc n) = omega arith in f) ∙ pow-suc 2 (53 - suc n)

    half : (m : ℕ) → d / 2 * (m * 2) ≡ d * m
    half m = go (d / 2) (let f : d ≡ d / 2 * 2 = omega arith in f)
      where
        go : (h : ℕ) → d ≡ h * 2 → h * (m * 2) ≡ d * m
        go h f = let z : d * m ≡ h * 2 * m = ap (λ (y : ℕ). y * m) f in omega arith

last_digit : (a n : ℕ) → 1 ≤ n → n ≤ 53 → Fewest a n → (x : Exact a n) → x.digits % 2 ≡ 1
last_digit a zero o l f x = absurd (lt_irrefl 0 o)
last_digit a (suc n) o l f x = go (x.digits % 2) refl
  where
    go : (b : ℕ) → x.digits % 2 ≡ b → x.digits % 2 ≡ 1
    go zero e = absurd (lt_irrefl n (f.fewest n (omega arith) (without_last a n x.digits l e x.short x.root)))
    go (suc b) e = omega arith

-- ---- at a value of the format

-- n / d is X / L, and X * L is a * P
cross : (n d L X a P : ℕ) → n * L ≡ X * d → X * L ≡ a * P → n * (L * L) ≡ a * P * d
cross n d L X a P e f =
    let x : n * L * L ≡ X * d * L = ap (λ (z : ℕ). z * L) e in
    let y : X * L * d ≡ a * P * d = ap (λ (z : ℕ). z * d) f in
    omega arith

module _ (x : Float) (X a q k : ℕ) (r : Rooted x X a q k) where
  abbrev n : ℕ
  n = digits_of x

  abbrev L : ℕ
  L = 2 ^ 1074

  abbrev P : ℕ
  P = 2 ^ k * 2 ^ k

  abbrev root : Float
  root = root_of x

  scaled : num x * (L * L) ≡ a * P * den x
  scaled = cross (num x) (den x) L X a P (value→cross x X L r.of) r.square

  some : 0 < a
  some = omega (arith, r.wide)

  told : Fewest a n
  told = rw r.told (told_fewest a (a / 2 ^ 52) (sym r.zeros) some r.short)

  at_most : n ≤ 53
  at_most = ⊎_elim (λ h. omega arith) (λ h. omega arith) told.told

  at_least : 1 ≤ n
  at_least = some_digit a (a / 2 ^ 52) (sym r.zeros) some r.short n told

  exact_root : (j : ℕ) → Exact a j → ExactRoot x j
  exact_root j e =
      record {
        digits = e.digits;
        up = 53 - j + k;
        down = 1074;
        short = e.short;
        square = ap (λ (z : ℕ). z * den x) (moved_square e.digits (53 - j) a e.root k) ∙ sym scaled;
      }

  to_whole : (j : ℕ) → (e : ExactRoot x j) → Moved a e.digits
  to_whole j e = moved e.digits a (e.up + 1074) (k + e.down) (rw (pow-add 2 e.up 1074, pow-add 2 k e.down) (eq_of_mul-eq-mul_right (den x) (den_pos x) _ _ (both e.digits (2 ^ e.up) (2 ^ e.down) L (2 ^ k) (num x) (den x) e.square scaled)))
    where
      both : (d u v l p m c : ℕ) → d * d * (u * u) * c ≡ m * (v * v) → m * (l * l) ≡ a * (p * p) * c → d * d * (u * l * (u * l)) * c ≡ a * (p * v * (p * v)) * c
      both d u v l p m c e f =
          let g : d * d * (u * u) * c * (l * l) ≡ m * (v * v) * (l * l) = ap (λ (z : ℕ). z * (l * l)) e in
          let h : m * (l * l) * (v * v) ≡ a * (p * p) * c * (v * v) = ap (λ (z : ℕ). z * (v * v)) f in
          omega arith

  rule : FewestDigits x n
  rule =
      record {
        fewest = λ j e. go j e (ltb j 53) (ltb→lt j 53) (nltb→le j 53);
        told = ⊎_elim (λ h. inl (h.0, exact_root n h.1)) (λ h. inr (h.0, λ j e. h.1 53 (le_of_eq refl) (all_digits a e.digits j r.wide r.short e.short (to_whole j e)))) told.told;
      }
    where
      go : (j : ℕ) → ExactRoot x j → (b : Bool) → (T b → j < 53) → (T (not b) → 53 ≤ j) → n ≤ j
      go j e true l m = let h : j < 53 = l tt in told.fewest j (omega arith) (few_digits a e.digits j r.wide r.short e.short (to_whole j e) h)
      go j e false l m = le_trans at_most (m tt)

  counted : ((1 ≤ n) × (n ≤ 27)) ⊎ (n ≡ 53)
  counted = ⊎_elim (λ h. inl (at_least, h.0)) (λ h. inr h.0) told.told

  er : num root * L ≡ q * 2 ^ k * den root
  er = value→cross root (q * 2 ^ k) L r.is

  -- a number whose square is a is the root
  is_root : (s : ℕ) → s * s ≡ a → s ≡ q
  is_root s e = one_nearest a s q (near s e) r.near
    where
      near : (s : ℕ) → s * s ≡ a → IsNearest a s
      near zero e = absurd (lt_irrefl 0 (omega (arith, some)))
      near (suc s) e = record { under = omega arith; over = omega arith }

  square : q * q ≡ a → IsSquare x root
  square e = eq_of_mul-eq-mul_right (L * L) (mul-pos (pow_pos 1074) (pow_pos 1074)) _ _ (both (num x) (den x) (num root) (den root) L (2 ^ k) er scaled)
    where
      both : (m c n d l p : ℕ) → n * l ≡ q * p * d → m * (l * l) ≡ a * (p * p) * c → n * n * c * (l * l) ≡ m * (d * d) * (l * l)
      both m c n d l p f g =
          let h : n * l * (n * l) * c ≡ q * p * d * (q * p * d) * c = ap (λ (z : ℕ). z * z * c) f in
          let i : q * q * (p * p * (d * d) * c) ≡ a * (p * p * (d * d) * c) = ap (λ (z : ℕ). z * (p * p * (d * d) * c)) e in
          let j : m * (l * l) * (d * d) ≡ a * (p * p) * c * (d * d) = ap (λ (z : ℕ). z * (d * d)) g in
          omega arith

  -- an exact root is one of some number of digits
  exact_of : IsSquare x root → ExactRoot x (size q)
  exact_of e = record { digits = q; up = k; down = 1074; short = size-lt q; square = eq_of_mul-eq-mul_right (den root * den root) (mul-pos (den_pos root) (den_pos root)) _ _ (both (num x) (den x) (num root) (den root) L (2 ^ k) er e) }
    where
      both : (m c n d l p : ℕ) → n * l ≡ q * p * d → n * n * c ≡ m * (d * d) → q * q * (p * p) * c * (d * d) ≡ m * (l * l) * (d * d)
      both m c n d l p f g =
          let h : n * l * (n * l) * c ≡ q * p * d * (q * p * d) * c = ap (λ (z : ℕ). z * z * c) f in
          let i : n * n * c * (l * l) ≡ m * (d * d) * (l * l) = ap (λ (z : ℕ). z * (l * l)) g in
          omega arith

  exact : n ≤ 27 → Exact a n
  exact l = ⊎_elim (λ h. h.1) (λ h. absurd (lt_irrefl 0 (omega arith))) told.told

  digits_of_root : n ≤ 27 → IsSquare x root × DigitsOfRoot root n
  digits_of_root l =
      let e = exact l in
      let s : e.digits * 2 ^ (53 - n) ≡ q = is_root (e.digits * 2 ^ (53 - n)) e.root in (
        square (subst (λ (z : ℕ). z * z ≡ a) s e.root),
        record {
          digits = e.digits;
          up = 53 - n + k;
          down = 1074;
          value = er ∙ ap (λ (z : ℕ). z * den root) (ap (λ (z : ℕ). z * 2 ^ k) (sym s) ∙ mul_assoc e.digits (2 ^ (53 - n)) (2 ^ k) ∙ ap (λ (z : ℕ). e.digits * z) (sym (pow-add 2 (53 - n) k)));
          first = first_digit a n r.wide at_most e;
          short = e.short;
          last = last_digit a n at_least at_most told e;
        },
      )

  inexact : n ≡ 53 → IsSquare x root → ⊥
  inexact e h = ⊎_elim (λ w. lt_irrefl 0 (omega arith)) (λ w. w.1 (size q) (exact_of h)) rule.told

-- ---- the claims

pub digits_fewest : DigitsFewest
digits_fewest x h p = let r = root_in_units x h p in rule x r.0 r.1 r.2 r.3 r.4

-- of two numbers that meet the rule, each is the fewest, or both are 53
same_count : (x : Float) (m n : ℕ) → FewestDigits x m → FewestDigits x n → m ≡ n
same_count x m n f g = go f.told g.told
  where
    Told : ℕ → Type 0
    Told n = ((n ≤ 27) × ExactRoot x n) ⊎ ((n ≡ 53) × ((k : ℕ) → ExactRoot x k → ⊥))

    go : Told m → Told n → m ≡ n
    go (inl h) (inl k) = le_antisymm (f.fewest n k.1) (g.fewest m h.1)
    go (inl h) (inr k) = absurd (k.1 m h.1)
    go (inr h) (inl k) = absurd (h.1 n k.1)
    go (inr h) (inr k) = h.0 ∙ sym k.0

pub one_fewest : OneFewest
one_fewest x n h p f = same_count x n (digits_of x) f (digits_fewest x h p)

-- digits are told of a finite value above zero only
other : (x : Float) → (T (positive x) → ⊥) → digits_of x ≡ 0
unfolding digits_of
other nan p = refl
other (inf s) p = refl
other (fin s zero e) p = refl
other (fin true (suc m) e) p = refl
other (fin false (suc m) e) p = absurd (p (lt→ltb 0 (suc m) (zero-lt-suc m)))

pub digits_counted : DigitsCounted
digits_counted x h = record { above = λ p. let r = root_in_units x h p in counted x r.0 r.1 r.2 r.3 r.4; other = other x }

above_zero : (x : Float) → 1 ≤ digits_of x → T (positive x)
above_zero x l = go (positive x) refl
  where
    go : (b : Bool) → positive x ≡ b → T (positive x)
    go true e = subst T (sym e) tt
    go false e = absurd (lt_irrefl 0 (subst (λ (z : ℕ). 1 ≤ z) (other x (subst T e)) l))

pub digits_exact : DigitsExact
digits_exact x h l = let r = root_in_units x h (above_zero x l) in digits_of_root x r.0 r.1 r.2 r.3 r.4

pub digits_inexact : DigitsInexact
digits_inexact x h e = let r = root_in_units x h (above_zero x (omega arith)) in inexact x r.0 r.1 r.2 r.3 r.4 e
