-- `root_of` and `digits_of` of the value of a bit pattern: the pattern is read as m * 2 ^ g in units of the smallest value's square, for an m of 53 digits, whose root
-- is the one that the code packs.
use mathlib.Core.Path.{◌≡◌, refl, sym, ap, ◌∙◌, subst}
use mathlib.Core.Logic.{◌⊎◌, inl, inr}
use Prim.Native.Nat.{ℕ, zero, suc, ◌+◌, ◌-◌, ◌*◌, ◌/◌, ◌%◌, ◌^◌, ◌≤◌, ◌<◌}
use native.Mathlib.Nat.{mul-div_cancel, lt_irrefl, mul-pos, zero-mul, zero-add, lt_of_not-le, not-le_of_lt, lt_of_lt_of_le, mul-le-mul_left, mul-le-mul_right, mul_assoc, mul-one, mod-eq_of_lt, add_comm, add-sub_of_le, le_trans, le_of_eq, mul-lt-mul_of_pos_right, zero-lt-suc}
use native.Mathlib.Omega.{arith}
use mathlib.Core.Bool.{Bool, true, false, not, cond, true≢false, false≢true}
use lib.IntN.{ℤ}
use lib.Dec.{T, leb, ltb, eqb, lit≤, leb→le, nleb→lt, ltb→lt, nltb→le}
use lib.Count.{count_leading_zeros, leading_top}
use lib.Ieee.{Float, nan, inf, fin, binary64, up, down, odd, size, is_nan, of_fields, of_bits}
use lib.Ieee.Digits.{size-lt, size-le}
use lib.Ieee.Fits.{down_pos}
use lib.Pow.{pow-add, pow_pos, pow_mono, shl_lt}
use lib.Ieee.Exact.{HasValue, odd_sign}
use borrow.Author.Tests.{lt-leb, le-leb, ne_eqb}
use Rattle.whole_root.specs.Roots.{IsNearest}
use Rattle.root.specs.Root.{nearest_root, in_units, root_of_square, root_of}
use Rattle.root.specs.RootDigits.{digits_of_whole, digits_of_square, digits_of}
use Rattle.root.specs.Parts.{Reads, Parted}
use Rattle.root.proofs.Nan.{only_nan, nan_pattern}
use Rattle.root.proofs.Whole.{nearest_is, one_nearest, nearest_long, nearest_short}
use Rattle.root.proofs.Searched.{fewest_told}

-- the sign, the exponent's field and the digits of a pattern with the sign clear
fields : (x t : ℕ) → x < 2048 → t < 2 ^ 52 → of_bits binary64 (x * 2 ^ 52 + t) ≡ of_fields binary64 false x t
unfolding of_bits
fields x t h l =
    let b = x * 2 ^ 52 + t in
    let s : leb (2 ^ 63) b ≡ false = lt-leb (2 ^ 63) b (omega arith) in
    let e : b % 2 ^ 63 / 2 ^ 52 ≡ x = omega arith in
    let d : b % 2 ^ 52 ≡ t = omega arith in
    cc (s, e, d)

of_subnormal : (t : ℕ) → t < 2 ^ 52 → of_bits binary64 t ≡ odd 53 false t 0 1074
unfolding of_fields
of_subnormal t l = ap (of_bits binary64) (sym (zero-add t)) ∙ fields 0 t (omega arith) l

of_normal : (x t : ℕ) → suc x < 2047 → t < 2 ^ 52 → of_bits binary64 (suc x * 2 ^ 52 + t) ≡ odd 53 false (2 ^ 52 + t) x 1074
unfolding of_fields
of_normal x t h l = fields (suc x) t (omega arith) l ∙ rw (ne_eqb (suc x) 2047 (omega arith))

-- a zero has no size
no_zero : (a : ℕ) (e : ℤ) → 0 < a → 0 * up e * 2 ^ 1074 ≡ a * down e → ⊥
no_zero a e p h = lt_irrefl 0 (subst (λ (x : ℕ). 0 < x) (sym h ∙ simp zero-mul) (mul-pos p (down_pos e)))

same_reads : {v w : Float} {a b : ℕ} → v ≡ w → a ≡ b → Reads w a → Reads v b
same_reads e f r = record { root = ap root_of e ∙ r.root ∙ ap root_of_square f; digits = ap digits_of e ∙ r.digits ∙ ap digits_of_square f }

-- a value that is a times 2 ^ -1074
pub of_units : (v : Float) (a : ℕ) → HasValue v false a (2 ^ 1074) → 0 < a → Reads v (a * 2 ^ 1074)
unfolding root_of digits_of
of_units nan a h p = absurd h
of_units (inf s) a h p = absurd h
of_units (fin true m e) a h p = absurd (true≢false h.0)
of_units (fin false zero e) a h p = absurd (no_zero a e p h.1)
of_units (fin false (suc m) e) a h p =
    let u : in_units (suc m) e ≡ a = ap (λ (x : ℕ). x / down e) h.1 ∙ mul-div_cancel a (down_pos e) in
    record { root = ap (λ (x : ℕ). root_of_square (x * 2 ^ 1074)) u; digits = ap (λ (x : ℕ). digits_of_square (x * 2 ^ 1074)) u }

-- ---- m * 2 ^ g for an m of 53 digits

size_is : (m g : ℕ) → 2 ^ 52 ≤ m → m < 2 ^ 53 → size (m * 2 ^ g) ≡ 53 + g
size_is m g l h =
    let n = m * 2 ^ g in
    let most : size n ≤ 53 + g = size-le n (53 + g) (shl_lt 53 g h) in
    let least : 52 + g < size n = lt_of_not-le (λ (z : size n ≤ 52 + g). not-le_of_lt (lt_of_lt_of_le (size-lt n) (pow_mono z)) (rw pow-add (mul-le-mul_right (2 ^ g) l))) in
    omega arith

-- the even part of 2 ^ g is taken off, but for 2 ^ 52
pub cut_exact : (m g : ℕ) → 52 ≤ g → m * 2 ^ g ≡ m * 2 ^ (g % 2) * 2 ^ 52 * 2 ^ (2 * ((g - 52) / 2))
cut_exact m g l =
    let k = (g - 52) / 2 in
    ap (λ (x : ℕ). m * x) (ap (λ (x : ℕ). 2 ^ x) (parts g l) ∙ pow-add 2 (g % 2 + 52) (2 * k) ∙ ap (λ (x : ℕ). x * 2 ^ (2 * k)) (pow-add 2 (g % 2) 52))
    ∙ simp mul_assoc
  where
    parts : (g : ℕ) → 52 ≤ g → g ≡ g % 2 + 52 + 2 * ((g - 52) / 2)
    parts g l = omega arith

cut_is : (m g : ℕ) → 52 ≤ g → m * 2 ^ g / 2 ^ (2 * ((g - 52) / 2)) ≡ m * 2 ^ (g % 2) * 2 ^ 52
cut_is m g l = let k = (g - 52) / 2 in ap (λ (x : ℕ). x / 2 ^ (2 * k)) (cut_exact m g l) ∙ mul-div_cancel (m * 2 ^ (g % 2) * 2 ^ 52) (pow_pos (2 * k))

halved : (z g : ℕ) → z ≡ 53 + g → 52 ≤ g → (z - 105) / 2 ≡ (g - 52) / 2
halved z g e l = omega arith

pub square_root : (m g : ℕ) → 2 ^ 52 ≤ m → m < 2 ^ 53 → 52 ≤ g → root_of_square (m * 2 ^ g) ≡ odd 53 false (nearest_root (m * 2 ^ (g % 2) * 2 ^ 52)) ((g - 52) / 2) 1074
unfolding root_of_square
square_root m g l h w =
    ap (λ (k : ℕ). odd 53 false (nearest_root (m * 2 ^ g / 2 ^ (2 * k))) k 1074) (halved (size (m * 2 ^ g)) g (size_is m g l h) w)
    ∙ ap (λ (x : ℕ). odd 53 false (nearest_root x) ((g - 52) / 2) 1074) (cut_is m g w)

pub square_digits : (m g : ℕ) → 2 ^ 52 ≤ m → m < 2 ^ 53 → 52 ≤ g → digits_of_square (m * 2 ^ g) ≡ digits_of_whole (m * 2 ^ (g % 2) * 2 ^ 52)
unfolding digits_of_square
square_digits m g l h w =
    ap (λ (k : ℕ). digits_of_whole (m * 2 ^ g / 2 ^ (2 * k))) (halved (size (m * 2 ^ g)) g (size_is m g l h) w) ∙ ap digits_of_whole (cut_is m g w)

-- m doubled if g is odd
pub record Doubled (m g : ℕ) : Type 0 where
  pub least : 2 ^ 52 ≤ m * 2 ^ (g % 2)
  pub most : m * 2 ^ (g % 2) ≤ (2 ^ 53 - 1) * 2
  pub plain : m * 2 ^ (g % 2) % 2 ^ 64 ≡ m * 2 ^ (g % 2)

pub doubled : (m g : ℕ) → 2 ^ 52 ≤ m → m < 2 ^ 53 → Doubled m g
doubled m g l h =
    let lo : m * 1 ≤ m * 2 ^ (g % 2) = mul-le-mul_left m (pow_pos (g % 2)) in
    let hi : m * 2 ^ (g % 2) ≤ m * 2 = mul-le-mul_left m (pow_mono (bit g)) in
    record { least = omega arith; most = omega arith; plain = mod-eq_of_lt (omega arith) }
  where
    bit : (g : ℕ) → g % 2 ≤ 1
    bit g = omega arith

-- the pattern that is written for the root
pub written : (m g : ℕ) → 2 ^ 52 ≤ m → m < 2 ^ 53 → 52 ≤ g → g < 3120
    → (n : ℕ) → IsNearest (m * 2 ^ (g % 2) * 2 ^ 52) n
    → (n < 2 ^ 53) × (of_bits binary64 ((g - 52) / 2 * 2 ^ 52 + n) ≡ root_of_square (m * 2 ^ g))
written m g l h w u n near =
    let a = m * 2 ^ (g % 2) * 2 ^ 52 in
    let d = doubled m g l h in
    let e : n ≡ nearest_root a = one_nearest a n (nearest_root a) near (nearest_is a (omega arith) (omega arith)) in
    let lo : 2 ^ 52 ≤ n = nearest_long a n near (omega arith) in
    let hi : n < 2 ^ 53 = nearest_short a n near (omega arith) in
    let k = (g - 52) / 2 in
    let t = n - 2 ^ 52 in (
      hi,
      ap (of_bits binary64) (packs k n lo)
          ∙ of_normal k t (omega arith) (omega arith)
          ∙ ap (λ (x : ℕ). odd 53 false x k 1074) (back n lo ∙ e)
          ∙ sym (square_root m g l h w),
    )
  where
    packs : (k n : ℕ) → 2 ^ 52 ≤ n → k * 2 ^ 52 + n ≡ suc k * 2 ^ 52 + (n - 2 ^ 52)
    packs k n l = omega arith

    back : (n : ℕ) → 2 ^ 52 ≤ n → 2 ^ 52 + (n - 2 ^ 52) ≡ n
    back n l = omega arith

-- ---- a pattern that is read

pub read_normal : (b : ℕ) → (b / 2 ^ 52 ≡ 0 → ⊥) → b < 2047 * 2 ^ 52 → Reads (of_bits binary64 b) ((b % 2 ^ 52 + 2 ^ 52) * 2 ^ (b / 2 ^ 52 + 1073))
read_normal b n h =
    let t = b % 2 ^ 52 in
    let e = b / 2 ^ 52 - 1 in
    let m = 2 ^ 52 + t in
    same_reads
    (ap (of_bits binary64) (apart b n) ∙ of_normal e t (omega arith) (omega arith))
    (mul_assoc m (2 ^ e) (2 ^ 1074)
    ∙ ap (λ (x : ℕ). m * x) (sym (pow-add 2 e 1074))
    ∙ ap (λ (x : ℕ). m * 2 ^ x) (places b n)
    ∙ ap (λ (x : ℕ). x * 2 ^ (b / 2 ^ 52 + 1073)) (add_comm (2 ^ 52) t))
    (of_units (odd 53 false m e 1074) (m * 2 ^ e) (odd_sign 53 false m e 1074) (mul-pos (omega arith) (pow_pos e)))
  where
    apart : (b : ℕ) → (b / 2 ^ 52 ≡ 0 → ⊥) → b ≡ suc (b / 2 ^ 52 - 1) * 2 ^ 52 + b % 2 ^ 52
    apart b n = omega arith

    places : (b : ℕ) → (b / 2 ^ 52 ≡ 0 → ⊥) → b / 2 ^ 52 - 1 + 1074 ≡ b / 2 ^ 52 + 1073
    places b n = omega arith

-- a subnormal number t, moved up by s places to have 53 digits
pub read_subnormal : (t s : ℕ) → 0 < t → t < 2 ^ 52 → s ≤ 1074 → Reads (of_bits binary64 t) (t * 2 ^ s * 2 ^ (1074 - s))
read_subnormal t s p h l =
    same_reads
    (of_subnormal t h)
    (ap (λ (x : ℕ). x * 2 ^ 1074) (mul-one t)
    ∙ ap (λ (x : ℕ). t * x) (ap (λ (x : ℕ). 2 ^ x) (sym (add-sub_of_le l)) ∙ pow-add 2 s (1074 - s))
    ∙ sym (mul_assoc t (2 ^ s) (2 ^ (1074 - s))))
    (of_units (odd 53 false t 0 1074) (t * 2 ^ 0) (odd_sign 53 false t 0 1074) (mul-pos p (pow_pos 0)))

-- a number t of at most 53 digits, moved up by as many places as leave it 53, where z of a word's 64 are zeros above it
pub record Moved (t z : ℕ) : Type 0 where
  pub enough : 11 ≤ z
  pub within : z < 64
  pub least : 2 ^ 52 ≤ t * 2 ^ (z - 11)
  pub most : t * 2 ^ (z - 11) < 2 ^ 53

pub moved : (t : ℕ) → 0 < t → t < 2 ^ 53 → Moved t (count_leading_zeros 64 t)
moved t p h =
    let top = leading_top 64 t p (lt_of_lt_of_le h (lit≤ tt)) in
    let j = top.0 in
    let z = count_leading_zeros 64 t in
    let j-lt : j < 53 = lt_of_not-le (λ (g : 53 ≤ j). not-le_of_lt h (le_trans (pow_mono g) top.2)) in
    let e : z + suc j ≡ 64 = top.1 in
    let whole : 2 ^ j * 2 ^ (z - 11) ≡ 2 ^ 52 = sym (pow-add 2 j (z - 11)) ∙ ap (λ (x : ℕ). 2 ^ x) (lower_place j z e j-lt) in
    let above : 2 ^ suc j * 2 ^ (z - 11) ≡ 2 ^ 53 = sym (pow-add 2 (suc j) (z - 11)) ∙ ap (λ (x : ℕ). 2 ^ x) (upper_place j z e j-lt) in
    record {
      enough = omega arith;
      within = omega arith;
      least = le_trans (le_of_eq (sym whole)) (mul-le-mul_right (2 ^ (z - 11)) top.2);
      most = lt_of_lt_of_le (mul-lt-mul_of_pos_right top.3 (pow_pos (z - 11))) (le_of_eq above);
    }
  where
    lower_place : (j z : ℕ) → z + suc j ≡ 64 → j < 53 → j + (z - 11) ≡ 52
    lower_place j z e h = omega arith

    upper_place : (j z : ℕ) → z + suc j ≡ 64 → j < 53 → suc j + (z - 11) ≡ 53
    upper_place j z e h = omega arith

-- ---- a value in parts: its root and its digits are those of m, doubled if g is odd

pub parted : (b m g : ℕ) → 2 ^ 52 ≤ m → m < 2 ^ 53 → 52 ≤ g → g < 3120 → Reads (of_bits binary64 b) (m * 2 ^ g) → Parted b (m * 2 ^ (g % 2)) ((g - 52) / 2)
parted b m g l h w u r =
    let d = doubled m g l h in
    record {
      least = d.least;
      most = omega (arith, d.most);
      high = omega arith;
      root = λ n near. let p = written m g l h w u n near in (p.0, p.1 ∙ sym r.root);
      digits = λ n f.
          fewest_told (m * 2 ^ (g % 2) * 2 ^ 52) (m * 2 ^ (g % 2)) refl (omega (arith, d.least)) (omega (arith, d.most)) n f
          ∙ sym (square_digits m g l h w)
          ∙ sym r.digits;
    }

-- ---- below zero, and a NaN

root_of_negative : (v : Float) (a : ℕ) → HasValue v true a (2 ^ 1074) → 0 < a → root_of v ≡ nan
unfolding root_of
root_of_negative nan a h p = absurd h
root_of_negative (inf s) a h p = absurd h
root_of_negative (fin false m e) a h p = absurd (false≢true h.0)
root_of_negative (fin true zero e) a h p = absurd (no_zero a e p h.1)
root_of_negative (fin true (suc m) e) a h p = refl

negative_fields : (x t : ℕ) → (x ≡ 0 → t ≡ 0 → ⊥) → root_of (of_fields binary64 true x t) ≡ nan
unfolding root_of of_fields
negative_fields zero zero h = absurd (h refl refl)
negative_fields zero (suc t) h = root_of_negative (odd 53 true (suc t) 0 1074) (suc t * 2 ^ 0) (odd_sign 53 true (suc t) 0 1074) (mul-pos (zero-lt-suc t) (pow_pos 0))
negative_fields (suc x) t h = go (eqb (suc x) 2047) (eqb t 0)
  where
    go : (a b : Bool) → root_of (cond a (cond b (inf true) nan) (odd 53 true (2 ^ 52 + t) x 1074)) ≡ nan
    go true true = refl
    go true false = refl
    go false b = root_of_negative (odd 53 true (2 ^ 52 + t) x 1074) ((2 ^ 52 + t) * 2 ^ x) (odd_sign 53 true (2 ^ 52 + t) x 1074) (mul-pos (omega arith) (pow_pos x))

negative_bits : (b : ℕ) → 2 ^ 63 ≤ b → b < 2 ^ 64 → (b ≡ 2 ^ 63 → ⊥) → root_of (of_bits binary64 b) ≡ nan
unfolding of_bits
negative_bits b l h n = cc (le-leb (2 ^ 63) b l, negative_fields (b % 2 ^ 63 / 2 ^ 52) (b % 2 ^ 52) (not_zero b l h n))
  where
    not_zero : (b : ℕ) → 2 ^ 63 ≤ b → b < 2 ^ 64 → (b ≡ 2 ^ 63 → ⊥) → b % 2 ^ 63 / 2 ^ 52 ≡ 0 → b % 2 ^ 52 ≡ 0 → ⊥
    not_zero b l h n x t = omega arith

nan_bits_lem : (b : ℕ) → 2047 * 2 ^ 52 < b → b < 2 ^ 63 → root_of (of_bits binary64 b) ≡ nan
unfolding root_of
nan_bits_lem b l h = ap root_of (nan_pattern b (rw (mod-eq_of_lt h) l))

-- above the pattern of the infinity only -0 has a root
pub read_high : (b : ℕ) → 2047 * 2 ^ 52 < b → b < 2 ^ 64 → (b ≡ 2 ^ 63 → ⊥) → root_of (of_bits binary64 b) ≡ nan
read_high b l h n = go (leb (2 ^ 63) b) (leb→le _ _) (nleb→lt _ _)
  where
    go : (t : Bool) → (T t → 2 ^ 63 ≤ b) → (T (not t) → b < 2 ^ 63) → root_of (of_bits binary64 b) ≡ nan
    go true p q = negative_bits b (p tt) h n
    go false p q = nan_bits_lem b l (q tt)

-- ---- no digits are told below zero, of a NaN, an infinity or a zero

negative_digits : (v : Float) (a : ℕ) → HasValue v true a (2 ^ 1074) → digits_of v ≡ 0
unfolding digits_of
negative_digits nan a h = absurd h
negative_digits (inf s) a h = absurd h
negative_digits (fin false m e) a h = absurd (false≢true h.0)
negative_digits (fin true zero e) a h = refl
negative_digits (fin true (suc m) e) a h = refl

negative_field_digits : (x t : ℕ) → digits_of (of_fields binary64 true x t) ≡ 0
unfolding digits_of of_fields
negative_field_digits zero t = negative_digits (odd 53 true t 0 1074) (t * 2 ^ 0) (odd_sign 53 true t 0 1074)
negative_field_digits (suc x) t = go (eqb (suc x) 2047) (eqb t 0)
  where
    go : (a b : Bool) → digits_of (cond a (cond b (inf true) nan) (odd 53 true (2 ^ 52 + t) x 1074)) ≡ 0
    go true true = refl
    go true false = refl
    go false b = negative_digits (odd 53 true (2 ^ 52 + t) x 1074) ((2 ^ 52 + t) * 2 ^ x) (odd_sign 53 true (2 ^ 52 + t) x 1074)

high_digits : (b : ℕ) → 2047 * 2 ^ 52 < b → b < 2 ^ 64 → digits_of (of_bits binary64 b) ≡ 0
unfolding of_bits digits_of
high_digits b l h = go (leb (2 ^ 63) b) refl (nleb→lt _ _)
  where
    go : (t : Bool) → leb (2 ^ 63) b ≡ t → (T (not t) → b < 2 ^ 63) → digits_of (of_bits binary64 b) ≡ 0
    go true e q = cc (e, negative_field_digits (b % 2 ^ 63 / 2 ^ 52) (b % 2 ^ 52))
    go false e q = ap digits_of (nan_pattern b (rw (mod-eq_of_lt (q tt)) l))

pub special_digits : (b : ℕ) → (b ≡ 0) ⊎ (2047 * 2 ^ 52 ≤ b) → b < 2 ^ 64 → digits_of (of_bits binary64 b) ≡ 0
special_digits b (inl e) h = ap (λ (x : ℕ). digits_of (of_bits binary64 x)) e ∙ unfold of_bits digits_of in refl
special_digits b (inr l) h = go (ltb (2047 * 2 ^ 52) b) (ltb→lt _ _) (nltb→le _ _)
  where
    go : (t : Bool) → (T t → 2047 * 2 ^ 52 < b) → (T (not t) → b ≤ 2047 * 2 ^ 52) → digits_of (of_bits binary64 b) ≡ 0
    go true p q = high_digits b (p tt) h
    go false p q =
        let k : b ≤ 2047 * 2 ^ 52 = q tt in
        let e : b ≡ 2047 * 2 ^ 52 = omega arith in
        ap (λ (x : ℕ). digits_of (of_bits binary64 x)) e ∙ unfold of_bits digits_of in refl

-- ---- the values that are their own roots

pub nan_root : (x : Float) → is_nan x ≡ true → x ≡ root_of x
unfolding root_of
nan_root x h = let e = only_nan x h in e ∙ ap root_of (sym e)

own : (b n : ℕ) → b ≡ n → root_of (of_bits binary64 n) ≡ of_bits binary64 n → of_bits binary64 b ≡ root_of (of_bits binary64 b)
own b n e h = cc

pub own_root : (b : ℕ) → (b ≡ 0) ⊎ (2047 * 2 ^ 52 ≤ b) → b ≤ 2047 * 2 ^ 52 → of_bits binary64 b ≡ root_of (of_bits binary64 b)
own_root b (inl e) h = own b 0 e (unfold root_of of_bits in refl)
own_root b (inr l) h = own b (2047 * 2 ^ 52) (omega arith) (unfold root_of of_bits in refl)
