-- The digit loop: what holds before each turn, that a turn keeps it, and what it says after the last.
use mathlib.Core.Path.{◌≡◌, sym, ap, ◌∙◌, subst}
use Prim.Native.Nat.{ℕ, suc, ◌+◌, ◌-◌, ◌*◌, ◌/◌, ◌%◌, ◌^◌, ◌≤◌, ◌<◌}
use native.Mathlib.Nat.{le_trans, lt_of_not-le, lt_irrefl, le-add_right, mul-pos, mul-le-mul, mul-le-mul_right, div-add-mod', div-lt_iff_lt-mul, mod-lt, mul_comm, mul-one, zero-mul, mul-lt-mul_of_pos_right, mod-eq_of_lt}
use native.Mathlib.Omega.{arith}
use mathlib.Core.Bool.{Bool, true, false, not, ◌&&◌, ◌||◌, true≢false}
use lib.Dec.{T, ltb, eqb, nltb→le, eqb→eq}
use lib.Pow.{pow-add, pow_pos, pow_mono, pow-lt}
use Rattle.whole_root.specs.Roots.{WholeRoot}
use Rattle.whole_root.specs.Digits.{Digits, Longer, remains_of}
use Rattle.whole_root.proofs.Squares.{all_places}

-- n digits of the root are worked out. The 54 digits of m stand at the top of 64, with zeros after them: q is the whole root of the first 2 * n, with
-- r left, and d has those that follow, moved to the top.
pub record Brought (m d q r n : ℕ) : Type 0 where
  pub digits : (q * q + r) * 2 ^ 64 + d ≡ m * 2 ^ 10 * (2 ^ n * 2 ^ n)
  pub rest : r ≤ 2 * q
  pub least : 2 ^ n ≤ 2 * q
  pub some : 0 < n
  pub most : n ≤ 53
  pub word : d < 2 ^ 64

-- h is the digit at the top of d in the base b, and e what is left of d, moved up
pub record Digit (b d h e : ℕ) : Type 0 where
  pub moved : d * b ≡ h * 2 ^ 64 + e
  pub high : h < b
  pub word : e < 2 ^ 64

pub top_digit : (s d : ℕ) → s ≤ 64 → d < 2 ^ 64 → Digit (2 ^ s) d (d / 2 ^ (64 - s)) (d * 2 ^ s % 2 ^ 64)
top_digit s d l w =
    let b = 2 ^ s in
    let c = 2 ^ (64 - s) in
    let e : c * b ≡ 2 ^ 64 = sym (pow-add 2 (64 - s) s) ∙ ap (λ (x : ℕ). 2 ^ x) (whole s l) in
    let k : d % c < c = mod-lt d (pow_pos (64 - s)) in
    let small : d % c * b < 2 ^ 64 = rw (sym e) (mul-lt-mul_of_pos_right k (pow_pos s)) in
    let split : d * b ≡ d / c * 2 ^ 64 + d % c * b = parted d b c (d / c) (d % c) (div-add-mod' d c) e in
    let cut : d * b % 2 ^ 64 ≡ d % c * b = omega arith in
    record {
      moved = split ∙ ap (λ (x : ℕ). d / c * 2 ^ 64 + x) (sym cut);
      high = (div-lt_iff_lt-mul (pow_pos (64 - s))).1 (subst (λ (x : ℕ). d < x) (sym e ∙ mul_comm c b) w);
      word = subst (λ (x : ℕ). x < 2 ^ 64) (sym cut) small;
    }
  where
    whole : (s : ℕ) → s ≤ 64 → 64 - s + s ≡ 64
    whole s l = omega arith

    parted : (d b c x y : ℕ) → x * c + y ≡ d → c * b ≡ 2 ^ 64 → d * b ≡ x * 2 ^ 64 + y * b
    parted d b c x y e f =
        let k : (x * c + y) * b ≡ d * b = ap (λ (z : ℕ). z * b) e in
        let g : x * (c * b) ≡ x * 2 ^ 64 = ap (λ (z : ℕ). x * z) f in
        omega arith

-- a 1 moved up by s places
pub power : (s : ℕ) → s < 64 → 1 * 2 ^ s % 2 ^ 64 ≡ 2 ^ s
power s h = let l : 2 ^ s < 2 ^ 64 = pow-lt h in omega arith

-- a number below K, times P, is less than P times K
too_much : (K a P x d : ℕ) → a < K → 0 < P → P ≤ x → x * K + d ≡ a * P → ⊥
too_much K a P x d h p l e =
    let u : suc a * P ≤ K * P = mul-le-mul_right P h in
    let v : P * K ≤ x * K = mul-le-mul_right K l in
    lt_irrefl 0 (omega arith)

module _ (m d q r n : ℕ) (fits : m < 2 ^ 54) (i : Brought m d q r n) where
  -- the root has n digits at most
  short : q < 2 ^ n
  short =
      lt_of_not-le
      (λ (g : 2 ^ n ≤ q).
      let P = 2 ^ n * 2 ^ n in
      let large : P ≤ q * q + r = le_trans (mul-le-mul g g) (le-add_right (q * q) r) in
      too_much (2 ^ 64) (m * 2 ^ 10) P (q * q + r) d (omega arith) (mul-pos (pow_pos n) (pow_pos n)) large i.digits)

  module _ (s : ℕ) (some : 0 < s) (again : s ≤ n) (room : n + s ≤ 53) where
    base : 2 ^ s ≤ 2 * q
    base = le_trans (pow_mono again) i.least

    product : q * 2 ^ s ≤ 2 ^ 54
    product =
        let a : suc q * 2 ^ s ≤ 2 ^ n * 2 ^ s = mul-le-mul_right (2 ^ s) short in
        let b : 2 ^ n * 2 ^ s ≤ 2 ^ 53 = subst (λ (x : ℕ). x ≤ 2 ^ 53) (pow-add 2 n s) (pow_mono room) in
        omega arith

    module _ (h e l d' : ℕ) (first : Digit (2 ^ s) d h e) (second : Digit (2 ^ s) e l d') where
      pub asked : Digits q r (2 ^ s) h l
      asked = record { rest = i.rest; base = base; high = first.high; low = second.high; room = product }

      pub turn : (q' r' : ℕ) → Longer q r (2 ^ s) h l q' r' → Brought m d' q' r' (n + s)
      turn q' r' k =
          let b = 2 ^ s in
          let N = 2 ^ n in
          let p : 2 ^ (n + s) ≡ N * b = pow-add 2 n s in
          let x : d * b * b ≡ (h * 2 ^ 64 + e) * b = ap (λ (z : ℕ). z * b) first.moved in
          let y : ((q * q + r) * 2 ^ 64 + d) * (b * b) ≡ m * 2 ^ 10 * (N * N) * (b * b) = ap (λ (z : ℕ). z * (b * b)) i.digits in
          let w : N * b ≤ 2 * q * b = mul-le-mul_right b i.least in
          record {
            digits = rw p (omega (arith, k.root.digits, second.moved));
            rest = k.root.rest;
            least = rw p (omega (arith, k.begins));
            some = omega arith;
            most = room;
            word = second.word;
          }

  -- 53 digits, with zeros after those that are worked out
  abbrev zeros : ℕ
  zeros = 2 ^ (53 - n)

  full : 2 ^ n * zeros ≡ 2 ^ 53
  full = all_places n i.most

  fitting : q * zeros % 2 ^ 64 ≡ q * zeros
  fitting = let l : q * zeros < 2 ^ n * zeros = mul-lt-mul_of_pos_right short (pow_pos (53 - n)) in mod-eq_of_lt (omega (arith, full))

  -- after the last turn
  done : 53 ≤ n → WholeRoot (m * 2 ^ 52) (q * zeros) r
  done g =
      let e : n ≡ 53 = omega (arith, i.most) in
      let p : m * 2 ^ 10 * (2 ^ n * 2 ^ n) ≡ m * 2 ^ 10 * (2 ^ 53 * 2 ^ 53) = ap (λ (x : ℕ). m * 2 ^ 10 * (2 ^ x * 2 ^ x)) e in
      let z : q * zeros ≡ q = ap (λ (x : ℕ). q * 2 ^ (53 - x)) e ∙ mul-one q in
      rw z record { digits = omega (arith, i.digits, i.word); rest = i.rest }

  -- when nothing remains
  exact : r ≡ 0 → d ≡ 0 → WholeRoot (m * 2 ^ 52) (q * zeros) r
  exact x y = record { digits = omega (arith, whole (q * q) (2 ^ n) zeros i.digits full); rest = omega arith }
    where
      whole : (s N P : ℕ) → (s + r) * 2 ^ 64 + d ≡ m * 2 ^ 10 * (N * N) → N * P ≡ 2 ^ 53 → s * (P * P) ≡ m * 2 ^ 52
      whole s N P e f =
          let g : ((s + r) * 2 ^ 64 + d) * (P * P) ≡ m * 2 ^ 10 * (N * N) * (P * P) = ap (λ (z : ℕ). z * (P * P)) e in
          let h : m * (N * P * (N * P)) ≡ m * (2 ^ 53 * 2 ^ 53) = ap (λ (z : ℕ). m * (z * z)) f in
          let u : r * (P * P) ≡ 0 = ap (λ (z : ℕ). z * (P * P)) x ∙ zero-mul (P * P) in
          let v : d * (P * P) ≡ 0 = ap (λ (z : ℕ). z * (P * P)) y ∙ zero-mul (P * P) in
          omega arith

  pub left : (ltb n 53 && remains_of r d) ≡ false → WholeRoot (m * 2 ^ 52) (q * zeros % 2 ^ 64) r
  left h = rw fitting (go (ltb n 53) (eqb r 0) (eqb d 0) (nltb→le n 53) (eqb→eq r 0) (eqb→eq d 0) h)
    where
      go : (a b c : Bool) → (T (not a) → 53 ≤ n) → (T b → r ≡ 0) → (T c → d ≡ 0) → (a && (not b || not c)) ≡ false → WholeRoot (m * 2 ^ 52) (q * zeros) r
      go false b c x y z h = done (x tt)
      go true true true x y z h = exact (y tt) (z tt)
      go true true false x y z h = absurd (true≢false h)
      go true false c x y z h = absurd (true≢false h)
