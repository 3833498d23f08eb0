-- One more digit of a root, in any base, by a division: with n = r * b + h = p * 2q + u the root is q * b + p, or one less where the square of p
-- is more than what is left.
use mathlib.Core.Path.{◌≡◌, sym, ap}
use Prim.Native.Nat.{ℕ, zero, suc, ◌+◌, ◌-◌, ◌*◌, ◌/◌, ◌%◌, ◌≤◌, ◌<◌}
use native.Mathlib.Nat.{le_of_suc-le-suc, lt_of_not-le, lt_irrefl, mul-le-mul, mul-le-mul_left, mul-le-mul_right, div-add-mod', mod-lt, sub-zero}
use native.Mathlib.Omega.{arith}
use mathlib.Core.Bool.{Bool, true, false, not}
use lib.Dec.{T}
use mir.Val.{bool_byte}
use Rattle.whole_root.specs.Digits.{Digits, Longer}

-- the quotient p and the remainder u of the division of r * b + h by 2 * q
pub record Parts (q r b h p u : ℕ) : Type 0 where
  pub whole : r * b + h ≡ p * (2 * q) + u
  pub square : p * p ≤ 2 * (q * b)
  pub digit : p ≤ b
  pub carried : r * b ≤ 2 * (q * b)
  pub next : u * b + b ≤ 2 * (q * b)
  pub wide : q ≤ q * b

pub parts : (q r b h l : ℕ) → Digits q r b h l → Parts q r b h ((r * b + h) / (2 * q)) ((r * b + h) % (2 * q))
parts q r b h l a = go ((r * b + h) / (2 * q)) ((r * b + h) % (2 * q)) (sym (div-add-mod' (r * b + h) (2 * q))) (mod-lt (r * b + h) (omega arith))
  where
    go : (p u : ℕ) → r * b + h ≡ p * (2 * q) + u → u < 2 * q → Parts q r b h p u
    go p u e k =
        let rb : r * b ≤ 2 * q * b = mul-le-mul_right b a.rest in
        let digit : p ≤ b = le_of_suc-le-suc (lt_of_not-le (λ (g : suc b ≤ p). let m : suc b * (2 * q) ≤ p * (2 * q) = mul-le-mul_right (2 * q) g in lt_irrefl h (omega arith))) in
        let pp : p * p ≤ b * b = mul-le-mul digit digit in
        let bb : b * b ≤ 2 * q * b = mul-le-mul_right b a.base in
        let ub : suc u * b ≤ 2 * q * b = mul-le-mul_right b k in
        let q2 : q * 1 ≤ q * b = mul-le-mul_left q (omega (arith, a.high)) in
        record { whole = e; digit = digit; square = omega arith; carried = omega arith; next = omega arith; wide = omega arith }

-- with f, whether the digit p is one too many
pub record Stepped (q r b h l s v p f : ℕ) : Type 0 where
  pub some : f ≤ s
  pub one : f ≤ 1
  pub back : (2 * (s - f) + 1) * f ≤ 2 * s + 1
  pub enough : p * p ≤ v + (2 * (s - f) + 1) * f
  pub is : Longer q r b h l (s - f) (v + (2 * (s - f) + 1) * f - p * p)

-- the digit p is right
right : (q r b h l p u t : ℕ) → Digits q r b h l → Parts q r b h p u → p * p + t ≡ u * b + l → Longer q r b h l (q * b + p) t
right q r b h l p u t a d y =
    let e : (r * b + h) * b ≡ (p * (2 * q) + u) * b = ap (λ (z : ℕ). z * b) d.whole in
    record { root = record { digits = omega arith; rest = omega (arith, d.next, a.low) }; begins = omega arith }

-- the digit p + 1 is one too many
less : (q r b h l p u t : ℕ) → Parts q r b h (suc p) u → u * b + l < suc p * suc p → suc p * suc p + t ≡ u * b + l + (2 * (q * b + p) + 1)
    → Longer q r b h l (q * b + p) t
less q r b h l p u t d x y =
    let e : (r * b + h) * b ≡ (suc p * (2 * q) + u) * b = ap (λ (z : ℕ). z * b) d.whole in
    record { root = record { digits = omega arith; rest = omega arith }; begins = omega arith }

pub stepped : (q r b h l p u : ℕ) → Digits q r b h l → Parts q r b h p u → (t : Bool) → (T t → u * b + l < p * p) → (T (not t) → p * p ≤ u * b + l)
    → Stepped q r b h l (q * b + p) (u * b + l) p (bool_byte t)
stepped q r b h l zero u a d true x y = absurd (lt_irrefl 0 (let x' : u * b + l < 0 * 0 = x tt in omega arith))
stepped q r b h l (suc p) u a d true x y =
    let x' : u * b + l < suc p * suc p = x tt in
    let z : q * b + suc p - 1 ≡ q * b + p = omega arith in
    let k : suc p * suc p ≤ u * b + l + (2 * (q * b + p) + 1) * 1 = omega (arith, d.square) in
    record {
      some = omega arith;
      one = omega arith;
      back = rw z (omega arith);
      enough = rw z k;
      is = rw z (less q r b h l p u (u * b + l + (2 * (q * b + p) + 1) * 1 - suc p * suc p) d x' (omega arith));
    }
stepped q r b h l p u a d false x y =
    let y' : p * p ≤ u * b + l = y tt in
    record {
      some = omega arith;
      one = omega arith;
      back = omega arith;
      enough = omega arith;
      is = rw (sub-zero (q * b + p)) (right q r b h l p u (u * b + l + (2 * (q * b + p) + 1) * 0 - p * p) a d (omega arith));
    }
