-- The zeros at the end of a number, and those that the root of a square has there.
use mathlib.Core.Path.{◌≡◌, refl, sym, ap, ◌∙◌, subst}
use Prim.Native.Nat.{ℕ, zero, suc, ◌+◌, ◌*◌, ◌/◌, ◌%◌, ◌^◌, ◌≤◌, ◌<◌, zero-le, suc-le-suc}
use native.Mathlib.Nat.{lt_irrefl, le_of_suc-le-suc, mul-one, mul_assoc, pow-suc}
use native.Mathlib.Omega.{arith}
use lib.Count.{count_trailing_zeros, under}

-- a number is a multiple of 2 to the power of its zeros
pub record Multiple (q j : ℕ) : Type 0 where
  pub times : ℕ
  pub is : q ≡ times * 2 ^ j

doubled : (h q j : ℕ) → q % 2 ≡ 0 → q / 2 ≡ h * 2 ^ j → q ≡ h * 2 ^ suc j
doubled h q j e f = let z : h * 2 ^ suc j ≡ h * 2 ^ j * 2 = ap (λ (x : ℕ). h * x) (pow-suc 2 j) ∙ sym (mul_assoc h (2 ^ j) 2) in omega arith

pub multiple : (k q : ℕ) → Multiple q (count_trailing_zeros k q)
unfolding count_trailing_zeros
multiple zero q = record { times = q; is = sym (mul-one q) }
multiple (suc k) q = go (q % 2) refl (multiple k (q / 2))
  where
    go : (t : ℕ) → q % 2 ≡ t → Multiple (q / 2) (count_trailing_zeros k (q / 2)) → Multiple q (under t (count_trailing_zeros k (q / 2)))
    go zero e m = record { times = m.times; is = doubled m.times q (count_trailing_zeros k (q / 2)) e m.is }
    go (suc t) e m = record { times = q; is = sym (mul-one q) }

-- and of no higher power
pub most : (k j h q : ℕ) → j ≤ k → q ≡ h * 2 ^ j → j ≤ count_trailing_zeros k q
unfolding count_trailing_zeros
most k zero h q l e = zero-le
most zero (suc j) h q l e = l
most (suc k) (suc j) h q l e =
    let z : q ≡ h * 2 ^ j * 2 = e ∙ ap (λ (x : ℕ). h * x) (pow-suc 2 j) ∙ sym (mul_assoc h (2 ^ j) 2) in
    let even : q % 2 ≡ 0 = omega arith in
    let half : q / 2 ≡ h * 2 ^ j = omega arith in
    subst (λ (t : ℕ). suc j ≤ under t (count_trailing_zeros k (q / 2))) (sym even) (suc-le-suc (most k j h (q / 2) (le_of_suc-le-suc l) half))

-- a square that is a multiple of 4 ^ j has a root that is one of 2 ^ j
pub halves : (j c q : ℕ) → q * q ≡ c * 4 ^ j → Multiple q j
halves zero c q e = record { times = q; is = sym (mul-one q) }
halves (suc j) c q e =
    let s : q * q ≡ c * 4 ^ j * 4 = e ∙ ap (λ (x : ℕ). c * x) (pow-suc 4 j) ∙ sym (mul_assoc c (4 ^ j) 4) in
    let p = parted q (c * 4 ^ j) s in
    let m = halves j c (q / 2) p.1 in
    record { times = m.times; is = doubled m.times q j p.0 m.is }
  where
    cases : (q h b x : ℕ) → q ≡ 2 * h + b → b < 2 → q * q ≡ x * 4 → (b ≡ 0) × (h * h ≡ x)
    cases q h zero x e l s = let z : q * q ≡ (2 * h + 0) * (2 * h + 0) = ap (λ (y : ℕ). y * y) e in (refl, omega arith)
    cases q h (suc zero) x e l s = let z : q * q ≡ (2 * h + 1) * (2 * h + 1) = ap (λ (y : ℕ). y * y) e in absurd (lt_irrefl 0 (omega arith))
    cases q h (suc (suc b)) x e l s = absurd (lt_irrefl 0 (omega arith))

    parted : (q x : ℕ) → q * q ≡ x * 4 → (q % 2 ≡ 0) × (q / 2 * (q / 2) ≡ x)
    parted q x s = cases q (q / 2) (q % 2) x (omega arith) (omega arith) s
