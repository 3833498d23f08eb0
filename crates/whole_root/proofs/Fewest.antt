-- The digits told of the root of a whole number, by its whole root and what is left: where nothing is, the root's digits without the zeros at its end.
use mathlib.Core.Path.{◌≡◌, refl, sym, ◌∙◌, subst}
use mathlib.Core.Logic.{inl, inr}
use Prim.Native.Nat.{ℕ, zero, suc, ◌-◌, ◌*◌, ◌^◌, ◌≤◌, ◌<◌}
use native.Mathlib.Nat.{le_antisymm, lt_irrefl, lt_of_not-le, le_of_suc-le-suc, zero-mul, mul-le-mul_right, lt_of_mul-lt-mul_right}
use native.Mathlib.Omega.{arith}
use lib.Count.{count_trailing_zeros}
use lib.Pow.{pow_mono}
use Rattle.whole_root.specs.Roots.{WholeRoot, Exact, Fewest}
use Rattle.whole_root.proofs.Squares.{root_lt, all_places, some_root, root_short}
use Rattle.whole_root.proofs.Zeros.{Multiple, multiple, most, halves}

module _ (a q r c : ℕ) (made : a ≡ c * 4 ^ 26) (some : 0 < a) (short : a < 4 ^ 53) (w : WholeRoot a q r) where
  -- a number whose square is a is the whole root
  pub root_of_lem : (x : ℕ) → x * x ≡ a → x ≡ q
  root_of_lem x e =
      le_antisymm
      (le_of_suc-le-suc (root_lt x (suc q) (omega (arith, w.digits, w.rest))))
      (le_of_suc-le-suc (root_lt q (suc x) (omega (arith, w.digits))))

  abbrev t : ℕ
  t = count_trailing_zeros 64 q

  part : Multiple q t
  part = multiple 64 q

  pub few_zeros : t < 53
  few_zeros = lt_of_not-le (λ (g : 53 ≤ t). full g part.times part.is)
    where
      full : 53 ≤ t → (h : ℕ) → q ≡ h * 2 ^ t → ⊥
      full g zero z = lt_irrefl 0 (omega (arith, some_root a q r some w, z ∙ zero-mul (2 ^ t)))
      full g (suc h) z =
          let p : 2 ^ 53 ≤ 2 ^ t = pow_mono g in
          let y : 1 * 2 ^ t ≤ suc h * 2 ^ t = mul-le-mul_right (2 ^ t) (omega arith) in
          lt_irrefl 0 (omega (arith, root_short a q r some w short))

  pub exactly : r ≡ 0 → Fewest a (53 - t)
  exactly z = record { fewest = fewest; told = inl (omega (arith, even), exact) }
    where
      square : q * q ≡ a
      square = omega (arith, w.digits)

      kept : 53 - (53 - t) ≡ t
      kept = omega (arith, few_zeros)

      whole : 2 ^ (53 - t) * 2 ^ t ≡ 2 ^ 53
      whole = rw kept at (all_places (53 - t) (omega arith))

      exact : Exact a (53 - t)
      exact =
          record {
            digits = part.times;
            short = lt_of_mul-lt-mul_right (2 ^ t) (rw (whole, ← part.is) (root_short a q r some w short));
            root = rw (kept, ← part.is) square;
          }

      fewest : (k : ℕ) → k ≤ 53 → Exact a k → 53 - t ≤ k
      fewest k l x =
          let z : 53 - k ≤ t = most 64 (53 - k) x.digits q (omega arith) (sym (root_of_lem (x.digits * 2 ^ (53 - k)) x.root)) in
          omega arith

      even : 26 ≤ t
      even = let h = halves 26 c q (square ∙ made) in most 64 26 h.times q (omega arith) h.is

  pub none : (r ≡ 0 → ⊥) → Fewest a 53
  none n = record { fewest = λ k l x. absurd (no k x); told = inr (refl, λ k l x. no k x) }
    where
      no : (k : ℕ) → Exact a k → ⊥
      no k x =
          let z : q * q ≡ a = subst (λ (y : ℕ). y * y ≡ a) (root_of_lem (x.digits * 2 ^ (53 - k)) x.root) x.root in
          n (omega (arith, w.digits))
