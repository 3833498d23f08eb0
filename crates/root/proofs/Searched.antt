-- The search of `digits_of_whole` finds the fewest digits that are exact: there is one such number, and no fewer pass its test.
use mathlib.Core.Path.{◌≡◌, refl, sym, ap, ◌∙◌, subst}
use mathlib.Core.Logic.{⊎_elim}
use mathlib.Core.Bool.{Bool, true, false, cond, true≢false}
use Prim.Native.Nat.{ℕ, zero, suc, ◌+◌, ◌-◌, ◌*◌, ◌/◌, ◌^◌, ◌≤◌, ◌<◌}
use native.Mathlib.Nat.{le_antisymm, lt_irrefl, mul-div_cancel, div-lt_iff_lt-mul}
use native.Mathlib.Omega.{arith}
use lib.Dec.{eqb}
use lib.Pow.{pow_pos}
use borrow.Author.Tests.{eq-eqb, eqb-true, eqb-false}
use Rattle.whole_root.specs.Roots.{WholeRoot, Exact, Fewest}
use Rattle.whole_root.proofs.Squares.{all_places, root_short}
use Rattle.whole_root.proofs.Fewest.{root_of_lem, exactly, none}
use Rattle.root.specs.Root.{whole_root}
use Rattle.root.specs.RootDigits.{are_exact, fewest_from, digits_of_whole}
use Rattle.root.proofs.Whole.{whole_root_lem}

module _ (a c : ℕ) (made : a ≡ c * 4 ^ 26) (some : 0 < a) (short : a < 4 ^ 53) where
  abbrev q : ℕ
  q = whole_root 53 a

  abbrev r : ℕ
  r = a - q * q

  whole : WholeRoot a q r
  whole = whole_root_lem a short

  -- what the test says of k digits
  passes : (k : ℕ) → Exact a k → are_exact a q k ≡ true
  passes k x =
      let P = 2 ^ (53 - k) in
      let e : x.digits * P ≡ q = root_of_lem a q r c made some short whole (x.digits * P) x.root in
      let f : q / P ≡ x.digits = ap (λ (z : ℕ). z / P) (sym e) ∙ mul-div_cancel x.digits (pow_pos (53 - k)) in
      eq-eqb _ _ (ap (λ (z : ℕ). z * P * (z * P)) f ∙ x.root)

  passed : (k : ℕ) → k ≤ 53 → are_exact a q k ≡ true → Exact a k
  passed k l e =
      record {
        digits = q / 2 ^ (53 - k);
        short = (div-lt_iff_lt-mul (pow_pos (53 - k))).1 (subst (λ (z : ℕ). q < z) (sym (all_places k l)) (root_short a q r some whole short));
        root = eqb-true _ _ e;
      }

  module _ (n : ℕ) (f : Fewest a n) where
    at_most : n ≤ 53
    at_most = ⊎_elim (λ h. omega arith) (λ h. omega arith) f.told

    -- the number of digits that is sought passes, if it is one of those that are tried
    sought : n < 53 → are_exact a q n ≡ true
    sought l = ⊎_elim (λ h. passes n h.1) (λ h. absurd (lt_irrefl 0 (omega arith))) f.told

    found : (left k : ℕ) → k + left ≡ 53 → k ≤ n → fewest_from a q left k ≡ n
    unfolding fewest_from
    found zero k e l = le_antisymm (omega arith) at_most
    found (suc left) k e l = go (are_exact a q k) refl (found left (k + 1) (omega arith))
      where
        next : are_exact a q k ≡ false → (b : Bool) → eqb k n ≡ b → k + 1 ≤ n
        next p true h = let z : k ≡ n = eqb-true k n h in absurd (true≢false (sym (sought (omega arith)) ∙ ap (are_exact a q) (sym z) ∙ p))
        next p false h = let z : k ≡ n → ⊥ = eqb-false k n h in omega arith

        go : (b : Bool) → are_exact a q k ≡ b → (k + 1 ≤ n → fewest_from a q left (k + 1) ≡ n) → cond b k (fewest_from a q left (k + 1)) ≡ n
        go true p more = le_antisymm l (f.fewest k (omega arith) (passed k (omega arith) p))
        go false p more = more (next p (eqb k n) refl)

    pub some_digit : 1 ≤ n
    some_digit = ⊎_elim (λ h. at_least n h.1) (λ h. omega arith) f.told
      where
        at_least : (n : ℕ) → Exact a n → 1 ≤ n
        at_least zero x = absurd (lt_irrefl 0 (omega (arith, x.short, x.root)))
        at_least (suc n) x = omega arith

    pub fewest_told : n ≡ digits_of_whole a
    unfolding digits_of_whole
    fewest_told = sym (found 52 1 refl some_digit)

  pub told_fewest : Fewest a (digits_of_whole a)
  told_fewest = go (eqb r 0) refl
    where
      is : (n : ℕ) → Fewest a n → Fewest a (digits_of_whole a)
      is n f = subst (Fewest a) (fewest_told n f) f

      go : (b : Bool) → eqb r 0 ≡ b → Fewest a (digits_of_whole a)
      go true e = is _ (exactly a q r c made some short whole (eqb-true r 0 e))
      go false e = is 53 (none a q r c made some short whole (λ z. true≢false (sym (eq-eqb r 0 z) ∙ e)))
