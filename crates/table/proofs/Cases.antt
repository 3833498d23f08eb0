-- The two ways that a test can go, and what holds of each row of the table.
use lib.Dec.{T}
use lib.Ieee.Fits.{and_l, and_r}
use lib.ListN.{get_or}
use Prim.Native.Nat.{ℕ, zero, suc}
use mathlib.Core.Path.{◌≡◌, refl}
use mathlib.Core.Bool.{Bool, true, false, cond, ◌&&◌}
use mathlib.Core.List.{List, [], ◌∷◌}
use Rattle.std.specs.Prelude.{Option, None, Some}
use Rattle.table.specs.Refusals.{refusal_number}
use Rattle.table.specs.Rows.{Row, Work, refused}
use Rattle.table.specs.Table.{end, table, row_of}
use Rattle.table.specs.Turns.{work_unless}
use Rattle.table.specs.declared.refusal.Refusal.{Refusal}

pub by_test : {A : Type 0} (P : A → Type 0) (b : Bool) {u v : A} → (b ≡ true → P u) → (b ≡ false → P v) → P (cond b u v)
by_test P true p q = p refl
by_test P false p q = q refl

pub either_way : {A : Type 0} (b : Bool) (x : A) → cond b x x ≡ x
either_way true x = refl
either_way false x = refl

-- refused or not
pub by_refusal : (P : Work → Type 0) (o : Option Refusal) {w : Work} → (o ≡ None → P w) → ((r : Refusal) → o ≡ Some r → P (refused r)) → P (work_unless o w)
by_refusal P None p q = p refl
by_refusal P (Some r) p q = q r refl

abbrev pub number_or : Option Refusal → ℕ
number_or None = 0
number_or (Some r) = refusal_number r

-- a fact of each row and its code
abbrev pub Each : (ℕ → Row → Type 0) → List Row → Type 0
Each P [] = Unit {0}
Each P (r ∷ rs) = P 0 r × Each (λ (n : ℕ) (s : Row). P (suc n) s) rs

each : (P : ℕ → Row → Type 0) (rs : List Row) → Each P rs → ((n : ℕ) → P n end) → (code : ℕ) → P code (get_or rs code end)
each P [] a d code = d code
each P (r ∷ rs) a d zero = a.0
each P (r ∷ rs) a d (suc code) = each (λ (n : ℕ) (s : Row). P (suc n) s) rs a.1 (λ n. d (suc n)) code

-- a code past the table has the row of 00
pub by_row : (P : ℕ → Row → Type 0) → Each P table → ((n : ℕ) → P n end) → (code : ℕ) → P code (row_of code)
unfolding row_of
by_row P a d code = each P table a d code

-- a test that holds of each row, as antt computes it over the whole table
abbrev pub all : (Row → Bool) → List Row → Bool
all test [] = true
all test (r ∷ rs) = test r && all test rs

pub by_computing : (test : Row → Bool) → T (all test table) → T (test end) → (code : ℕ) → T (test (row_of code))
unfolding row_of
by_computing test a e code = at table a code
  where
    at : (rs : List Row) → T (all test rs) → (n : ℕ) → T (test (get_or rs n end))
    at [] t n = e
    at (r ∷ rs) t zero = and_l (test r) (all test rs) t
    at (r ∷ rs) t (suc n) = at rs (and_r (test r) (all test rs) t) n
