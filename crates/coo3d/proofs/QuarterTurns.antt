-- The quarter of a longitude in the turn is the number of its quarter turns: below a whole number of them it is at most the f64 before that number, whose quotient by
-- π/2 still rounds below the number; and from there on it rounds to no less.
use Rattle.std.proofs.Common.{◌≡◌, ℕ, suc, ◌*◌, ◌/◌, ◌^◌, ◌<◌, ◌≤◌, Bool, true, false, cond, T, ⊎_elim, negsuc, sym, refl, ap, ◌∙◌, mul-pos, mul-le-mul_right, le_of_mul-le-mul_right, lt_of_mul-lt-mul_right, mul-lt-mul_of_pos_right, arith, lit≤}
use native.Mathlib.Nat.{div-eq_of_lt-le}
use lib.Ieee.{Float, nan, inf, fin, binary64, div, mul, of_bits, of_int, up, down, le, fits, to_unsigned}
use lib.Ieee.Fits.{down_pos}
use lib.Ieee.Positive.{den, den_pos}
use lib.Ieee.Scale.{finite}
use Rattle.angles.specs.Floats.{◌⊖◌, ◌⊗◌, ◌⊘◌, of_nat, plus_zero}
use Rattle.angles.specs.Constants.{half_pi}
use Rattle.angles.specs.Circular.{quarter_turns}
use Rattle.bounds.proofs.Order.{plus_of, minus_of, le→below, above, finite_between, not_nan, no_factor}
use Rattle.bounds.proofs.Bounds.{Within, number}
use Rattle.bounds.proofs.Rounding.{rounds_le, div_rounds}
use Rattle.coo3d.specs.LonLats.{InTurn}
use Rattle.coo3d.specs.Quarters.{quarter_of, lon_mod_half_pi}
use Rattle.coo3d.specs.WholeTurns.{last_of_turn}
use Rattle.coo3d.proofs.LastOfTurn.{value_before, of_f64}
use Rattle.coo3d.proofs.Remainders.{by_turns}

-- the order of quotients is that of what is divided
quotients : (x y : Float) → T (finite x) → T (finite y) → T (le x y) → T (le (x ⊘ half_pi) (y ⊘ half_pi))
unfolding of_bits
quotients x y f g l =
    let b = mul-le-mul_right (den half_pi * plus_of half_pi) (le→below x y f g l) in
    rounds_le _ _ _ _ _ _ (mul-pos (lit≤ tt) (den_pos x)) (mul-pos (lit≤ tt) (den_pos y))
    (div_rounds x half_pi f tt (lit≤ tt)) (div_rounds y half_pi g tt (lit≤ tt))
    (omega arith)

-- from k, and below k + 1
whole_part : (k : ℕ) (lo hi q : Float) → k < 4
    → T (finite lo) → T (finite hi) → T (finite q)
    → plus_of lo ≡ k * den lo → minus_of lo ≡ 0 → plus_of hi < suc k * den hi
    → T (le lo q) → T (le q hi)
    → to_unsigned 8 q ≡ k
unfolding to_unsigned
whole_part k lo hi nan s f g n p z h a b = absurd n
whole_part k lo hi (inf t) s f g n p z h a b = absurd n
whole_part k lo hi (fin true m e) s f g n p z h a b =
    let l = le→below lo (fin true m e) f tt a in
    let none : k * den lo * down e ≡ 0 = omega (arith, ap (λ (t : ℕ). t * down e) p, ap (λ (t : ℕ). t * down e) z) in
    sym (no_factor k (den lo) (den_pos lo) (no_factor (k * den lo) (down e) (down_pos e) none))
whole_part k lo hi (fin false m e) s f g n p z h a b =
    let l = le→below lo (fin false m e) f tt a in
    let i = le→below (fin false m e) hi tt g b in
    let from : k * down e ≤ m * up e =
    le_of_mul-le-mul_right (omega (arith, ap (λ (t : ℕ). t * down e) p, ap (λ (t : ℕ). t * down e) z)) (den_pos lo) in
    let to : m * up e < suc k * down e =
    lt_of_mul-lt-mul_right (den hi) (omega (arith, mul-lt-mul_of_pos_right h (down_pos e))) in
    let d : m * up e / down e ≡ k = div-eq_of_lt-le (down e) from (omega arith) in
    omega arith

-- the last f64 before one, two and three quarter turns
abbrev pub last_of_first : Float
last_of_first = fin false 7074237752028439 (negsuc 51)

abbrev pub last_of_second : Float
last_of_second = fin false 7074237752028439 (negsuc 50)

abbrev pub last_of_third : Float
last_of_third = fin false 5305678314021329 (negsuc 49)

-- what holds from each number of quarter turns up to the f64 before one more
pub by_turn : (P : ℕ → Type 0) (x : Float) → T (fits binary64 x) → Within plus_zero last_of_turn x
    → (Within plus_zero last_of_first x → P 0)
    → (Within (of_nat 1 ⊗ half_pi) last_of_second x → P 1)
    → (Within (of_nat 2 ⊗ half_pi) last_of_third x → P 2)
    → (Within (of_nat 3 ⊗ half_pi) last_of_turn x → P 3)
    → P (quarter_turns x)
unfolding quarter_turns of_bits of_int mul le
by_turn P x f w p0 p1 p2 p3 = by (le (of_nat 3 ⊗ half_pi) x) (le (of_nat 2 ⊗ half_pi) x) (le (of_nat 1 ⊗ half_pi) x) refl refl refl
  where
    before : (a j b i : ℕ) → suc b * 2 ^ suc j ≡ a * 2 ^ suc i → 2 ^ 52 ≤ b → le (fin false a (negsuc j)) x ≡ false → T (le x (fin false b (negsuc i)))
    before a j b i e l h = value_before a j b i e l x (number w) f (rw (above (fin false a (negsuc j)) x (not_nan (fin false a (negsuc j)) tt) (not_nan x (number w)) h) tt)

    by : (a b c : Bool) → le (of_nat 3 ⊗ half_pi) x ≡ a → le (of_nat 2 ⊗ half_pi) x ≡ b → le (of_nat 1 ⊗ half_pi) x ≡ c
        → P (cond a 3 (cond b 2 (cond c 1 0)))
    by true b c p q r = p3 (record { from = tt; to = tt; low = rw p tt; high = w.high })
    by false true c p q r =
        p2 (record { from = tt; to = tt; low = rw q tt; high = before 2652839157010665 48 5305678314021329 49 refl (lit≤ tt) p })
    by false false true p q r =
        p1 (record { from = tt; to = tt; low = rw r tt; high = before 884279719003555 47 7074237752028439 50 refl (lit≤ tt) q })
    by false false false p q r =
        p0 (record { from = tt; to = tt; low = w.low; high = before 884279719003555 48 7074237752028439 51 refl (lit≤ tt) r })

-- the quarter of an x from k quarter turns up to the f64 before one more
counted : (k : ℕ) {lo hi x : Float} → Within lo hi x → k < 4
    → T (finite (lo ⊘ half_pi)) → T (finite (hi ⊘ half_pi))
    → plus_of (lo ⊘ half_pi) ≡ k * den (lo ⊘ half_pi) → minus_of (lo ⊘ half_pi) ≡ 0 → plus_of (hi ⊘ half_pi) < suc k * den (hi ⊘ half_pi)
    → quarter_of x ≡ k
unfolding quarter_of
counted k {lo} {hi} {x} w s i j p z h =
    let from = quotients lo x w.from (number w) w.low in
    let to = quotients x hi (number w) w.to w.high in
    whole_part k (lo ⊘ half_pi) (hi ⊘ half_pi) (x ⊘ half_pi) s i j (finite_between (lo ⊘ half_pi) (x ⊘ half_pi) (hi ⊘ half_pi) i j from to) p z h from to

of_number : (x : Float) → T (fits binary64 x) → Within plus_zero last_of_turn x → quarter_of x ≡ quarter_turns x
unfolding of_bits of_int mul div
of_number x f w =
    by_turn (λ k. quarter_of x ≡ k) x f w
    (λ v. counted 0 v (lit≤ tt) tt tt refl refl (lit≤ tt))
    (λ v. counted 1 v (lit≤ tt) tt tt refl refl (lit≤ tt))
    (λ v. counted 2 v (lit≤ tt) tt tt refl refl (lit≤ tt))
    (λ v. counted 3 v (lit≤ tt) tt tt refl refl (lit≤ tt))

of_nan : quarter_of nan ≡ quarter_turns nan
unfolding quarter_of to_unsigned div quarter_turns le mul of_int of_bits
of_nan = refl

pub by_order : (lon : Float) → T (fits binary64 lon) → InTurn lon → quarter_of lon ≡ quarter_turns lon
by_order lon f h = ⊎_elim (λ e. rw e of_nan) (of_number lon f) (of_f64 lon f h)

pub by_difference : (lon : Float) → T (fits binary64 lon) → InTurn lon → lon ⊖ of_nat (quarter_of lon) ⊗ half_pi ≡ lon_mod_half_pi lon
by_difference lon f h = ap (λ (k : ℕ). lon ⊖ of_nat k ⊗ half_pi) (by_order lon f h) ∙ by_turns lon h
