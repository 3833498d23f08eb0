-- An f64 at least 0 and below 2π is at most `last_of_turn`; its quotient by π/2 is then at most the last f64 below 4, and its quarter 3 or less.
use Rattle.std.proofs.Common.{◌≡◌, ℕ, zero, suc, ◌+◌, ◌-◌, ◌*◌, ◌/◌, ◌%◌, ◌^◌, ◌<◌, ◌≤◌, Bool, true, false, not, ◌&&◌, T, ◌⊎◌, inl, inr, ⊎_elim, eqb, ltb, leb, pos, negsuc, sym, refl, ap, ◌∙◌, mul-le-mul_right, div-lt_iff_lt-mul, lt_of_mul-lt-mul_right, mul-lt-mul_of_pos_right, pow_pos, zero-mul, arith, lit≤, ltb→lt, leb→le, pow_mono, pow-add}
use lib.Dec.{nleb→lt}
use lib.Ieee.{Float, nan, inf, fin, binary64, div, up, down, of_bits, lt, le, fits, to_unsigned}
use lib.Ieee.Bits.{is_true}
use lib.Ieee.Fits.{down_pos, and_i, and_l, and_r}
use lib.Ieee.Scale.{finite}
use Rattle.angles.specs.Floats.{◌⊘◌, plus_zero}
use Rattle.angles.specs.Constants.{half_pi, two_pi}
use Rattle.bounds.proofs.Order.{not_less, less_le, finite_between, le_trans_at, le→below, below→le}
use Rattle.bounds.proofs.Bounds.{Within, itself, number, div_within}
use Rattle.coo3d.specs.LonLats.{is_longitude, InTurn}
use Rattle.coo3d.specs.Quarters.{quarter_of}
use Rattle.coo3d.specs.WholeTurns.{last_of_turn}

-- A value m × 2 ^ −k below (b + 1) × 2 ^ −u, both of 53 digits, is at most b of these units; or k is above u, and it is below half as much
at_most_before : (b u m k : ℕ) → 2 ^ 52 ≤ b → m < 2 ^ 53 → m * 2 ^ u < suc b * 2 ^ k → m * 2 ^ u ≤ b * 2 ^ k
at_most_before b u m k long short h = go (leb k u) (leb→le k u) (nleb→lt k u)
  where
    go : (t : Bool) → (T t → k ≤ u) → (T (not t) → u < k) → m * 2 ^ u ≤ b * 2 ^ k
    go true l g =
        let D = 2 ^ k in
        let G = 2 ^ (u - k) in
        let s : k + (u - k) ≡ u = let j = l tt in omega arith in
        let e : D * G ≡ 2 ^ u = sym (pow-add 2 k (u - k)) ∙ ap (λ (z : ℕ). 2 ^ z) s in
        let i : m * G < suc b = lt_of_mul-lt-mul_right D (omega (arith, ap (λ (z : ℕ). m * z) e)) in
        let j : m * G ≤ b = omega arith in
        omega (arith, mul-le-mul_right D j, ap (λ (z : ℕ). m * z) e)
    go false l g =
        let p : 2 ^ suc u ≤ 2 ^ k = pow_mono (g tt) in
        let q = mul-le-mul_right (2 ^ k) long in
        let r : m * 2 ^ u ≤ 2 ^ 53 * 2 ^ u = mul-le-mul_right (2 ^ u) (omega arith) in
        omega arith

-- The f64 b × 2 ^ −(i + 1) is the last one before a × 2 ^ −(j + 1).
module _ (a j b i : ℕ) (next : suc b * 2 ^ suc j ≡ a * 2 ^ suc i) (long : 2 ^ 52 ≤ b) where
  in_units : (p q : ℕ) → p * 2 ^ suc j < a * q → p * 2 ^ suc i < suc b * q
  in_units p q h =
      let l = mul-lt-mul_of_pos_right h (pow_pos (suc i)) in
      lt_of_mul-lt-mul_right (2 ^ suc j) (omega (arith, ap (λ (z : ℕ). z * q) next))

  pub value_before : (x : Float) → T (finite x) → T (fits binary64 x) → T (lt x (fin false a (negsuc j))) → T (le x (fin false b (negsuc i)))
  unfolding fits lt
  value_before nan n f h = absurd n
  value_before (inf s) n f h = absurd n
  value_before (fin true m e) n f h = below→le (fin true m e) (fin false b (negsuc i)) tt tt (omega arith)
  value_before (fin false zero e) n f h = below→le (fin false zero e) (fin false b (negsuc i)) tt tt (omega (arith, zero-mul (up e)))
  value_before (fin false (suc m) (pos k)) n f h =
      let l = in_units (suc m * 2 ^ k) 1 (omega (arith, ltb→lt (suc m * 2 ^ k * 2 ^ suc j) (a * 1 * 1) h)) in
      below→le (fin false (suc m) (pos k)) (fin false b (negsuc i)) tt tt (omega arith)
  value_before (fin false (suc m) (negsuc k)) n f h =
      let A = eqb (suc m % 2) 1 in
      let B = ltb (suc m) (2 ^ 53) in
      let C = leb (2 ^ suc k) (2 ^ 1074) in
      let D = ltb (suc m * 1) (2 ^ 1024 * 2 ^ suc k) in
      let short = ltb→lt (suc m) (2 ^ 53) (and_r A B (and_l (A && B) C (and_l (A && B && C) D f))) in
      let l = in_units (suc m) (2 ^ suc k) (omega (arith, ltb→lt (suc m * 1 * 2 ^ suc j) (a * 1 * 2 ^ suc k) h)) in
      let t = at_most_before b (suc i) (suc m) (suc k) long short l in
      below→le (fin false (suc m) (negsuc k)) (fin false b (negsuc i)) tt tt (omega arith)

pub up_to_last : {x : Float} → T (fits binary64 x) → T (le plus_zero x) → T (lt x two_pi) → Within plus_zero last_of_turn x
unfolding of_bits
up_to_last {x} f l h =
    let number = finite_between plus_zero x two_pi tt tt l (less_le x two_pi (is_true (lt x two_pi) h)) in
    record { from = tt; to = tt; low = l; high = value_before 884279719003555 46 7074237752028439 49 refl (lit≤ tt) x number f h }

-- an f64 in the turn, which may be the NaN
abbrev pub InTurnF64 : Float → Type 0
InTurnF64 lon = (lon ≡ nan) ⊎ Within plus_zero last_of_turn lon

pub of_f64 : (lon : Float) → T (fits binary64 lon) → InTurn lon → InTurnF64 lon
unfolding is_longitude
of_f64 lon f = ⊎_elim inl (λ h. inr (up_to_last f (and_l (le plus_zero lon) (lt lon two_pi) (rw h tt)) (and_r (le plus_zero lon) (lt lon two_pi) (rw h tt))))

pub longitude_in_turn : {x : Float} → Within plus_zero last_of_turn x → is_longitude x ≡ true
unfolding is_longitude of_bits le
longitude_in_turn {x} w = is_true (le plus_zero x && lt x two_pi) (and_i (le plus_zero x) (lt x two_pi) w.low (by (lt x two_pi) refl))
  where
    by : (b : Bool) → lt x two_pi ≡ b → T b
    by true h = tt
    by false h = absurd (le_trans_at two_pi x last_of_turn (number w) (not_less x two_pi (number w) tt h) w.high)

-- ---- the quarter

below_four : Float
below_four = of_bits binary64 0x400f_ffff_ffff_ffff

quotient : {x : Float} → Within plus_zero last_of_turn x → Within plus_zero below_four (x ⊘ half_pi)
unfolding of_bits le div below_four
quotient w = div_within w (itself half_pi tt) tt tt

whole_part : (x : Float) → T (le x below_four) → to_unsigned 8 x < 4
unfolding to_unsigned le of_bits below_four
whole_part nan h = absurd h
whole_part (inf true) h = lit≤ tt
whole_part (inf false) h = absurd h
whole_part (fin true m e) h = lit≤ tt
whole_part (fin false m e) h =
    let b = le→below (fin false m e) below_four tt tt h in
    let d : m * up e / down e < 4 = (div-lt_iff_lt-mul (down_pos e)).1 (let p = down_pos e in omega arith) in
    omega arith

pub quarter_in_turn : {x : Float} → Within plus_zero last_of_turn x → quarter_of x < 4
unfolding quarter_of
quarter_in_turn {x} w = whole_part (x ⊘ half_pi) (quotient w).high

pub quarter_of_nan : quarter_of nan < 4
unfolding quarter_of to_unsigned div
quarter_of_nan = lit≤ tt
