-- Document 01, "Root and angles": sine and cosine, on every float. Definitions only.
use Rattle.std.specs.Prelude.{Float, eqb, ℕ, zero, suc, ◌*◌, Bool, cond, [], ◌∷◌}
use Rattle.std.specs.Float.{nan}
use Rattle.std.specs.Float.Ieee.{neg, le, lt, ne}
use Rattle.angles.specs.declared.circular.SinCos.{SinCos}
use Rattle.angles.specs.Floats.{◌⊖◌, ◌⊗◌, of_nat, one, sign_of, abs_of}
use Rattle.angles.specs.Constants.{half_pi, quarter_pi}
use Rattle.angles.specs.Inverse.{over, minus_over, horner}

abbrev pub sin_cos : Float → Float → SinCos
sin_cos s c = record { sin = s; cos = c }

-- n!
infixl 90 ◌!
unfoldable pub ◌! : ℕ → ℕ
zero ! = 1
suc n ! = suc n * n !

-- Taylor's series in r×r, highest power first: sine to power 17, times r last
unfoldable pub sine_series : Float → Float
sine_series r =
    horner (r ⊗ r) (over (17 !))
    (minus_over (15 !) ∷ over (13 !) ∷ minus_over (11 !) ∷ over (9 !) ∷ minus_over (7 !) ∷ over (5 !) ∷ minus_over (3 !) ∷ one ∷ [])
    ⊗ r

-- cosine to power 18
unfoldable pub cosine_series : Float → Float
cosine_series r =
    horner (r ⊗ r) (minus_over (18 !))
    (over (16 !) ∷ minus_over (14 !) ∷ over (12 !) ∷ minus_over (10 !) ∷ over (8 !) ∷ minus_over (6 !) ∷ over (4 !) ∷ minus_over (2 !) ∷ one ∷ [])

-- if r > π/4, either is the other's series at π/2 − r
unfoldable pub within_quarter_turn : Float → SinCos
within_quarter_turn r =
    cond (lt quarter_pi r)
    (sin_cos (cosine_series (half_pi ⊖ r)) (sine_series (half_pi ⊖ r)))
    (sin_cos (sine_series r) (cosine_series r))

-- k is the largest of 0..3 with k×(π/2) ≤ |v|
unfoldable pub quarter_turns : Float → ℕ
quarter_turns a =
    cond (le (of_nat 3 ⊗ half_pi) a) 3
    (cond (le (of_nat 2 ⊗ half_pi) a) 2
    (cond (le (of_nat 1 ⊗ half_pi) a) 1 0))

-- for k = 0..3: (s, c), (c, −s), (−s, −c), (−c, s)
unfoldable pub turned_by : ℕ → SinCos → SinCos
turned_by k p =
    cond (eqb k 0) p
    (cond (eqb k 1) (sin_cos p.cos (neg p.sin))
    (cond (eqb k 2) (sin_cos (neg p.sin) (neg p.cos))
    (sin_cos (neg p.cos) p.sin)))

-- a set sign bit of v negates the sine
unfoldable pub signed_sine : Bool → SinCos → SinCos
signed_sine set p = cond set (sin_cos (neg p.sin) p.cos) p

-- both NaN for a NaN v; else with r = |v| − k×(π/2)
unfoldable pub sin_cos_of : Float → SinCos
sin_cos_of v =
    cond (ne v v) (sin_cos nan nan)
    (let k = quarter_turns (abs_of v) in
    signed_sine (sign_of v) (turned_by k (within_quarter_turn (abs_of v ⊖ of_nat k ⊗ half_pi))))
