-- What the angle functions never leave: `Ranges` (specs/Ranges.antt). Each is followed operation by operation, from the ends of its argument to
-- those of its result, by the bounds of the operations (proofs/Bounds.antt); that the ends suffice is computed.
use Rattle.std.proofs.Common.{◌≡◌, ℕ, zero, suc, ◌*◌, ◌<◌, Bool, true, false, cond, ◌&&◌, T, eqb, ◌⊎◌, List, [], ◌∷◌, ℤ, refl, inl, inr, mul-pos, zero-mul, arith, lt→ltb}
use mathlib.Core.Bool.{false≢true}
use lib.Ieee.{Float, nan, inf, fin, binary64, add, sub, mul, div, neg, up, down, of_bits, of_int, lt, eq, le, fits}
use lib.Ieee.Fits.{up_pos, down_pos, and_i, and_l, and_r, add-fits}
use lib.Ieee.Bits.{is_true}
use lib.Ieee.Scale.{finite}
use lib.Ieee.Positive.{positive}
use Rattle.root.specs.Root.{root_of}
use Rattle.angles.specs.Floats.{◌⊕◌, ◌⊖◌, ◌⊗◌, ◌⊘◌, of_nat, plus_zero, one, sign_of, finite_of, abs_of}
use Rattle.angles.specs.Constants.{half, two, three, four, pi, half_pi, quarter_pi, two_pi}
use Rattle.angles.specs.Inverse.{over, minus_over, horner, half_angle, arctangent_of, first_quadrant, reflected_of, atan2_of}
use Rattle.angles.specs.Circular.{◌!, sine_series, cosine_series, within_quarter_turn, quarter_turns, turned_by, signed_sine, sin_cos, sin_cos_of}
use Rattle.angles.specs.declared.circular.SinCos.{SinCos}
use Rattle.bounds.specs.Ranges.{between, Ranges}
use Rattle.bounds.proofs.Order.{not_above, not_less, less_le, le→below, zero_least, not_nan}
use Rattle.bounds.proofs.Bounds.{Ends, Within, within, number, covers, covered, at_itself, itself, constant, widen, least, largest}
use Rattle.bounds.proofs.Bounds.{add_ends, add_within, sub_within, neg_within, mul_ends, mul_within, div_within, ratio_within}
use Rattle.bounds.proofs.Bounds.{root_within, signed_within}

-- ---- a sum by Horner's rule

-- for a u from 0 to d: the sum's ends, step by step, are finite, and the last ones lie between a and b
unfoldable horner_covers : Float → Float → Float → List Float → Float → Float → Bool
horner_covers d lo hi [] a b = covers a b lo hi
horner_covers d lo hi (k ∷ ks) a b =
    let l = least lo d in
    let h = largest hi d in
    finite lo && finite hi && finite l && finite h && finite k && horner_covers d (l ⊕ k) (h ⊕ k) ks a b

horner_within : {d lo hi u s a b : Float} (ks : List Float) → Within plus_zero d u → Ends lo hi s
    → T (horner_covers d lo hi ks a b)
    → Within a b (horner u s ks)
unfolding horner_covers horner
horner_within [] w e t = covered e t
horner_within {d} {lo} {hi} {u} {s} {a} {b} (k ∷ ks) w e t =
    let l = least lo d in
    let h = largest hi d in
    let t5 = and_l (finite lo && finite hi && finite l && finite h && finite k) (horner_covers d (l ⊕ k) (h ⊕ k) ks a b) t in
    let t4 = and_l (finite lo && finite hi && finite l && finite h) (finite k) t5 in
    let t3 = and_l (finite lo && finite hi && finite l) (finite h) t4 in
    let t2 = and_l (finite lo && finite hi) (finite l) t3 in
    let v = within e (and_l (finite lo) (finite hi) t2) (and_r (finite lo) (finite hi) t2) in
    let m = within (mul_ends v w) (and_r (finite lo && finite hi) (finite l) t3) (and_r (finite lo && finite hi && finite l) (finite h) t4) in
    horner_within {lo = l ⊕ k} {hi = h ⊕ k} {s = s ⊗ u ⊕ k} ks w
    (add_ends m (itself k (and_r (finite lo && finite hi && finite l && finite h) (finite k) t5)))
    (and_r (finite lo && finite hi && finite l && finite h && finite k) (horner_covers d (l ⊕ k) (h ⊕ k) ks a b) t)

-- ---- arctangent

quarter : Float
quarter = of_bits binary64 0x3fd0_0000_0000_0000

sixteenth : Float
sixteenth = of_bits binary64 0x3fb0_0000_0000_0000

-- from the tangent of an angle to that of its half
half_angle_lem : {b c t : Float}
    → Within plus_zero b t
    → T (covers plus_zero one plus_zero b)
    → T (covers plus_zero c plus_zero (b ⊘ two))
    → Within plus_zero c (half_angle t)
unfolding half_angle of_bits le add mul div fits sign_of
half_angle_lem {b} {c} {t} w i j =
    let v : Within plus_zero one t = widen w i in
    let u : Within plus_zero one (t ⊗ t) = mul_within v v tt in
    let z : Within one two (one ⊕ t ⊗ t) = add_within (itself one tt) u tt in
    let r : Within one two (root_of (one ⊕ t ⊗ t)) = root_within one two (tt, tt) (tt, tt) (add-fits binary64 one (t ⊗ t)) z tt tt tt tt in
    let d : Within two three (one ⊕ root_of (one ⊕ t ⊗ t)) = add_within (itself one tt) r tt in
    div_within w d tt j

-- the arctangent of a number from 0 to 1
abbrev arctangent_terms : List Float
arctangent_terms =
    over 21 ∷ minus_over 19 ∷ over 17 ∷ minus_over 15 ∷ over 13 ∷ minus_over 11 ∷ over 9 ∷ minus_over 7 ∷ over 5 ∷ minus_over 3 ∷ one ∷ []

arctangent_series : {u : Float} → Within plus_zero sixteenth u → Within half one (horner u (minus_over 23) arctangent_terms)
unfolding horner_covers of_bits of_int le add mul div neg sign_of sixteenth
arctangent_series w = horner_within {lo = minus_over 23} {hi = minus_over 23} arctangent_terms w (at_itself (minus_over 23) tt) tt

arctangent : {t₀ : Float} → Within plus_zero one t₀ → Within plus_zero one (arctangent_of t₀)
unfolding arctangent_of of_bits of_int le mul div sign_of quarter sixteenth
arctangent {t₀} w =
    let t = half_angle (half_angle t₀) in
    let v : Within plus_zero quarter t = half_angle_lem (half_angle_lem {c = half} w tt tt) tt tt in
    let s : Within half one (horner (t ⊗ t) (minus_over 23) arctangent_terms) = arctangent_series (mul_within v v tt) in
    let p : Within plus_zero quarter (horner (t ⊗ t) (minus_over 23) arctangent_terms ⊗ t) = mul_within s v tt in
    mul_within p (constant {b = four} (of_nat 4) tt tt) tt

-- ---- atan2

-- of two numbers that have no sign and are not both zero, the larger is above zero
larger_positive : (m : ℕ) (e : ℤ) (n : ℕ) (d : ℤ)
    → (T (eq (fin false m e) plus_zero) → T (eq (fin false n d) plus_zero) → ⊥)
    → T (le (fin false m e) (fin false n d))
    → T (positive (fin false n d))
unfolding eq of_bits
larger_positive m e (suc n) d h l = lt→ltb 0 (suc n) (omega arith)
larger_positive zero e zero d h l = h (simp zero-mul tt) (simp zero-mul tt)
larger_positive (suc m) e zero d h l =
    let b = le→below (fin false (suc m) e) (fin false 0 d) tt tt l in
    let p : 0 < suc m * up e * down d = mul-pos (mul-pos {m = suc m} (let o : 0 < suc m = omega arith in o) (up_pos e)) (down_pos d) in
    absurd (omega (arith, zero-mul (up d)))

from_half_pi : {a : Float} → Within plus_zero one a → Within plus_zero half_pi (half_pi ⊖ a)
unfolding of_bits le sub
from_half_pi w = sub_within (itself half_pi tt) w tt

-- the angle of a point in the first quadrant, from 0 to π/2
module _ (m : ℕ) (e : ℤ) (n : ℕ) (d : ℤ) where
  abbrev y : Float
  y = fin false m e

  abbrev x : Float
  x = fin false n d

  first_quadrant_lem : Within plus_zero half_pi (first_quadrant y x)
  unfolding first_quadrant of_bits le sign_of
  first_quadrant_lem = by (eq y plus_zero && eq x plus_zero) (le y x) refl refl
    where
      by : (z l : Bool) → (eq y plus_zero && eq x plus_zero) ≡ z → le y x ≡ l
          → Within plus_zero half_pi (cond z plus_zero (cond l (arctangent_of (y ⊘ x)) (half_pi ⊖ arctangent_of (x ⊘ y))))
      by true l p q = constant plus_zero tt tt
      by false true p q =
          let l : T (le y x) = rw q tt in
          let above = larger_positive m e n d (λ a b. rw p at (and_i (eq y plus_zero) (eq x plus_zero) a b)) l in
          widen (arctangent (ratio_within y x (zero_least y tt refl) l above)) tt
      by false false p q =
          let l : T (le x y) = not_above y x tt tt q in
          let above = larger_positive n d m e (λ a b. rw p at (and_i (eq y plus_zero) (eq x plus_zero) b a)) l in
          from_half_pi (arctangent (ratio_within x y (zero_least x tt refl) l above))

reflected : {a : Float} (set : Bool) → Within plus_zero half_pi a → Within plus_zero pi (reflected_of set a)
unfolding reflected_of of_bits le sub
reflected true w = sub_within (itself pi tt) w tt
reflected false w = widen w tt

-- "NaN if either isn't finite", and else from −π to π
atan2_finite : (y x : Float) → T (finite y) → T (finite x) → Within (neg pi) pi (atan2_of y x)
unfolding atan2_of finite_of abs_of of_bits le neg
atan2_finite nan x f g = absurd f
atan2_finite (inf s) x f g = absurd f
atan2_finite (fin s m e) nan f g = absurd g
atan2_finite (fin s m e) (inf t) f g = absurd g
atan2_finite (fin s m e) (fin t n d) f g =
    signed_within (sign_of (fin s m e)) (reflected (sign_of (fin t n d)) (first_quadrant_lem m e n d)) tt tt

-- ---- sine and cosine

abbrev sine_terms : List Float
sine_terms = minus_over (15 !) ∷ over (13 !) ∷ minus_over (11 !) ∷ over (9 !) ∷ minus_over (7 !) ∷ over (5 !) ∷ minus_over (3 !) ∷ one ∷ []

abbrev cosine_terms : List Float
cosine_terms = over (16 !) ∷ minus_over (14 !) ∷ over (12 !) ∷ minus_over (10 !) ∷ over (8 !) ∷ minus_over (6 !) ∷ over (4 !) ∷ minus_over (2 !) ∷ one ∷ []

square : {r : Float} → Within plus_zero quarter_pi r → Within plus_zero one (r ⊗ r)
unfolding of_bits le mul sign_of
square w = mul_within w w tt

sine_terms_lem : {u : Float} → Within plus_zero one u → Within plus_zero one (horner u (over (17 !)) sine_terms)
unfolding horner_covers ◌! of_bits of_int le add mul div neg sign_of
sine_terms_lem w = horner_within {lo = over (17 !)} {hi = over (17 !)} sine_terms w (at_itself (over (17 !)) tt) tt

cosine_terms_lem : {u : Float} → Within plus_zero one u → Within plus_zero one (horner u (minus_over (18 !)) cosine_terms)
unfolding horner_covers ◌! of_bits of_int le add mul div neg sign_of
cosine_terms_lem w = horner_within {lo = minus_over (18 !)} {hi = minus_over (18 !)} cosine_terms w (at_itself (minus_over (18 !)) tt) tt

sine_series_lem : {r : Float} → Within plus_zero quarter_pi r → Within plus_zero one (sine_series r)
unfolding sine_series of_bits le mul sign_of
sine_series_lem w = mul_within (sine_terms_lem (square w)) w tt

cosine_series_lem : {r : Float} → Within plus_zero quarter_pi r → Within plus_zero one (cosine_series r)
unfolding cosine_series
cosine_series_lem w = cosine_terms_lem (square w)

-- sine and cosine from −1 to 1
record InUnit (p : SinCos) : Type 0 where
  sine : Within (neg one) one p.sin
  cosine : Within (neg one) one p.cos

from_zero : {x : Float} → Within plus_zero one x → Within (neg one) one x
unfolding of_bits le neg
from_zero w = widen w tt

turned : {x : Float} → Within (neg one) one x → Within (neg one) one (neg x)
unfolding of_bits le neg
turned w = widen (neg_within w) tt

in_quarter_turn : {r : Float} → Within plus_zero half_pi r → InUnit (within_quarter_turn r)
unfolding within_quarter_turn of_bits le sub
in_quarter_turn {r} w = by (lt quarter_pi r) refl
  where
    by : (l : Bool) → lt quarter_pi r ≡ l
        → InUnit (cond l (sin_cos (cosine_series (half_pi ⊖ r)) (sine_series (half_pi ⊖ r))) (sin_cos (sine_series r) (cosine_series r)))
    by true h =
        let v : Within quarter_pi half_pi r = record { from = tt; to = tt; low = less_le quarter_pi r h; high = w.high } in
        let q : Within plus_zero quarter_pi (half_pi ⊖ r) = sub_within (itself half_pi tt) v tt in
        record { sine = from_zero (cosine_series_lem q); cosine = from_zero (sine_series_lem q) }
    by false h =
        let v : Within plus_zero quarter_pi r = record { from = tt; to = tt; low = w.low; high = not_less quarter_pi r tt (number w) h } in
        record { sine = from_zero (sine_series_lem v); cosine = from_zero (cosine_series_lem v) }

-- what is left after the quarter turns
rest : {a : Float} → Within plus_zero two_pi a → Within plus_zero half_pi (a ⊖ of_nat (quarter_turns a) ⊗ half_pi)
unfolding quarter_turns of_bits of_int le sub mul
rest {a} w = by (le (of_nat 3 ⊗ half_pi) a) (le (of_nat 2 ⊗ half_pi) a) (le (of_nat 1 ⊗ half_pi) a) refl refl refl
  where
    up_to : {lo : Float} (hi : Float) → T (finite lo) → T (finite hi) → T (le lo a) → le hi a ≡ false → Within lo hi a
    up_to hi f g l h = record { from = f; to = g; low = l; high = not_above hi a g (number w) h }

    by : (x y z : Bool) → le (of_nat 3 ⊗ half_pi) a ≡ x → le (of_nat 2 ⊗ half_pi) a ≡ y → le (of_nat 1 ⊗ half_pi) a ≡ z
        → Within plus_zero half_pi (a ⊖ of_nat (cond x 3 (cond y 2 (cond z 1 0))) ⊗ half_pi)
    by true y z p q r =
        let v : Within (of_nat 3 ⊗ half_pi) two_pi a = record { from = tt; to = tt; low = rw p tt; high = w.high } in
        sub_within v (itself (of_nat 3 ⊗ half_pi) tt) tt
    by false true z p q r =
        let v : Within (of_nat 2 ⊗ half_pi) (of_nat 3 ⊗ half_pi) a = up_to (of_nat 3 ⊗ half_pi) tt tt (rw q tt) p in
        sub_within v (itself (of_nat 2 ⊗ half_pi) tt) tt
    by false false true p q r =
        let v : Within (of_nat 1 ⊗ half_pi) (of_nat 2 ⊗ half_pi) a = up_to (of_nat 2 ⊗ half_pi) tt tt (rw r tt) q in
        sub_within v (itself (of_nat 1 ⊗ half_pi) tt) tt
    by false false false p q r =
        let v : Within plus_zero (of_nat 1 ⊗ half_pi) a = up_to (of_nat 1 ⊗ half_pi) tt tt w.low r in
        sub_within v (itself (of_nat 0 ⊗ half_pi) tt) tt

turned_by_lem : (k : ℕ) {p : SinCos} → InUnit p → InUnit (turned_by k p)
unfolding turned_by
turned_by_lem k {p} i = by (eqb k 0) (eqb k 1) (eqb k 2)
  where
    by : (x y z : Bool)
        → InUnit
        (cond x p
        (cond y (sin_cos p.cos (neg p.sin))
        (cond z (sin_cos (neg p.sin) (neg p.cos)) (sin_cos (neg p.cos) p.sin))))
    by true y z = i
    by false true z = record { sine = i.cosine; cosine = turned i.sine }
    by false false true = record { sine = turned i.sine; cosine = turned i.cosine }
    by false false false = record { sine = turned i.cosine; cosine = i.sine }

signed : (set : Bool) {p : SinCos} → InUnit p → InUnit (signed_sine set p)
unfolding signed_sine
signed true i = record { sine = turned i.sine; cosine = i.cosine }
signed false i = i

sin_cos_lem : (v : Float) → T (le (abs_of v) two_pi) → InUnit (sin_cos_of v)
unfolding sin_cos_of abs_of sign_of of_bits le
sin_cos_lem nan h = absurd h
sin_cos_lem (inf s) h = absurd h
sin_cos_lem (fin s m e) h =
    let w : Within plus_zero two_pi (fin false m e) = record { from = tt; to = tt; low = zero_least (fin false m e) tt refl; high = h } in
    rw (not_nan (fin s m e) tt) (signed s (turned_by_lem (quarter_turns (fin false m e)) (in_quarter_turn (rest w))))

-- ---- the claim

between_of : {lo hi x : Float} → Within lo hi x → between lo hi x ≡ true
unfolding between
between_of {lo} {hi} {x} w = is_true (le lo x && le x hi) (and_i (le lo x) (le x hi) w.low w.high)

finite_of_lem : (x : Float) → finite_of x ≡ true → T (finite x)
unfolding finite_of
finite_of_lem nan h = absurd (false≢true h)
finite_of_lem (inf s) h = absurd (false≢true h)
finite_of_lem (fin s m e) h = tt

pub ranges : Ranges
unfolding atan2_of
ranges =
    record {
      atan2_finite = λ y x f g. between_of (atan2_finite y x (finite_of_lem y f) (finite_of_lem x g));
      atan2_range = λ y x. by y x (finite_of y) (finite_of x) refl refl;
      sine_range = λ v h. between_of (sin_cos_lem v (rw h tt)).sine;
      cosine_range = λ v h. between_of (sin_cos_lem v (rw h tt)).cosine;
    }
  where
    by : (y x : Float) (s t : Bool) → finite_of y ≡ s → finite_of x ≡ t → (atan2_of y x ≡ nan) ⊎ (between (neg pi) pi (atan2_of y x) ≡ true)
    by y x true true p q = inr (between_of (atan2_finite y x (finite_of_lem y p) (finite_of_lem x q)))
    by y x true false p q = inl (simp (p, q))
    by y x false t p q = inl (simp p)
