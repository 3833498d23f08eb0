-- The claims of specs/TurnedBack.antt. What is left of a longitude without its quarters has no sign and lies below π/2, so it has no quarter turns, and taking off none
-- leaves it as it is: its sine and cosine are those that the longitude's own quarter turns turn. Products keep their sizes where a factor is negated.
use Rattle.std.proofs.Common.{◌≡◌, ℕ, zero, suc, ◌*◌, ◌%◌, ◌^◌, ◌<◌, Bool, true, false, cond, T, eqb, ℤ, pos, negsuc, sym, refl, ap, ◌∙◌, subst, inr, true≢false, mul-pos, eqb→eq, arith}
use mathlib.Core.Bool.{false≢true}
use lib.Ieee.{Float, nan, inf, fin, binary64, up, down, round, add, sub, mul, rem, neg, of_bits, of_int, lt, le, eq, ne, fits, div, to_unsigned}
use lib.Ieee.Exact.{HasValue}
use lib.Ieee.Fits.{up_pos, and_l, and_r, rem-fits}
use lib.Ieee.Scale.{finite, round_val, round_under}
use Rattle.angles.specs.Floats.{◌⊖◌, ◌⊗◌, of_nat, plus_zero, sign_of, abs_of}
use Rattle.angles.specs.Constants.{half_pi, two_pi}
use Rattle.angles.specs.Circular.{sin_cos_of, quarter_turns, turned_by, signed_sine, within_quarter_turn, sine_series, cosine_series, ◌!, sin_cos}
use Rattle.angles.specs.declared.circular.SinCos.{SinCos}
use Rattle.bounds.proofs.Order.{le_trans_at, le→below, not_nan}
use Rattle.bounds.proofs.Bounds.{Within, itself, number, widen, sub_within}
use Rattle.coo3d.specs.Vectors.{vect}
use Rattle.coo3d.specs.declared.vect3.Vect3.{Vect3}
use Rattle.coo3d.specs.LonLats.{is_longitude, is_latitude, InTurn, vec3_of}
use Rattle.coo3d.specs.Quarters.{quarter_of, lon_mod_half_pi}
use Rattle.coo3d.specs.TurnedBack.{turned_back, OfAngles, TurnedBack, TurnedBackExamples}
use Rattle.coo3d.specs.Points.{coo3_d, from_sph_coo, vect_of}
use Rattle.coo3d.specs.declared.point.Coo3D.{Coo3D}
use Rattle.angles.specs.Inverse.{horner}
use Rattle.coo3d.specs.WholeTurns.{last_of_turn}
use Rattle.coo3d.proofs.LastOfTurn.{up_to_last, longitude_in_turn}
use Rattle.coo3d.proofs.QuarterTurns.{last_of_first, by_turn, by_order}
use Rattle.coo3d.proofs.Remainders.{by_turns}
use Rattle.coo3d.proofs.LessNothing.{less_nothing}
use Rattle.bounds.proofs.Order.{neg_neg}
use Rattle.bounds.proofs.Negated.{mul_neg}

-- ---- the sign and the size of what is left

unsigned : (a c : ℕ) → T (finite (round binary64 false a c)) → sign_of (round binary64 false a c) ≡ false
unfolding sign_of
unsigned a c f = by _ _ (round binary64 false a c) (round_val binary64 a c (round_under binary64 a c f))
  where
    by : (b d : ℕ) (z : Float) → HasValue z false b d → sign_of z ≡ false
    by b d nan v = absurd v
    by b d (inf s) v = absurd v
    by b d (fin s m e) v = v.0

rest : (x : Float) → T (fits binary64 x) → Within plus_zero last_of_turn x → Within plus_zero last_of_first (x ⊖ of_nat (quarter_turns x) ⊗ half_pi)
unfolding of_bits of_int le sub mul
rest x f w =
    by_turn (λ k. Within plus_zero last_of_first (x ⊖ of_nat k ⊗ half_pi)) x f w
    (λ v. sub_within v (itself (of_nat 0 ⊗ half_pi) tt) tt)
    (λ v. sub_within v (itself (of_nat 1 ⊗ half_pi) tt) tt)
    (λ v. sub_within v (itself (of_nat 2 ⊗ half_pi) tt) tt)
    (λ v. sub_within v (itself (of_nat 3 ⊗ half_pi) tt) tt)

no_turns : {r : Float} → Within plus_zero last_of_first r → quarter_turns r ≡ 0
unfolding quarter_turns of_bits of_int mul le
no_turns {r} w = none _ _ _ (above (of_nat 3 ⊗ half_pi) refl) (above (of_nat 2 ⊗ half_pi) refl) (above (of_nat 1 ⊗ half_pi) refl)
  where
    none : (a b c : Bool) → a ≡ false → b ≡ false → c ≡ false → ◌≡◌ {A = ℕ} (cond a 3 (cond b 2 (cond c 1 0))) 0
    none a b c p q r = rw (p, q, r) refl

    above : (h : Float) → le h last_of_first ≡ false → le h r ≡ false
    above h n = by (le h r) refl
      where
        by : (b : Bool) → le h r ≡ b → b ≡ false
        by true p = absurd (rw n at (le_trans_at h r last_of_first (number w) (rw p tt) w.high))
        by false p = refl

-- ---- sine and cosine

-- of a number without a sign
plain : (x : Float) → T (finite x) → sign_of x ≡ false
    → sin_cos_of x ≡ turned_by (quarter_turns x) (within_quarter_turn (x ⊖ of_nat (quarter_turns x) ⊗ half_pi))
unfolding sin_cos_of signed_sine sign_of abs_of
plain nan f s = absurd f
plain (inf t) f s = absurd f
plain (fin true m e) f s = absurd (true≢false s)
plain (fin false m e) f s = rw (not_nan (fin false m e) tt) refl

in_first : (r : Float) → T (fits binary64 r) → Within plus_zero last_of_first r → sign_of r ≡ false → sin_cos_of r ≡ within_quarter_turn r
unfolding turned_by
in_first r f w s = plain r (number w) s ∙ rw (no_turns w, less_nothing r f (number w) s) refl

module _ (lon : Float) (f : T (fits binary64 lon)) (l : is_longitude lon ≡ true) where
  left : lon ⊖ of_nat (quarter_turns lon) ⊗ half_pi ≡ lon_mod_half_pi lon
  left = by_turns lon (inr l)

  below_turn : Within plus_zero last_of_turn lon
  unfolding is_longitude
  below_turn = up_to_last f (and_l (le plus_zero lon) (lt lon two_pi) (rw l tt)) (and_r (le plus_zero lon) (lt lon two_pi) (rw l tt))

  below_quarter : Within plus_zero last_of_first (lon_mod_half_pi lon)
  below_quarter = subst (λ (z : Float). Within plus_zero last_of_first z) left (rest lon f below_turn)

  lon_mod_in_turn : is_longitude (lon_mod_half_pi lon) ≡ true
  unfolding of_bits le
  lon_mod_in_turn = longitude_in_turn (widen below_quarter tt)

  fits_lon_mod : T (fits binary64 (lon_mod_half_pi lon))
  unfolding lon_mod_half_pi
  fits_lon_mod = rem-fits binary64 lon half_pi f

  sines_by : sign_of lon ≡ false → sign_of (lon_mod_half_pi lon) ≡ false
      → sin_cos_of lon ≡ turned_by (quarter_of lon) (sin_cos_of (lon_mod_half_pi lon))
  sines_by s t =
      let r = lon_mod_half_pi lon in
      plain lon (number below_turn) s
      ∙ ap (λ (z : Float). turned_by (quarter_turns lon) (within_quarter_turn z)) left
      ∙ ap (λ (k : ℕ). turned_by k (within_quarter_turn r)) (sym (by_order lon f (inr l)))
      ∙ ap (turned_by (quarter_of lon)) (sym (in_first r fits_lon_mod below_quarter t))

-- with no sign
of_number : (m : ℕ) (e : ℤ) → T (fits binary64 (fin false m e)) → is_longitude (fin false m e) ≡ true
    → sin_cos_of (fin false m e) ≡ turned_by (quarter_of (fin false m e)) (sin_cos_of (lon_mod_half_pi (fin false m e)))
unfolding sign_of lon_mod_half_pi rem of_bits
of_number m e f l =
    let x = fin false m e in
    let r = unsigned (m * up e * 2 ^ 49 % (884279719003555 * 1 * down e)) (down e * 2 ^ 49) (number (below_quarter x f l)) in
    sines_by x f l refl r

-- −0 has no quarter turns, and is left as it is
minus_zero : (m : ℕ) (e : ℤ) → T (fits binary64 (fin true m e)) → T (le plus_zero (fin true m e))
    → sin_cos_of (fin true m e) ≡ turned_by (quarter_of (fin true m e)) (sin_cos_of (lon_mod_half_pi (fin true m e)))
unfolding fits turned_by quarter_of lon_mod_half_pi to_unsigned div rem of_bits
minus_zero zero (pos zero) f l = refl
minus_zero zero (pos (suc k)) f l = absurd (omega (arith, eqb→eq (2 ^ suc k * 1) 1 f))
minus_zero zero (negsuc k) f l = absurd (omega (arith, eqb→eq (1 * 2 ^ suc k) 1 f))
minus_zero (suc m) e f l =
    let b = le→below plus_zero (fin true (suc m) e) tt tt l in
    let p = mul-pos (let o : 0 < suc m = omega arith in o) (up_pos e) in
    absurd (omega arith)

sines : (lon : Float) → T (fits binary64 lon) → is_longitude lon ≡ true → sin_cos_of lon ≡ turned_by (quarter_of lon) (sin_cos_of (lon_mod_half_pi lon))
unfolding is_longitude le lt of_bits
sines nan f l = absurd (false≢true l)
sines (inf true) f l = absurd (false≢true l)
sines (inf false) f l = absurd (false≢true l)
sines (fin true m e) f l = minus_zero m e f (and_l (le plus_zero (fin true m e)) (lt (fin true m e) two_pi) (rw l tt))
sines (fin false m e) f l = of_number m e f l

-- ---- the vector

module _ (c z : Float) (p : SinCos) where
  turned : (k : ℕ) → let q = turned_by k p in turned_back k (vect (c ⊗ q.cos) (c ⊗ q.sin) z) ≡ vect (c ⊗ p.cos) (c ⊗ p.sin) z
  unfolding turned_by turned_back
  turned k = by (eqb k 0) (eqb k 1) (eqb k 2)
    where
      by : (a b d : Bool)
          → let q = cond a p (cond b (sin_cos p.cos (neg p.sin)) (cond d (sin_cos (neg p.sin) (neg p.cos)) (sin_cos (neg p.cos) p.sin))) in
          let v = vect (c ⊗ q.cos) (c ⊗ q.sin) z in
          cond a v (cond b (vect v.y (neg v.x) z) (cond d (vect (neg v.x) (neg v.y) z) (vect (neg v.y) v.x z))) ≡ vect (c ⊗ p.cos) (c ⊗ p.sin) z
      by true b d = refl
      by false true d = rw (mul_neg c p.sin, neg_neg (c ⊗ p.sin)) refl
      by false false true = rw (mul_neg c p.cos, neg_neg (c ⊗ p.cos), mul_neg c p.sin, neg_neg (c ⊗ p.sin)) refl
      by false false false = rw (mul_neg c p.cos, neg_neg (c ⊗ p.cos)) refl

vector : (lon lat : Float) → T (fits binary64 lon) → is_longitude lon ≡ true
    → vec3_of (lon_mod_half_pi lon) lat ≡ turned_back (quarter_of lon) (vec3_of lon lat)
unfolding vec3_of
vector lon lat f l =
    let at_lat = sin_cos_of lat in
    sym
    (ap (λ (q : SinCos). turned_back (quarter_of lon) (vect (at_lat.cos ⊗ q.cos) (at_lat.cos ⊗ q.sin) at_lat.sin)) (sines lon f l)
    ∙ turned at_lat.cos at_lat.sin (sin_cos_of (lon_mod_half_pi lon)) (quarter_of lon))

pub turned_back_sines : TurnedBack
turned_back_sines = record { sines = sines; vector = vector }

pub turned_back_examples : TurnedBackExamples
unfolding turned_back vec3_of sin_cos_of quarter_turns turned_by signed_sine within_quarter_turn sine_series cosine_series horner ◌! abs_of sign_of of_bits of_int neg lt le eq ne add sub mul div to_unsigned quarter_of
turned_back_examples =
    record { first = (refl, refl); minus_zero = (refl, refl); second = (refl, refl); third = (refl, refl); fourth = (refl, refl) }

-- ---- the point

in_range : (lon lat : Float) → is_longitude lon ≡ true → is_latitude lat ≡ true
    → from_sph_coo lon lat ≡ (let v = vec3_of lon lat in coo3_d v.x v.y v.z lon lat)
unfolding from_sph_coo
in_range lon lat l k = rw (l, k) refl

pub of_angles : (lon lat : Float) → is_longitude lon ≡ true → is_latitude lat ≡ true → OfAngles (from_sph_coo lon lat)
of_angles lon lat l k = let i = in_range lon lat l k in subst OfAngles (sym i) (i, l, k)

-- what `in_first_quarter` needs to know of a point of angles
pub moved : (p : Coo3D) → T (fits binary64 p.lon) → OfAngles p
    → let v = turned_back p.quarter (vect_of p) in (InTurn p.lon_mod) × (coo3_d v.x v.y v.z p.lon_mod p.lat ≡ from_sph_coo p.lon_mod p.lat)
unfolding vect_of
moved p f h =
    let e = sym h.0 ∙ in_range p.lon p.lat h.1 h.2 in
    let m : p.lon_mod ≡ lon_mod_half_pi p.lon = ap (λ (q : Coo3D). q.lon_mod) e in
    let t : is_longitude p.lon_mod ≡ true = rw m (lon_mod_in_turn p.lon f h.1) in
    let v : turned_back p.quarter (vect_of p) ≡ vec3_of p.lon_mod p.lat =
    ap (λ (q : Coo3D). turned_back q.quarter (vect_of q)) e ∙ sym (vector p.lon p.lat f h.1) ∙ ap (λ (r : Float). vec3_of r p.lat) (sym m) in
    (inr t, ap (λ (v : Vect3). coo3_d v.x v.y v.z p.lon_mod p.lat) v ∙ sym (in_range p.lon_mod p.lat t h.2))
