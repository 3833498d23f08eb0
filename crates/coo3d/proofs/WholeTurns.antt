-- The claims of specs/WholeTurns.antt. An angle of `atan2` lies from −π to π (crate bounds), so it is never 2π. With 2π added a negative one lies from 0 to 2π, and one
-- that is not 2π then lies below it; any other angle lies from 0 to π.
use Rattle.std.proofs.Common.{◌≡◌, ◌<◌, Bool, true, false, cond, ◌&&◌, ◌||◌, T, ◌⊎◌, sym, refl, subst, inl, inr, ⊎_elim}
use lib.Ieee.{Float, nan, binary64, neg, add, of_bits, lt, le, eq, fits}
use lib.Ieee.Bits.{of_bits-fits}
use lib.Ieee.Fits.{and_l, and_r, add-fits}
use Rattle.angles.specs.Floats.{◌⊕◌, plus_zero}
use Rattle.angles.specs.Constants.{pi, two_pi}
use Rattle.angles.specs.Inverse.{atan2_of}
use Rattle.bounds.specs.Ranges.{between}
use Rattle.bounds.proofs.Order.{not_less, less_le, equal_le, le_trans_at}
use Rattle.bounds.proofs.Bounds.{Within, itself, number, widen, add_within}
use Rattle.bounds.proofs.Ranges.{ranges}
use Rattle.coo3d.specs.LonLats.{is_longitude, is_latitude, lon_of, lon_lat_of, vec3_of, InTurn}
use Rattle.coo3d.specs.Points.{coo3_d, from_vec3, from_sph_coo}
use Rattle.coo3d.specs.Quarters.{quarter_of}
use Rattle.coo3d.specs.WholeTurns.{WholeTurns, last_of_turn}
use Rattle.coo3d.specs.declared.vect3.Vect3.{Vect3}
use Rattle.coo3d.specs.declared.lonlat.LonLat.{LonLat}
use Rattle.coo3d.proofs.LastOfTurn.{InTurnF64, up_to_last, of_f64, longitude_in_turn, quarter_in_turn, quarter_of_nan}

-- ---- the longitude

angle : {a : Float} → between (neg pi) pi a ≡ true → Within (neg pi) pi a
unfolding between of_bits neg
angle {a} h = record { from = tt; to = tt; low = and_l (le (neg pi) a) (le a pi) (rw h tt); high = and_r (le (neg pi) a) (le a pi) (rw h tt) }

-- from 0 to π
upper_half : {a : Float} → Within (neg pi) pi a → lt a plus_zero ≡ false → Within plus_zero pi a
unfolding of_bits
upper_half {a} w h = record { from = tt; to = w.to; low = not_less a plus_zero (number w) tt h; high = w.high }

below_half : {a : Float} → Within plus_zero pi a → Within plus_zero last_of_turn a
unfolding of_bits le
below_half w = widen w tt

-- below 0, with 2π added
lower_half : {a : Float} → Within (neg pi) pi a → lt a plus_zero ≡ true → Within (neg pi) plus_zero a
unfolding of_bits
lower_half {a} w h = record { from = w.from; to = tt; low = w.low; high = less_le a plus_zero h }

up_to_turn : {a : Float} → Within (neg pi) plus_zero a → Within plus_zero two_pi (a ⊕ two_pi)
unfolding of_bits le neg add
up_to_turn w = add_within w (itself two_pi tt) tt

below_turn : {s : Float} → T (fits binary64 s) → Within plus_zero two_pi s → Within plus_zero last_of_turn (cond (eq s two_pi) plus_zero s)
unfolding of_bits le
below_turn {s} f w = by (eq s two_pi) (lt s two_pi) refl w.high
  where
    by : (e l : Bool) → lt s two_pi ≡ l → T (l || e) → Within plus_zero last_of_turn (cond e plus_zero s)
    by true l p h = record { from = tt; to = tt; low = tt; high = tt }
    by false true p h = up_to_last f w.low (rw p tt)
    by false false p h = absurd h

of_angle : (a : Float) → (a ≡ nan) ⊎ (between (neg pi) pi a ≡ true)
    → InTurnF64 (cond (lt a plus_zero) (cond (eq (a ⊕ two_pi) two_pi) plus_zero (a ⊕ two_pi)) a)
unfolding lt
of_angle a = ⊎_elim (λ h. inl (rw h refl)) (λ h. inr (by (angle h) (lt a plus_zero) refl))
  where
    by : Within (neg pi) pi a → (b : Bool) → lt a plus_zero ≡ b
        → Within plus_zero last_of_turn (cond b (cond (eq (a ⊕ two_pi) two_pi) plus_zero (a ⊕ two_pi)) a)
    by w true h = below_turn (add-fits binary64 a two_pi) (up_to_turn (lower_half w h))
    by w false h = below_half (upper_half w h)

lon_in_turn : (x y : Float) → InTurnF64 (lon_of x y)
unfolding lon_of
lon_in_turn x y = of_angle (atan2_of y x) (ranges.atan2_range y x)

in_turn : {lon : Float} → InTurnF64 lon → InTurn lon
in_turn = ⊎_elim inl (λ w. inr (longitude_in_turn w))

longitude : (x y : Float) → InTurn (lon_of x y)
longitude x y = in_turn (lon_in_turn x y)

-- what the contracts of `lon_of` and `lonlat_of` say of a result
pub lon_promised : (x y r : Float) → r ≡ lon_of x y → (r ≡ lon_of x y) × InTurn r
lon_promised x y r e = (e, subst InTurn (sym e) (longitude x y))

pub lonlat_promised : (x y z : Float) (r : LonLat) → r ≡ lon_lat_of x y z → (r ≡ lon_lat_of x y z) × InTurn r.lon
unfolding lon_lat_of
lonlat_promised x y z r e = (e, subst (λ (p : LonLat). InTurn p.lon) (sym e) (longitude x y))

-- ---- no angle is 2π

up_to_half : (a : Float) → Within (neg pi) pi a → eq a two_pi ≡ false
unfolding le of_bits
up_to_half a w = by (eq a two_pi) refl
  where
    by : (b : Bool) → eq a two_pi ≡ b → b ≡ false
    by true h = absurd (le_trans_at two_pi a pi (number w) (equal_le a two_pi (number w) tt (rw h tt)) w.high)
    by false h = refl

-- ---- the quarters

quarter_of_lem : {lon : Float} → InTurnF64 lon → quarter_of lon < 4
quarter_of_lem = ⊎_elim (λ h. rw h quarter_of_nan) quarter_in_turn

of_vec3 : (x y z : Float) → quarter_of (from_vec3 x y z).lon < 4
unfolding from_vec3 lon_lat_of
of_vec3 x y z = quarter_of_lem (lon_in_turn x y)

pub whole_turns : WholeTurns
unfolding from_sph_coo eq
whole_turns =
    record {
      longitude = longitude;
      no_angle_of_a_turn = λ y x. ⊎_elim (λ h. rw h refl) (λ h. up_to_half (atan2_of y x) (angle h)) (ranges.atan2_range y x);
      quarter = λ lon f h. quarter_of_lem (of_f64 lon f h);
      quarter_of_vec3 = of_vec3;
      quarter_of_sph_coo = λ lon lat f. by lon lat f (vec3_of lon lat) (is_longitude lon) (is_latitude lat) refl;
      each_fits = of_bits-fits binary64;
    }
  where
    by : (lon lat : Float) → T (fits binary64 lon) → (v : Vect3) (a b : Bool) → is_longitude lon ≡ a
        → quarter_of (cond (a && b) (coo3_d v.x v.y v.z lon lat) (from_vec3 v.x v.y v.z)).lon < 4
    by lon lat f v true true h = quarter_of_lem (of_f64 lon f (inr h))
    by lon lat f v true false h = of_vec3 v.x v.y v.z
    by lon lat f v false b h = of_vec3 v.x v.y v.z
