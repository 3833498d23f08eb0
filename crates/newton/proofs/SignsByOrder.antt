-- What an answer says of the slopes at both ends: each lies on a side of 0 that its test tells, for every height of the normal between bounds of the norm.
use mathlib.Core.Path.{◌≡◌, refl, sym, ap, ◌∙◌, subst}
use mathlib.Core.Bool.{Bool, true, false, not, cond, ◌&&◌, ◌||◌, true≢false}
use lib.Dec.{T}
use Rattle.std.specs.Bool.{beq}
use Prim.Native.Nat.{ℕ}
use native.Mathlib.Omega.{arith}
use lib.Ieee.{eq, Float, binary64, round, add, sub, mul, div, neg, of_bits, lt, le, fits}
use lib.Ieee.Positive.{positive, positive-finite, between}
use lib.Ieee.Scale.{finite}
use Rattle.root.specs.Root.{root_of}
use Rattle.root_rule.proofs.Nearest.{root_is_nearer}
use Rattle.angles.specs.Floats.{◌⊗◌, ◌⊘◌, plus_zero, one, sign_of, abs_of}
use Rattle.angles.specs.Constants.{four}
use Rattle.bounds.proofs.Order.{le_trans_any, le_less_trans, less_le, finite_between}
use Rattle.bounds.proofs.Bounds.{Within, number, itself, mul_within}
use Rattle.bounds.proofs.Squares.{root_from, root_to, positive_value, positive_of, positive_over, zero_finite, quotient_high, quotient_low}
use Rattle.bounds.proofs.Sizes.{abs_div, abs_finite, below_finite, fits_abs, Sized, value_size, div_mono, sized_by_test, abs_value, mul_value, div_value, zero_under}
use Rattle.newton.specs.Slopes.{have_same_sign, slope_at, f_eqr, cone_of, terms_of}
use Rattle.newton.specs.Regions.{slope_in_eqr, cte_eqr}
use Rattle.newton.specs.Sides.{SideConstants, SidesExamples, size_at, radicand_at, sides_of, below_cte, above_cte}
use Rattle.newton.specs.Signs.{SignsExamples, Told, same_sign_at}
use Rattle.newton.proofs.SlopeParts.{three_quarters, end_of, twice, one_finite}
use Rattle.newton.proofs.SlopeSides.{slope_at_height, Clear, same_sides, other_sides, below_clear, above_clear}

-- ---- both ends
tell_same : (σ : Bool) {d1 d2 : Float} (b1 b2 a1 a2 : Bool) → (b1 ≡ true → Clear σ d1) → (b2 ≡ true → Clear σ d2)
    → (a1 ≡ true → Clear (not σ) d1) → (a2 ≡ true → Clear (not σ) d2)
    → (b1 && b2 || a1 && a2) ≡ true → have_same_sign d1 d2 ≡ true
tell_same σ true true a1 a2 p q r t h = same_sides σ (p refl) (q refl)
tell_same σ true false true true p q r t h = same_sides (not σ) (r refl) (t refl)
tell_same σ true false true false p q r t h = absurd (true≢false (sym h))
tell_same σ true false false a2 p q r t h = absurd (true≢false (sym h))
tell_same σ false b2 true true p q r t h = same_sides (not σ) (r refl) (t refl)
tell_same σ false b2 true false p q r t h = absurd (true≢false (sym h))
tell_same σ false b2 false a2 p q r t h = absurd (true≢false (sym h))

tell_differ : (σ : Bool) {d1 d2 : Float} (b1 b2 a1 a2 : Bool) → (b1 ≡ true → Clear σ d1) → (b2 ≡ true → Clear σ d2)
    → (a1 ≡ true → Clear (not σ) d1) → (a2 ≡ true → Clear (not σ) d2)
    → (b1 && a2 || a1 && b2) ≡ true → have_same_sign d1 d2 ≡ false
tell_differ σ true b2 a1 true p q r t h = other_sides σ (p refl) (t refl)
tell_differ σ true true true false p q r t h = other_sides (not σ) (r refl) (rw (twice σ) (q refl))
tell_differ σ true false true false p q r t h = absurd (true≢false (sym h))
tell_differ σ true b2 false false p q r t h = absurd (true≢false (sym h))
tell_differ σ false true true a2 p q r t h = other_sides (not σ) (r refl) (rw (twice σ) (q refl))
tell_differ σ false false true a2 p q r t h = absurd (true≢false (sym h))
tell_differ σ false b2 false a2 p q r t h = absurd (true≢false (sym h))

upper_finite : {x : Float} → Within plus_zero four x → T (finite (x ⊗ x))
unfolding of_bits le mul sign_of
upper_finite {x} w = let t : Within plus_zero (four ⊗ four) (x ⊗ x) = mul_within w w tt in number t

four_positive : T (positive four)
unfolding of_bits
four_positive = tt

product_finite : {x y : Float} → Within plus_zero one x → Within plus_zero four y → T (finite (x ⊗ y))
unfolding of_bits le mul sign_of
product_finite {x} {y} w v = let t : Within plus_zero four (x ⊗ y) = mul_within w v tt in number t

one_positive : T (positive one)
unfolding of_bits
one_positive = tt

-- what is tested of the bounds lo and hi of the norm, and l and u of the height
record Bounded (s cz lo hi l u : Float) : Type 0 where
  s_held : T (fits binary64 s)
  cz_held : T (fits binary64 cz)
  lo_held : T (fits binary64 lo)
  hi_held : T (fits binary64 hi)
  l_held : T (fits binary64 l)
  u_held : T (fits binary64 u)
  lo_up : lt plus_zero lo ≡ true
  lo_hi : T (le lo hi)
  hi_most : T (le hi four)
  lo_square : lt (lo ⊗ lo) s ≡ true
  hi_square : lt s (hi ⊗ hi) ≡ true
  l_up : lt plus_zero l ≡ true
  l_u : T (le l u)
  u_most : T (le u one)
  l_product : lt (l ⊗ hi) (abs_of cz) ≡ true
  u_product : lt (abs_of cz) (u ⊗ lo) ≡ true

of_size : {s cz lo hi l u : Float} (c : Float) → abs_of c ≡ abs_of cz → Bounded s cz lo hi l u → Bounded s c lo hi l u
of_size {s} {cz} {lo} {hi} {l} {u} c e b =
    record {
      s_held = b.s_held;
      cz_held = subst T (sym (fits_abs cz) ∙ ap (λ (x : Float). fits binary64 x) (sym e) ∙ fits_abs c) b.cz_held;
      lo_held = b.lo_held;
      hi_held = b.hi_held;
      l_held = b.l_held;
      u_held = b.u_held;
      lo_up = b.lo_up;
      lo_hi = b.lo_hi;
      hi_most = b.hi_most;
      lo_square = b.lo_square;
      hi_square = b.hi_square;
      l_up = b.l_up;
      l_u = b.l_u;
      u_most = b.u_most;
      l_product = rw e b.l_product;
      u_product = rw e b.u_product;
    }

record Height (cz z0 l u : Float) : Type 0 where
  sized : Sized (lt z0 plus_zero) l u z0
  l_in : Within plus_zero one l
  u_in : Within plus_zero one u

height : {s cz lo hi l u : Float} → Bounded s cz lo hi l u → Height cz (cz ⊘ root_of s) l u
height {s} {cz} {lo} {hi} {l} {u} b =
    let zero_lo = less_le plus_zero lo b.lo_up in
    let zero_l = less_le plus_zero l b.l_up in
    let four_fin = positive-finite four four_positive in
    let LO : Within plus_zero four lo = record { from = zero_finite; to = four_fin; low = zero_lo; high = le_trans_any lo hi four b.lo_hi b.hi_most } in
    let HI : Within plus_zero four hi = record { from = zero_finite; to = four_fin; low = le_trans_any plus_zero lo hi zero_lo b.lo_hi; high = b.hi_most } in
    let L : Within plus_zero one l = record { from = zero_finite; to = one_finite; low = zero_l; high = le_trans_any l u one b.l_u b.u_most } in
    let U : Within plus_zero one u = record { from = zero_finite; to = one_finite; low = le_trans_any plus_zero l u zero_l b.l_u; high = b.u_most } in
    let plo = positive_of lo (number LO) b.lo_up in
    let phi = between lo hi four plo four_positive b.lo_hi b.hi_most in
    let vlo = positive_value lo b.lo_held plo in
    let vhi = positive_value hi b.hi_held phi in
    let pl = positive_of l (number L) b.l_up in
    let vl = positive_value l b.l_held pl in
    let vu = positive_value u b.u_held (between l u one pl one_positive b.l_u b.u_most) in
    let vll = mul_value lo lo vlo vlo (upper_finite LO) in
    let zero_ll = zero_under (lo ⊗ lo) (value_size (lo ⊗ lo) vll) in
    let fs = finite_between plus_zero s (hi ⊗ hi) zero_finite (upper_finite HI) (le_trans_any plus_zero (lo ⊗ lo) s zero_ll (less_le (lo ⊗ lo) s b.lo_square)) (less_le s (hi ⊗ hi) b.hi_square) in
    let ps = positive_of s fs (le_less_trans plus_zero (lo ⊗ lo) s zero_finite fs zero_ll b.lo_square) in
    let r = root_of s in
    let lo_r = root_from lo s vlo b.s_held ps b.lo_square in
    let r_hi = root_to hi s vhi b.s_held ps b.hi_square in
    let vr = (root_is_nearer s b.s_held ps).value in
    let pr = positive_over lo r plo vr.1 lo_r in
    let fc = below_finite cz (u ⊗ lo) (product_finite U LO) b.u_product in
    let a = abs_of cz in
    let va = abs_value cz b.cz_held fc in
    let sa = value_size a va in
    let aa = (itself a sa.is).low in
    let X : Within l u (a ⊘ r) =
    record {
      from = number L;
      to = number U;
      low = le_trans_any l (a ⊘ hi) (a ⊘ r) (quotient_low l hi a vl va phi b.l_product) (div_mono hi r sa sa (number HI) pr aa r_hi);
      high = le_trans_any (a ⊘ r) (a ⊘ lo) u (div_mono r lo sa sa (positive-finite r pr) plo aa lo_r) (quotient_high u lo a vu va plo b.u_product);
    } in
    let is = abs_div cz r fc pr (div_value a r va pr (finite_between l (a ⊘ r) u (number L) (number U) X.low X.high)) in
    let f0 = abs_finite (cz ⊘ r) (rw is (number X)) in
    record { sized = sized_by_test (cz ⊘ r) f0 vl vu (rw is X); l_in = L; u_in = U }

-- an end's height as it is tested
record Low (z : Float) : Type 0 where
  held : T (fits binary64 z)
  low : T (le (abs_of z) three_quarters)

module _ (s cz lo hi l u z1 z2 : Float) (b : Bounded s cz lo hi l u) (e1 : Low z1) (e2 : Low z2) where
  abbrev z0 : Float
  z0 = cz ⊘ root_of s

  is_below : (z : Float) → Low z → below_cte z u ≡ true → Clear (lt z0 plus_zero) (slope_at_height z0 z)
  is_below z e = let h = height b in below_clear z z0 l u (end_of z e.held e.low) h.sized h.l_in h.u_in

  is_above : (z : Float) → Low z → above_cte z l u ≡ true → Clear (not (lt z0 plus_zero)) (slope_at_height z0 z)
  is_above z e = let h = height b in above_clear z z0 l u (end_of z e.held e.low) h.sized h.l_in h.u_in

  same : (below_cte z1 u && below_cte z2 u || above_cte z1 l u && above_cte z2 l u) ≡ true → have_same_sign (slope_at_height z0 z1) (slope_at_height z0 z2) ≡ true
  same h =
      tell_same (lt z0 plus_zero) (below_cte z1 u) (below_cte z2 u) (above_cte z1 l u) (above_cte z2 l u) (is_below z1 e1) (is_below z2 e2) (is_above z1 e1) (is_above z2 e2) h

  differ : (below_cte z1 u && above_cte z2 l u || above_cte z1 l u && below_cte z2 u) ≡ true → have_same_sign (slope_at_height z0 z1) (slope_at_height z0 z2) ≡ false
  differ h =
      tell_differ (lt z0 plus_zero) (below_cte z1 u) (below_cte z2 u) (above_cte z1 l u) (above_cte z2 l u) (is_below z1 e1) (is_below z2 e2) (is_above z1 e1) (is_above z2 e2) h

-- ---- the code's tests, taken apart
all_of : (a b : Bool) → (a && b) ≡ true → (a ≡ true) × (b ≡ true)
all_of true b h = (refl, h)
all_of false b h = absurd (true≢false (sym h))

holds : (b : Bool) → b ≡ true → T b
holds b h = rw h tt

pub record Tested (s cz lo hi l u z1 z2 : Float) : Type 0 where
  bounds : Bounded s cz lo hi l u
  first : Low z1
  second : Low z2

module _ (s cz lo hi l u z1 z2 : Float) (hs : T (fits binary64 s)) (hc : T (fits binary64 cz)) (hlo : T (fits binary64 lo)) (hhi : T (fits binary64 hi)) (hl : T (fits binary64 l)) (hu : T (fits binary64 u)) (hz1 : T (fits binary64 z1)) (hz2 : T (fits binary64 z2)) where
  pub tested : ((lt plus_zero lo && le lo hi && le hi four && lt (lo ⊗ lo) s && lt s (hi ⊗ hi))
      && (lt plus_zero l && le l u && le u one && lt (l ⊗ hi) (abs_of cz) && lt (abs_of cz) (u ⊗ lo))
      && (le (abs_of z1) three_quarters && le (abs_of z2) three_quarters)) ≡ true
      → Tested s cz lo hi l u z1 z2
  tested h =
      let all = all_of _ _ h in
      let both = all_of _ _ all.0 in
      let n4 = all_of _ _ both.0 in
      let n3 = all_of _ _ n4.0 in
      let n2 = all_of _ _ n3.0 in
      let n1 = all_of _ _ n2.0 in
      let h4 = all_of _ _ both.1 in
      let h3 = all_of _ _ h4.0 in
      let h2 = all_of _ _ h3.0 in
      let h1 = all_of _ _ h2.0 in
      let z = all_of _ _ all.1 in
      record {
        bounds =
            record {
              s_held = hs;
              cz_held = hc;
              lo_held = hlo;
              hi_held = hhi;
              l_held = hl;
              u_held = hu;
              lo_up = n1.0;
              lo_hi = holds (le lo hi) n1.1;
              hi_most = holds (le hi four) n2.1;
              lo_square = n3.1;
              hi_square = n4.1;
              l_up = h1.0;
              l_u = holds (le l u) h1.1;
              u_most = holds (le u one) h2.1;
              l_product = h3.1;
              u_product = h4.1;
            };
        first = record { held = hz1; low = holds (le (abs_of z1) three_quarters) z.0 };
        second = record { held = hz2; low = holds (le (abs_of z2) three_quarters) z.1 };
      }

abbrev chosen : Bool → Bool → ℕ
chosen p q = cond p 1 (cond q 2 0)

answer : {X Y : Type 0} (p q : Bool) → (p ≡ true → X) → (q ≡ true → Y) → (chosen p q ≡ 1 → X) × (chosen p q ≡ 2 → Y)
answer true q f g = (λ h. f refl, λ h. absurd (omega (arith, h)))
answer false true f g = (λ h. absurd (omega (arith, h)), λ h. g refl)
answer false false f g = (λ h. absurd (omega (arith, h)), λ h. absurd (omega (arith, h)))

-- of every height of this size
at_height : {s cz lo hi l u z1 z2 : Float} → Tested s cz lo hi l u z1 z2 → (c : Float) → abs_of c ≡ abs_of cz
    → (sides_of z1 z2 l u ≡ 1 → same_sign_at (c ⊘ root_of s) z1 z2 ≡ true) × (sides_of z1 z2 l u ≡ 2 → same_sign_at (c ⊘ root_of s) z1 z2 ≡ false)
unfolding sides_of
at_height {s} {cz} {lo} {hi} {l} {u} {z1} {z2} t c e =
    let b = of_size c e t.bounds in
    answer (below_cte z1 u && below_cte z2 u || above_cte z1 l u && above_cte z2 l u) (below_cte z1 u && above_cte z2 l u || above_cte z1 l u && below_cte z2 u)
    (same s c lo hi l u z1 z2 b t.first t.second)
    (differ s c lo hi l u z1 z2 b t.first t.second)

pub told : {s cz lo hi l u z1 z2 : Float} → Tested s cz lo hi l u z1 z2 → Told (sides_of z1 z2 l u) s cz z1 z2
told t = record { same = λ h c e. (at_height t c e).0 h; differ = λ h c e. (at_height t c e).1 h }

-- ---- the ends in the other order
or_comm : (a b c : Bool) → (a || b || c) ≡ (b || a || c)
or_comm true true c = refl
or_comm true false c = refl
or_comm false true c = refl
or_comm false false c = refl

beq_comm : (a b : Bool) → beq a b ≡ beq b a
beq_comm true true = refl
beq_comm true false = refl
beq_comm false true = refl
beq_comm false false = refl

same_sign_comm : (d1 d2 : Float) → have_same_sign d1 d2 ≡ have_same_sign d2 d1
unfolding have_same_sign
same_sign_comm d1 d2 =
    or_comm (eq d1 plus_zero) (eq d2 plus_zero) (beq (lt plus_zero d1) (lt plus_zero d2))
    ∙ ap (λ (x : Bool). eq d2 plus_zero || eq d1 plus_zero || x) (beq_comm (lt plus_zero d1) (lt plus_zero d2))

pub told_exchanged : {n : ℕ} {s cz z1 z2 : Float} → Told n s cz z1 z2 → Told n s cz z2 z1
told_exchanged t =
    record { same = λ h c e. same_sign_comm _ _ ∙ t.same h c e; differ = λ h c e. same_sign_comm _ _ ∙ t.differ h c e }

-- ---- the constants, and examples
pub side_constants : SideConstants
unfolding cte_eqr of_bits round lt mul
side_constants =
    record {
      under_is = refl;
      under_inverse_is = refl;
      over_is = refl;
      over_inverse_is = refl;
      above_under = refl;
      below_over = refl;
    }

pub sides_examples : SidesExamples
unfolding sides_of below_cte above_cte size_at radicand_at of_bits lt neg add sub mul div
sides_examples = record { both_below = refl; both_above = refl; one_each = refl; one_unclear = refl; nan_end = refl; nan_normal = refl }

pub signs_examples : SignsExamples
unfolding slope_in_eqr slope_at f_eqr cone_of terms_of cte_eqr have_same_sign root_of of_bits lt eq neg add sub mul div
signs_examples = record { same = refl; differ = refl }
