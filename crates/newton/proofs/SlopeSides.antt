-- On which side of 0 a slope lies, by the tests of specs/Sides.antt: the last root and quotient are bounded by products, as rounding keeps order (crate bounds,
-- proofs/Squares.antt).
use mathlib.Core.Path.{◌≡◌, refl, subst}
use mathlib.Core.Bool.{Bool, true, false, not, ◌&&◌}
use Prim.Native.Nat.{◌*◌, ◌<◌}
use native.Mathlib.Nat.{mul-pos}
use native.Mathlib.Omega.{arith}
use lib.Dec.{T, ltb, ltb→lt, lt→ltb, lit≤}
use borrow.Author.Tests.{ne_eqb}
use lib.Ieee.{Float, nan, inf, fin, binary64, up, down, add, sub, mul, neg, of_bits, lt, le, eq, fits}
use lib.Ieee.Fits.{up_pos, and_l, and_r, sub-fits}
use lib.Ieee.Bits.{is_true}
use lib.Ieee.Positive.{positive, above, above_of_le}
use lib.Ieee.Scale.{finite}
use Rattle.root.specs.Root.{root_of}
use Rattle.root_rule.specs.Nearest.{Value}
use Rattle.root_rule.proofs.Nearest.{root_is_nearer}
use Rattle.angles.specs.Floats.{◌⊖◌, ◌⊗◌, ◌⊘◌, plus_zero, one, sign_of}
use Rattle.angles.specs.Constants.{two, three}
use Rattle.bounds.proofs.Order.{le_trans_any, less_le_trans, le_less_trans, neg_neg, neg_mono}
use Rattle.bounds.proofs.Bounds.{Within, number, itself, constant, above_zero, add_ends, sub_within, mul_within, neg_within, div_low}
use Rattle.bounds.proofs.Squares.{root_from, root_to, root_positive, quotient_high, quotient_low, positive_of, positive_over, zero_finite}
use Rattle.bounds.proofs.Sizes.{factor_positive, Sized, sgn, div_sgn, sized_number, size_of, value_size, div_mono, mul_value, zero_under}
use Rattle.newton.specs.Slopes.{cone_of, terms_of, f_eqr, have_same_sign, slope_at}
use Rattle.newton.specs.Regions.{cte_eqr, slope_in_eqr}
use Rattle.newton.specs.Sides.{size_at, radicand_at, under, under_inverse, over, over_inverse, below_cte, above_cte}
use Rattle.newton.proofs.SlopeParts.{coarse, End, size_even, parts}

-- the slope at the height z of the great circle whose normal has the height z0
abbrev pub slope_at_height : Float → Float → Float
slope_at_height z0 z = slope_at (slope_in_eqr z0) z

-- ---- a slope that is clearly above 0, or below
pub record Clear (t : Bool) (x : Float) : Type 0 where
  pub side : lt plus_zero x ≡ t
  pub off : eq x plus_zero ≡ false

clear_up : (c x : Float) → T (positive c) → T (le c x) → Clear true x
unfolding lt eq of_bits
clear_up c x p h = go x (above_of_le c x p h)
  where
    go : (x : Float) → T (above x) → Clear true x
    go nan a = absurd a
    go (inf true) a = absurd a
    go (inf false) a = record { side = refl; off = refl }
    go (fin true m e) a = absurd a
    go (fin false m e) a =
        let P : 0 < m * up e * 1 = mul-pos (mul-pos (ltb→lt 0 m a) (up_pos e)) (lit≤ tt) in
        record {
          side = is_true (ltb (0 * 1 * down e) (m * up e * 1)) (lt→ltb (0 * 1 * down e) (m * up e * 1) (omega arith));
          off = rw (ne_eqb (m * up e * 1) (0 * 1 * down e) (λ (z : m * up e * 1 ≡ 0 * 1 * down e). omega arith));
        }

clear_down : (c x : Float) → T (positive c) → T (le x (neg c)) → Clear false x
unfolding lt eq of_bits neg
clear_down c x p h = go x (above_of_le c (neg x) p (subst (λ (t : Float). T (le t (neg x))) (neg_neg c) (neg_mono x (neg c) h)))
  where
    go : (x : Float) → T (above (neg x)) → Clear false x
    go nan a = absurd a
    go (inf true) a = record { side = refl; off = refl }
    go (inf false) a = absurd a
    go (fin false m e) a = absurd a
    go (fin true m e) a =
        let P : 0 < m * up e * 1 = mul-pos (mul-pos (ltb→lt 0 m a) (up_pos e)) (lit≤ tt) in
        record { side = refl; off = rw (ne_eqb (m * up e * 1) (0 * 1 * down e) (λ (z : m * up e * 1 ≡ 0 * 1 * down e). omega arith)) }

-- 2⁻¹²
abbrev slack : Float
slack = of_bits binary64 0x3f30_0000_0000_0000

slope_below : (s : Bool) (v : Float) → Within plus_zero under (sgn s v) → Clear s (v ⊖ cte_eqr s)
unfolding cte_eqr of_bits le sub add mul neg
slope_below false v w =
    let x : Within (neg two) (neg slack) (v ⊖ cte_eqr false) = sub_within w (itself (cte_eqr false) tt) tt in
    clear_down slack (v ⊖ cte_eqr false) tt x.high
slope_below true v w =
    let n : Within (neg under) (neg plus_zero) v = rw neg_neg at (neg_within w) in
    let x : Within slack two (v ⊖ cte_eqr true) = sub_within n (itself (cte_eqr true) tt) tt in
    clear_up slack (v ⊖ cte_eqr true) tt x.low

slope_above : (s : Bool) (v : Float) → T (le over (sgn s v)) → Clear (not s) (v ⊖ cte_eqr s)
unfolding cte_eqr of_bits le sub add mul neg eq lt
slope_above s nan h = absurd (no_nan s h)
  where
    no_nan : (s : Bool) → T (le over (sgn s nan)) → ⊥
    no_nan true h = h
    no_nan false h = h
slope_above false (inf true) h = absurd h
slope_above false (inf false) h = record { side = refl; off = refl }
slope_above true (inf true) h = record { side = refl; off = refl }
slope_above true (inf false) h = absurd h
slope_above false (fin t m e) h =
    let v = fin t m e in
    let w : Within over v v = record { from = tt; to = tt; low = h; high = (itself v tt).high } in
    clear_up (over ⊖ cte_eqr false) (v ⊖ cte_eqr false) tt ((add_ends w (itself (neg (cte_eqr false)) tt)).low)
slope_above true (fin t m e) h =
    let v = fin t m e in
    let k : T (le v (neg over)) = subst (λ (x : Float). T (le x (neg over))) (neg_neg v) (neg_mono over (neg v) h) in
    let w : Within v (neg over) v = record { from = tt; to = tt; low = (itself v tt).low; high = k } in
    clear_down (over ⊖ cte_eqr false) (v ⊖ cte_eqr true) tt ((add_ends w (itself (neg (cte_eqr true)) tt)).high)

-- ---- an end's slope by the two tests
pub same_sides : (s : Bool) {d1 d2 : Float} → Clear s d1 → Clear s d2 → have_same_sign d1 d2 ≡ true
unfolding have_same_sign
same_sides true a b = simp (a.off, b.off, a.side, b.side)
same_sides false a b = simp (a.off, b.off, a.side, b.side)

pub other_sides : (s : Bool) {d1 d2 : Float} → Clear s d1 → Clear (not s) d2 → have_same_sign d1 d2 ≡ false
unfolding have_same_sign
other_sides true a b = simp (a.off, b.off, a.side, b.side)
other_sides false a b = simp (a.off, b.off, a.side, b.side)

closed_value : Value under × Value over × Value under_inverse × Value over_inverse
unfolding of_bits fits
closed_value = ((tt, tt), (tt, tt), (tt, tt), (tt, tt))

scaled_finite : {x : Float} → Within plus_zero three x → T (finite (x ⊗ under_inverse)) × T (finite (x ⊗ over_inverse))
unfolding of_bits le mul sign_of
scaled_finite {x} w =
    let a : Within plus_zero three (x ⊗ under_inverse) = mul_within w (constant {a = plus_zero} {b = one} under_inverse tt tt) tt in
    let b : Within plus_zero three (x ⊗ over_inverse) = mul_within w (constant {a = plus_zero} {b = one} over_inverse tt tt) tt in
    (number a, number b)

size_in : {z u : Float} → End z → Within plus_zero one u → Within plus_zero three (size_at z u)
size_in {z} {u} e U = rw (size_even u e) ((coarse e.y_in e.w_in U).size)

square_finite : {x : Float} → Within plus_zero three x → T (finite (x ⊗ under_inverse ⊗ (x ⊗ under_inverse))) × T (finite (x ⊗ over_inverse ⊗ (x ⊗ over_inverse)))
unfolding of_bits le mul sign_of
square_finite {x} w =
    let a : Within plus_zero three (x ⊗ under_inverse) = mul_within w (constant {a = plus_zero} {b = one} under_inverse tt tt) tt in
    let b : Within plus_zero three (x ⊗ over_inverse) = mul_within w (constant {a = plus_zero} {b = one} over_inverse tt tt) tt in
    let aa : Within plus_zero (three ⊗ three) (x ⊗ under_inverse ⊗ (x ⊗ under_inverse)) = mul_within a a tt in
    let bb : Within plus_zero (three ⊗ three) (x ⊗ over_inverse ⊗ (x ⊗ over_inverse)) = mul_within b b tt in
    (number aa, number bb)

module _ (z z0 l u : Float) (e : End z) (Z : Sized (lt z0 plus_zero) l u z0) (L : Within plus_zero one l) (U : Within plus_zero one u) where
  abbrev s : Bool
  s = lt z0 plus_zero

  abbrev size : Float
  size = z0 ⊖ z ⊘ (one ⊖ z ⊗ z) ⊗ (plus_zero ⊖ z ⊗ z0)

  abbrev radicand : Float
  radicand = (one ⊖ z0 ⊗ z0) ⊗ (one ⊖ z ⊗ z) ⊖ (plus_zero ⊖ z ⊗ z0) ⊗ (plus_zero ⊖ z ⊗ z0)

  pub below_clear : below_cte z u ≡ true → Clear s (slope_at_height z0 z)
  unfolding below_cte slope_at slope_in_eqr f_eqr terms_of cone_of
  below_clear h =
      let p = parts e Z L U in
      let pu = size_at z u in
      let g = pu ⊗ under_inverse in
      let A = lt (g ⊗ g) (radicand_at z u) in
      let B = lt pu (under ⊗ g) in
      let hh : T (A && B) = rw h tt in
      let a : A ≡ true = is_true A (and_l A B hh) in
      let b : B ≡ true = is_true B (and_r A B hh) in
      let vu = p.size.to in
      let w = size_in e U in
      let vg = mul_value pu under_inverse vu closed_value.2 ((scaled_finite w).0) in
      let vgg = mul_value g g vg vg ((square_finite w).0) in
      let pg = factor_positive under g pu closed_value.0 vg w.low b in
      let fr = number p.radicand in
      let gr = less_le_trans (g ⊗ g) (radicand_at z u) radicand ((square_finite w).0) fr a p.radicand.low in
      let pr = positive_of radicand fr (le_less_trans plus_zero (g ⊗ g) radicand zero_finite fr (zero_under (g ⊗ g) (value_size (g ⊗ g) vgg)) gr) in
      let held = sub-fits binary64 ((one ⊖ z0 ⊗ z0) ⊗ (one ⊖ z ⊗ z)) ((plus_zero ⊖ z ⊗ z0) ⊗ (plus_zero ⊖ z ⊗ z0)) in
      let r = root_of radicand in
      let le_r = root_from g radicand vg held pr gr in
      let vr = (root_is_nearer radicand held pr).value in
      let pos = positive_over g r pg vr.1 le_r in
      let x = sgn s size in
      let sx = size_of p.size in
      let top = quotient_high under g pu closed_value.0 vu pg b in
      let low = div_low x r sx.is ((value_size r vr).is) sx.no ((above_zero r pos).1) in
      let high = le_trans_any (x ⊘ r) (pu ⊘ g) under (div_mono r g sx (value_size pu vu) ((value_size r vr).is) pg p.size.size.high le_r) top in
      slope_below s (size ⊘ r) (rw (← div_sgn s size r (sized_number p.size) pos) (record { from = zero_finite; to = (value_size under closed_value.0).is; low = low; high = high }))

  pub above_clear : above_cte z l u ≡ true → Clear (not s) (slope_at_height z0 z)
  unfolding above_cte slope_at slope_in_eqr f_eqr terms_of cone_of
  above_clear h =
      let p = parts e Z L U in
      let pl = size_at z l in
      let g = pl ⊗ over_inverse in
      let A = lt (radicand_at z l) (g ⊗ g) in
      let B = lt (over ⊗ g) pl in
      let C = lt plus_zero (radicand_at z u) in
      let hh : T (A && B && C) = rw h tt in
      let ab = and_l (A && B) C hh in
      let a : A ≡ true = is_true A (and_l A B ab) in
      let b : B ≡ true = is_true B (and_r A B ab) in
      let c : C ≡ true = is_true C (and_r (A && B) C hh) in
      let vl = p.size.from in
      let w = size_in e L in
      let vg = mul_value pl over_inverse vl closed_value.3 ((scaled_finite w).1) in
      let fr = number p.radicand in
      let gr = le_less_trans radicand (radicand_at z l) (g ⊗ g) fr ((square_finite w).1) p.radicand.high a in
      let up = less_le_trans plus_zero (radicand_at z u) radicand zero_finite fr c p.radicand.low in
      let pr = positive_of radicand fr up in
      let held = sub-fits binary64 ((one ⊖ z0 ⊗ z0) ⊗ (one ⊖ z ⊗ z)) ((plus_zero ⊖ z ⊗ z0) ⊗ (plus_zero ⊖ z ⊗ z0)) in
      let r = root_of radicand in
      let r_le = root_to g radicand vg held pr gr in
      let pos = root_positive radicand held pr up in
      let pg = positive_over r g pos vg.1 r_le in
      let x = sgn s size in
      let sx = size_of p.size in
      let bottom = quotient_low over g pl closed_value.1 vl pg b in
      let low = le_trans_any over (pl ⊘ g) (x ⊘ r) bottom (div_mono g r (value_size pl vl) sx ((value_size g vg).is) pos p.size.size.low r_le) in
      slope_above s (size ⊘ r) (rw (← div_sgn s size r (sized_number p.size) pos) low)
