-- The parts of dα/dz by order: the definition's numerator never falls in size, and its radicand never grows, as the normal's height grows, operation by operation;
-- so those at a height below and at one above bound them.
use mathlib.Core.Path.{◌≡◌, refl, ap, ◌∙◌}
use mathlib.Core.Bool.{Bool, true, false, not}
use lib.Dec.{T}
use lib.Ieee.{Float, nan, inf, fin, binary64, unlike, add, sub, mul, div, neg, of_bits, le, fits}
use lib.Ieee.Positive.{positive, between}
use lib.Ieee.Scale.{finite}
use Rattle.angles.specs.Floats.{◌⊕◌, ◌⊖◌, ◌⊗◌, ◌⊘◌, plus_zero, one, sign_of, abs_of}
use Rattle.angles.specs.Constants.{two, three}
use Rattle.bounds.proofs.Order.{le_trans_at}
use Rattle.bounds.proofs.Bounds.{Within, within, number, itself, widen, add_ends, add_within, sub_within, mul_within, div_within, neg_within}
use Rattle.bounds.proofs.Exchanged.{square_of_size}
use Rattle.bounds.proofs.Sizes.{abs_least, Sized, mul_sgn, div_sgn, size_from, sized_from, mul_mono, mul_sized, div_sized, sub_sized, from_zero_sized, sized_by_sign}
use Rattle.newton.specs.Sides.{size_at, radicand_at}

abbrev pub three_quarters : Float
three_quarters = of_bits binary64 0x3fe8_0000_0000_0000

abbrev seven_sixteenths : Float
seven_sixteenths = of_bits binary64 0x3fdc_0000_0000_0000

-- ---- ranges, for a y from 0 to 3/4, a w from 7/16 to 1, and a u from 0 to 1
pub record Coarse (y w u : Float) : Type 0 where
  pub v : Within plus_zero three_quarters (y ⊗ u)
  pub q : Within plus_zero two (y ⊘ w)
  pub qv : Within plus_zero two (y ⊘ w ⊗ (y ⊗ u))
  pub size : Within plus_zero three (u ⊕ y ⊘ w ⊗ (y ⊗ u))
  pub uu : Within plus_zero one (u ⊗ u)
  pub w0 : Within plus_zero one (one ⊖ u ⊗ u)
  pub d : Within plus_zero one ((one ⊖ u ⊗ u) ⊗ w)
  pub vv : Within plus_zero one (y ⊗ u ⊗ (y ⊗ u))
  pub radicand : Within (neg one) one ((one ⊖ u ⊗ u) ⊗ w ⊖ y ⊗ u ⊗ (y ⊗ u))

pub coarse : {y w u : Float} → Within plus_zero three_quarters y → Within seven_sixteenths one w → Within plus_zero one u → Coarse y w u
unfolding of_bits le add sub mul div neg sign_of
coarse {y} {w} {u} Y W U =
    let v : Within plus_zero three_quarters (y ⊗ u) = mul_within Y U tt in
    let q : Within plus_zero two (y ⊘ w) = div_within Y W tt tt in
    let qv : Within plus_zero two (y ⊘ w ⊗ (y ⊗ u)) = mul_within q v tt in
    let uu : Within plus_zero one (u ⊗ u) = mul_within U U tt in
    let w0 : Within plus_zero one (one ⊖ u ⊗ u) = sub_within (itself one tt) uu tt in
    let d : Within plus_zero one ((one ⊖ u ⊗ u) ⊗ w) = mul_within w0 (widen {a = plus_zero} {b = one} W tt) tt in
    let vv : Within plus_zero one (y ⊗ u ⊗ (y ⊗ u)) = mul_within v v tt in
    record {
      v = v;
      q = q;
      qv = qv;
      size = add_within U qv tt;
      uu = uu;
      w0 = w0;
      d = d;
      vv = vv;
      radicand = sub_within d vv tt;
    }

-- ---- signs are left out in pairs
pub alike : (s : Bool) → unlike s s ≡ false
alike true = refl
alike false = refl

thrice : (s t : Bool) → unlike t (not (unlike t s)) ≡ not s
thrice true true = refl
thrice true false = refl
thrice false true = refl
thrice false false = refl

pub twice : (s : Bool) → not (not s) ≡ s
twice true = refl
twice false = refl

product_even : (w u : Float) → T (positive w) → (z : Float) → T (finite z) → z ⊘ w ⊗ (z ⊗ u) ≡ abs_of z ⊘ w ⊗ (abs_of z ⊗ u)
unfolding neg abs_of
product_even w u p nan f = absurd f
product_even w u p (inf s) f = absurd f
product_even w u p (fin false m e) f = refl
product_even w u p (fin true m e) f =
    let y = fin false m e in
    ap (λ (t : Float). t ⊗ (neg y ⊗ u)) (div_sgn true y w tt p)
    ∙ ap (λ (t : Float). neg (y ⊘ w) ⊗ t) (mul_sgn true false y u)
    ∙ mul_sgn true true (y ⊘ w) (y ⊗ u)

square_by_even : (u z : Float) → T (finite z) → z ⊗ u ⊗ (z ⊗ u) ≡ abs_of z ⊗ u ⊗ (abs_of z ⊗ u)
unfolding neg abs_of
square_by_even u nan f = absurd f
square_by_even u (inf s) f = absurd f
square_by_even u (fin false m e) f = refl
square_by_even u (fin true m e) f =
    let y = fin false m e in ap (λ (t : Float). t ⊗ t) (mul_sgn true false y u) ∙ mul_sgn true true (y ⊗ u) (y ⊗ u)

-- ---- an end of the arc, of a height from −3/4 to 3/4
pub record End (z : Float) : Type 0 where
  pub held : T (fits binary64 z)
  pub number : T (finite z)
  pub y_in : Within plus_zero three_quarters (abs_of z)
  pub w_in : Within seven_sixteenths one (one ⊖ z ⊗ z)
  pub w_pos : T (positive (one ⊖ z ⊗ z))

low_finite : (z : Float) → T (le (abs_of z) three_quarters) → T (finite z)
unfolding of_bits abs_of le
low_finite nan h = h
low_finite (inf s) h = h
low_finite (fin s m e) h = tt

pub end_of : (z : Float) → T (fits binary64 z) → T (le (abs_of z) three_quarters) → End z
unfolding of_bits le sub mul neg sign_of
end_of z held h =
    let f = low_finite z h in
    let y : Within plus_zero three_quarters (abs_of z) = record { from = tt; to = tt; low = abs_least z f; high = h } in
    let yy : Within plus_zero (three_quarters ⊗ three_quarters) (abs_of z ⊗ abs_of z) = mul_within y y tt in
    let w : Within seven_sixteenths one (one ⊖ z ⊗ z) = rw (square_of_size z) (sub_within (itself one tt) yy tt) in
    record { held = held; number = f; y_in = y; w_in = w; w_pos = between seven_sixteenths (one ⊖ z ⊗ z) one tt tt w.low w.high }

-- size and radicand with signs left out
pub size_even : {z : Float} (u : Float) → End z → size_at z u ≡ u ⊕ abs_of z ⊘ (one ⊖ z ⊗ z) ⊗ (abs_of z ⊗ u)
unfolding size_at
size_even {z} u e = ap (λ (t : Float). u ⊕ t) (product_even (one ⊖ z ⊗ z) u e.w_pos z e.number)

radicand_even : {z : Float} (u : Float) → End z → radicand_at z u ≡ (one ⊖ u ⊗ u) ⊗ (one ⊖ z ⊗ z) ⊖ abs_of z ⊗ u ⊗ (abs_of z ⊗ u)
unfolding radicand_at
radicand_even {z} u e = ap (λ (t : Float). (one ⊖ u ⊗ u) ⊗ (one ⊖ z ⊗ z) ⊖ t) (square_by_even u z e.number)

pub one_finite : T (finite one)
unfolding of_bits
one_finite = tt

widened : {w : Float} → Within seven_sixteenths one w → Within plus_zero one w
unfolding of_bits le
widened W = widen W tt

-- ---- the definition's numerator and radicand at a height z0 of a size from l to u
pub record Parts (s : Bool) (z z0 l u : Float) : Type 0 where
  pub size : Sized s (size_at z l) (size_at z u) (z0 ⊖ z ⊘ (one ⊖ z ⊗ z) ⊗ (plus_zero ⊖ z ⊗ z0))
  pub radicand : Within (radicand_at z u) (radicand_at z l) ((one ⊖ z0 ⊗ z0) ⊗ (one ⊖ z ⊗ z) ⊖ (plus_zero ⊖ z ⊗ z0) ⊗ (plus_zero ⊖ z ⊗ z0))

pub parts : {s : Bool} {z z0 l u : Float} → End z → Sized s l u z0 → Within plus_zero one l → Within plus_zero one u → Parts s z z0 l u
unfolding sub
parts {s} {z} {z0} {l} {u} e Z L U =
    let t = sign_of z in
    let y = abs_of z in
    let w = one ⊖ z ⊗ z in
    let cl = coarse e.y_in e.w_in L in
    let cu = coarse e.y_in e.w_in U in
    let fw = number e.w_in in
    let zs = sized_by_sign z e.held e.number in
    let q : Sized t (y ⊘ w) (y ⊘ w) (z ⊘ w) = div_sized zs (itself w fw) e.w_pos e.w_pos e.w_pos (number cl.q) (number cl.q) in
    let v : Sized (unlike t s) (y ⊗ l) (y ⊗ u) (z ⊗ z0) = mul_sized zs Z (number cl.v) (number cu.v) in
    let r = not (unlike t s) in
    let n : Sized r (y ⊗ l) (y ⊗ u) (plus_zero ⊖ z ⊗ z0) = from_zero_sized {s = r} {x = z ⊗ z0} (rw (twice (unlike t s)) v) in
    let nn : Sized false (y ⊗ l ⊗ (y ⊗ l)) (y ⊗ u ⊗ (y ⊗ u)) ((plus_zero ⊖ z ⊗ z0) ⊗ (plus_zero ⊖ z ⊗ z0)) =
    rw (alike r) at (mul_sized n n (number cl.vv) (number cu.vv)) in
    let qn : Sized (not s) (y ⊘ w ⊗ (y ⊗ l)) (y ⊘ w ⊗ (y ⊗ u)) (z ⊘ w ⊗ (plus_zero ⊖ z ⊗ z0)) =
    rw (thrice s t) at (mul_sized q n (number cl.qv) (number cu.qv)) in
    let zz : Sized false (l ⊗ l) (u ⊗ u) (z0 ⊗ z0) = rw (alike s) at (mul_sized Z Z (number cl.uu) (number cu.uu)) in
    let w0 : Within (one ⊖ u ⊗ u) (one ⊖ l ⊗ l) (one ⊖ z0 ⊗ z0) = within (add_ends (itself one one_finite) (neg_within zz.size)) (number cu.w0) (number cl.w0) in
    let W = sized_from (widened e.w_in) in
    let W0 = size_from (one ⊖ z0 ⊗ z0) (number w0) (le_trans_at plus_zero (one ⊖ u ⊗ u) (one ⊖ z0 ⊗ z0) (number cu.w0) cu.w0.low w0.low) in
    let itself_w = itself w fw in
    let d : Within ((one ⊖ u ⊗ u) ⊗ w) ((one ⊖ l ⊗ l) ⊗ w) ((one ⊖ z0 ⊗ z0) ⊗ w) =
    record {
      from = number cu.d;
      to = number cl.d;
      low = mul_mono (sized_from cu.w0) W0 W W w0.low itself_w.low;
      high = mul_mono W0 (sized_from cl.w0) W W w0.high itself_w.low;
    } in
    record {
      size = rw (size_even l e, size_even u e) (sub_sized Z qn (number cl.size) (number cu.size));
      radicand = rw (radicand_even l e, radicand_even u e) (within (add_ends d (neg_within nn.size)) (number cu.radicand) (number cl.radicand));
    }
