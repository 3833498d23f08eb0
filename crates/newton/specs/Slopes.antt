-- Document 01, "Walks": the slopes `f_eqr` and `f_npc`, and their ratios to their derivatives, in the source's grouping. Definitions only.
use Rattle.std.specs.Prelude.{Float, Bool, ◌||◌}
use Rattle.std.specs.Float.Ieee.{neg, lt, eq}
use Rattle.std.specs.Bool.{beq}
use Rattle.root.specs.Root.{root_of}
use Rattle.angles.specs.Floats.{◌⊕◌, ◌⊖◌, ◌⊗◌, ◌⊘◌, plus_zero, one}
use Rattle.angles.specs.Constants.{half, one_over_transition_z, two, three, quarter_pi}
use Rattle.angles.specs.Inverse.{acos_of}
use Rattle.newton.specs.declared.slope.Cone.{Cone}
use Rattle.newton.specs.declared.slope.Terms.{Terms}
use Rattle.newton.specs.declared.slope.Slope.{Slope}
use Rattle.newton.specs.declared.slope.Slope.TheVariants.{Equatorial, Polar}

-- w0 is 1 − z0²
unfoldable pub cone_of : Float → Float → Cone
cone_of z0 r = record { z0 = z0; w0 = one ⊖ z0 ⊗ z0; r = r }

-- what slope and ratio of either region share, in the source's names
unfoldable pub terms_of : Cone → Float → Terms
terms_of cone z =
    let w2 = one ⊖ z ⊗ z in
    let q = z ⊘ w2 in
    let n = cone.r ⊖ z ⊗ cone.z0 in
    let d2 = cone.w0 ⊗ w2 in
    let sqrt = root_of (d2 ⊖ n ⊗ n) in
    let qn = q ⊗ n in
    record { w2 = w2; q = q; n = n; d2 = d2; sqrt = sqrt; qn = qn; dalphadz = (cone.z0 ⊖ qn) ⊘ sqrt }

-- the second derivative of the longitude, times sqrt
unfoldable pub second_of : Terms → Float → Float
second_of t z0 = t.q ⊗ (two ⊗ z0 ⊖ three ⊗ t.qn) ⊖ t.n ⊗ (one ⊘ t.w2 ⊕ t.dalphadz ⊗ t.dalphadz)

-- `f_eqr`
unfoldable pub f_eqr : Float → Cone → Float → Float
f_eqr z cone cte = (terms_of cone z).dalphadz ⊖ cte

-- `f_over_df_eqr`
unfoldable pub f_over_df_eqr : Float → Cone → Float → Float
f_over_df_eqr z cone cte =
    let t = terms_of cone z in (t.dalphadz ⊖ cte) ⊘ (second_of t cone.z0 ⊘ t.sqrt)

-- `f_npc`, from what it shares with its ratio
unfoldable pub slope_npc : Terms → Float → Float → Float → Float → Float
slope_npc t z lon cte direction =
    let w = one ⊖ z in
    let arccos = acos_of (t.n ⊘ root_of t.d2) in
    direction ⊗ w ⊗ t.dalphadz ⊖ half ⊗ (direction ⊗ arccos ⊕ lon ⊖ quarter_pi) ⊕ cte

unfoldable pub f_npc : Float → Cone → Float → Float → Float → Float
f_npc z cone lon cte direction = slope_npc (terms_of cone z) z lon cte direction

-- `f_over_df_npc`
unfoldable pub f_over_df_npc : Float → Cone → Float → Float → Float → Float
f_over_df_npc z cone lon cte direction =
    let t = terms_of cone z in
    let w = one ⊖ z in
    let df = neg one_over_transition_z ⊗ direction ⊗ t.dalphadz ⊕ (direction ⊗ w ⊘ t.sqrt) ⊗ second_of t cone.z0 in
    slope_npc t z lon cte direction ⊘ df

-- `have_same_sign`
unfoldable pub have_same_sign : Float → Float → Bool
have_same_sign d1 d2 = eq d1 plus_zero || eq d2 plus_zero || beq (lt plus_zero d1) (lt plus_zero d2)

-- in the equatorial region, and in the north cap
abbrev pub equatorial : Cone → Float → Slope
equatorial cone cte = Equatorial (record { cone = cone; cte = cte })

abbrev pub polar : Cone → Float → Float → Float → Slope
polar cone lon cte direction = Polar (record { cone = cone; lon = lon; cte = cte; direction = direction })

-- the slope of either region at z, and its ratio to its derivative
unfoldable pub slope_at : Slope → Float → Float
slope_at (Equatorial s) z = f_eqr z s.cone s.cte
slope_at (Polar s) z = f_npc z s.cone s.lon s.cte s.direction

unfoldable pub ratio_at : Slope → Float → Float
ratio_at (Equatorial s) z = f_over_df_eqr z s.cone s.cte
ratio_at (Polar s) z = f_over_df_npc z s.cone s.lon s.cte s.direction
