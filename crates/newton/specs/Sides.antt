-- On which side of cte the size of dα/dz lies at the ends of an arc on the equator, by tests that need no root: what `signs_by_order` asks. Definitions, a claim on the constants, and examples;
-- `proofs/SlopeSides.antt` and `proofs/SignsByOrder.antt` say what follows.
use Rattle.std.specs.Float.{nan, binary64}
use Rattle.std.specs.Float.Ieee.{of_bits, round, neg, lt}
use Rattle.std.specs.Prelude.{◌≡◌, ℕ, ◌^◌, Bool, true, false, cond, ◌&&◌, ◌||◌, Float}
use Rattle.angles.specs.Floats.{◌⊕◌, ◌⊖◌, ◌⊗◌, ◌⊘◌, plus_zero, one}
use Rattle.angles.specs.Constants.{half}
use Rattle.newton.specs.Regions.{cte_eqr}

-- dα/dz at z is this size over the root of this radicand, for a normal of the height u, which is 0 or above
unfoldable pub size_at : Float → Float → Float
size_at z u = u ⊕ z ⊘ (one ⊖ z ⊗ z) ⊗ (z ⊗ u)

unfoldable pub radicand_at : Float → Float → Float
radicand_at z u = (one ⊖ u ⊗ u) ⊗ (one ⊖ z ⊗ z) ⊖ z ⊗ u ⊗ (z ⊗ u)

-- 1.1775, and 0.85, a little above its inverse; 1.179, and 0.848, a little below its inverse
abbrev pub under : Float
under = of_bits binary64 0x3ff2_d70a_3d70_a3d7

abbrev pub under_inverse : Float
under_inverse = of_bits binary64 0x3feb_3333_3333_3333

abbrev pub over : Float
over = of_bits binary64 0x3ff2_dd2f_1a9f_be77

abbrev pub over_inverse : Float
over_inverse = of_bits binary64 0x3feb_22d0_e560_4189

-- what each pattern stands for; and the size of cte lies between 1.1775 and 1.179
pub record SideConstants : Type 0 where
  pub under_is : under ≡ round binary64 false 11775 (10 ^ 4)
  pub under_inverse_is : under_inverse ≡ round binary64 false 85 (10 ^ 2)
  pub over_is : over ≡ round binary64 false 1179 (10 ^ 3)
  pub over_inverse_is : over_inverse ≡ round binary64 false 848 (10 ^ 3)
  pub above_under : lt under (cte_eqr false) ≡ true
  pub below_over : lt (cte_eqr false) over ≡ true

-- the size of dα/dz at z is clearly below that of cte, for a normal of at most the height u
unfoldable pub below_cte : Float → Float → Bool
below_cte z u =
    let size = size_at z u in
    let g = size ⊗ under_inverse in
    lt (g ⊗ g) (radicand_at z u) && lt size (under ⊗ g)

-- it is clearly above, for a normal of a height from l to u; at u there still is a root
unfoldable pub above_cte : Float → Float → Float → Bool
above_cte z l u =
    let size = size_at z l in
    let g = size ⊗ over_inverse in
    lt (radicand_at z l) (g ⊗ g) && lt (over ⊗ g) size && lt plus_zero (radicand_at z u)

-- 1, both are clearly on the same side of cte; 2, clearly not; 0, one is not clear
unfoldable pub sides_of : Float → Float → Float → Float → ℕ
sides_of z1 z2 l u =
    let b1 = below_cte z1 u in
    let b2 = below_cte z2 u in
    let a1 = above_cte z1 l u in
    let a2 = above_cte z2 l u in
    cond (b1 && b2 || a1 && a2) 1 (cond (b1 && a2 || a1 && b2) 2 0)

abbrev one_quarter : Float
one_quarter = half ⊗ half

abbrev three_quarters : Float
three_quarters = half ⊕ one_quarter

-- Of a normal of the height 3/4: at 0 the size is clearly below, at 1/2 and −1/2 clearly above. Of one from 1/4 to 3/4 it is not clear at 1/2, and of a NaN never.
pub record SidesExamples : Type 0 where
  pub both_below : sides_of plus_zero (neg plus_zero) three_quarters three_quarters ≡ 1
  pub both_above : sides_of half (neg half) three_quarters three_quarters ≡ 1
  pub one_each : sides_of plus_zero half three_quarters three_quarters ≡ 2
  pub one_unclear : sides_of plus_zero half one_quarter three_quarters ≡ 0
  pub nan_end : sides_of plus_zero nan three_quarters three_quarters ≡ 0
  pub nan_normal : sides_of plus_zero half nan nan ≡ 0
