-- Document 02, ask 6: "Short arcs shall now be tested first. The answers that may change are crossings with |y0| at most 1e-14 and an angular distance below one
-- arcsecond, and the slots of arcs that use such a crossing." Definitions, a claim and examples; `proofs/RuleOrder.antt` proves the claim and the
-- examples.
use Rattle.std.specs.Float.{binary64}
use Rattle.std.specs.Prelude.{Float, Bool, true, false, cond, ◌&&◌, ◌≡◌, Ok, Err, from_bits}
use Rattle.std.specs.Float.Ieee.{neg, lt, le}
use Rattle.angles.specs.Floats.{plus_zero, abs_of}
use Rattle.angles.specs.Constants.{half_pi, quarter_pi, transition_z, meridian_limit, short_limit}
use Rattle.angles.specs.Inverse.{atan2_of}
use Rattle.coo3d.specs.Vectors.{vect}
use Rattle.coo3d.specs.LonLats.{vec3_of}
use Rattle.crossing.specs.declared.great_arc.GreatArc.{GreatArc}
use Rattle.crossing.specs.declared.parallel.NoCrossing.TheVariants.{NoRoot}
use Rattle.crossing.specs.declared.parallel.Rule.{Rule}
use Rattle.crossing.specs.declared.parallel.Rule.TheVariants.{NearMeridian, ShortArc, Quadratic}
use Rattle.crossing.specs.GreatArcs.{great_arc}
use Rattle.crossing.specs.Parallels.{rule_of, crossing_by, crossing_of}

-- The order until then. It stands here for the claim below and its examples alone.
unfoldable pub rule_before : GreatArc → Rule
rule_before arc =
    cond (le (abs_of arc.normal.y) meridian_limit) NearMeridian
    (cond (lt (atan2_of arc.norm arc.dot) short_limit) ShortArc Quadratic)

-- "|y0| at most 1e-14 and an angular distance below one arcsecond"
unfoldable pub may_change : GreatArc → Bool
may_change arc = le (abs_of arc.normal.y) meridian_limit && lt (atan2_of arc.norm arc.dot) short_limit

-- Nothing reads the rule but `crossing_of`, for pieces and code 06, and a split for its crossings: slots, status and code 06 change only where such a crossing is used.
pub record RuleOrder : Type 0 where
  pub else_same_rule : (arc : GreatArc) → may_change arc ≡ false → rule_of arc ≡ rule_before arc
  pub else_same_crossing : (arc : GreatArc) (z : Float) → may_change arc ≡ false → crossing_of arc z ≡ crossing_by arc (rule_before arc) z
  pub short_now : (arc : GreatArc) → may_change arc ≡ true → rule_of arc ≡ ShortArc
  pub near_meridian_before : (arc : GreatArc) → may_change arc ≡ true → rule_before arc ≡ NearMeridian

-- Arcs by longitude and latitude of their ends, along the meridians of 0 and of 90 degrees: from the equator to latitude π/4 and to a millionth of a radian, and 0.99 arcseconds over −T.
abbrev pub arc_of : Float → Float → Float → Float → GreatArc
arc_of lon1 lat1 lon2 lat2 = great_arc (vec3_of lon1 lat1) (vec3_of lon2 lat2)

abbrev pub neither : GreatArc
neither = arc_of plus_zero plus_zero plus_zero quarter_pi

abbrev pub near_meridian_alone : GreatArc
near_meridian_alone = arc_of half_pi plus_zero half_pi quarter_pi

abbrev pub short_alone : GreatArc
short_alone = arc_of plus_zero plus_zero plus_zero (from_bits binary64 0x3eb0_c6f7_a0b5_ed8d)

abbrev pub both : GreatArc
both = arc_of half_pi (from_bits binary64 0xbfe7_59ed_d04f_68e0) half_pi (from_bits binary64 0xbfe7_59e3_bf58_7b38)

-- The rule for each arc. For `both` neither root passed at −T until then, so that the arc could not be split.
pub record RuleOrderExamples : Type 0 where
  pub neither_holds : may_change neither ≡ false
  pub neither_rule : rule_of neither ≡ Quadratic
  pub near_meridian_holds : may_change near_meridian_alone ≡ false
  pub near_meridian_rule : rule_of near_meridian_alone ≡ NearMeridian
  pub short_holds : may_change short_alone ≡ false
  pub short_rule : rule_of short_alone ≡ ShortArc
  pub both_hold : may_change both ≡ true
  pub missed_before : crossing_by both (rule_before both) (neg transition_z) ≡ Err NoRoot
  pub found_now : crossing_of both (neg transition_z) ≡ Ok (vect plus_zero (from_bits binary64 0x3fe7_d9f4_cf75_4636) (neg transition_z))
