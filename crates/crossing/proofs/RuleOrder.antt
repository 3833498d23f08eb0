-- The claim and the examples of specs/RuleOrder.antt. Two tests in a row decide the same in either order, unless both hold.
use Rattle.std.proofs.Common.{◌≡◌, Bool, true, false, ◌&&◌, refl, sym, ap}
use mathlib.Core.Bool.{true≢false}
use mathlib.Core.Path.{◌∙◌}
use lib.Ieee.{lt, le, ne, of_bits, of_int, neg, add, sub, mul, div}
use Rattle.root.specs.Root.{root_of}
use Rattle.angles.specs.Floats.{abs_of, sign_of, signed_of, finite_of}
use Rattle.angles.specs.Constants.{meridian_limit, short_limit}
use Rattle.angles.specs.Inverse.{horner, half_angle, arctangent_of, first_quadrant, reflected_of, atan2_of}
use Rattle.angles.specs.Circular.{◌!, sine_series, cosine_series, within_quarter_turn, quarter_turns, turned_by, signed_sine, sin_cos_of}
use Rattle.coo3d.specs.Vectors.{dot_of, cross_of, squared_norm_of, norm_of, divided_by, normalized_of, is_unit, new_unit}
use Rattle.coo3d.specs.LonLats.{vec3_of}
use Rattle.crossing.specs.declared.great_arc.GreatArc.{GreatArc}
use Rattle.crossing.specs.declared.parallel.Rule.TheVariants.{NearMeridian, ShortArc}
use Rattle.crossing.specs.GreatArcs.{great_arc, passes_of}
use Rattle.crossing.specs.Parallels.{strictly_between, first_that_passes, near_meridian, short_arc, rule_of, by_rule, crossing_by, crossing_of}
use Rattle.crossing.specs.RuleOrder.{rule_before, may_change, RuleOrder, RuleOrderExamples}

module _ (arc : GreatArc) where
  Near : Bool → Type 0
  Near b = le (abs_of arc.normal.y) meridian_limit ≡ b

  Short : Bool → Type 0
  Short b = lt (atan2_of arc.norm arc.dot) short_limit ≡ b

  both_hold : (n s : Bool) → Near n → Short s → may_change arc ≡ (n && s)
  unfolding Near Short may_change
  both_hold true true near short = simp (near, short) refl
  both_hold true false near short = simp (near, short) refl
  both_hold false true near short = simp (near, short) refl
  both_hold false false near short = simp (near, short) refl

  same_rule : (n s : Bool) → Near n → Short s → may_change arc ≡ false → rule_of arc ≡ rule_before arc
  unfolding Near Short rule_of rule_before
  same_rule true true near short h = absurd (true≢false (sym (both_hold true true near short) ∙ h))
  same_rule true false near short h = simp (near, short) refl
  same_rule false s near short h = simp near refl

  now : (n s : Bool) → Near n → Short s → may_change arc ≡ true → rule_of arc ≡ ShortArc
  unfolding Short rule_of
  now n true near short h = simp short refl
  now true false near short h = absurd (true≢false (sym h ∙ both_hold true false near short))
  now false false near short h = absurd (true≢false (sym h ∙ both_hold false false near short))

  before : (n s : Bool) → Near n → Short s → may_change arc ≡ true → rule_before arc ≡ NearMeridian
  unfolding Near rule_before
  before true s near short h = simp near refl
  before false s near short h = absurd (true≢false (sym h ∙ both_hold false s near short))

pub rule_order : RuleOrder
unfolding Near Short crossing_of
rule_order =
    record {
      else_same_rule = λ arc h. same_rule arc _ _ refl refl h;
      else_same_crossing = λ arc z h. ap (λ r. crossing_by arc r z) (same_rule arc _ _ refl refl h);
      short_now = λ arc h. now arc _ _ refl refl h;
      near_meridian_before = λ arc h. before arc _ _ refl refl h;
    }

pub rule_order_examples : RuleOrderExamples
unfolding may_change rule_of rule_before crossing_of crossing_by by_rule strictly_between near_meridian short_arc first_that_passes great_arc passes_of vec3_of sin_cos_of quarter_turns turned_by signed_sine within_quarter_turn sine_series cosine_series dot_of cross_of norm_of squared_norm_of normalized_of divided_by is_unit new_unit atan2_of signed_of sign_of reflected_of first_quadrant arctangent_of half_angle horner finite_of root_of abs_of ◌! of_bits of_int neg add sub mul div lt le ne
rule_order_examples =
    record {
      neither_holds = refl;
      neither_rule = refl;
      near_meridian_holds = refl;
      near_meridian_rule = refl;
      short_holds = refl;
      short_rule = refl;
      both_hold = refl;
      missed_before = refl;
      found_now = refl;
    }
