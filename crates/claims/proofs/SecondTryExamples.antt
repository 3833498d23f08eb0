-- The examples of specs/SecondTryExamples.antt, computed: ends, split, slopes, walk, sixty middles, crossing and bytes.
use lib.Ieee.{of_bits, of_int, to_bits, round, neg, add, sub, mul, div, lt, le, eq, ne}
use Rattle.angles.specs.Floats.{signed_of, sign_of, finite_of, abs_of, min_of, max_of}
use Rattle.coo3d.specs.Points.{from_sph_coo, vect_of}
use Rattle.crossing.specs.Parallels.{strictly_between, quadratic, first_that_passes, rule_of, by_rule, crossing_by, crossing_of}
use Rattle.crossing.specs.GreatArcs.{great_arc, passes_of}
use Rattle.newton.specs.Slopes.{have_same_sign, slope_at, cone_of, ratio_at, f_over_df_eqr, second_of, f_eqr, terms_of}
use Rattle.newton.specs.Regions.{cte_eqr, slope_in_eqr}
use Rattle.newton.specs.Walks.{walk_of, walk_from, start_walk, going_of, step_of, limit_of}
use Rattle.answers.specs.Answers.{without_walk, crossed_of, second_try_of, kind_alone, numbers_of}
use Rattle.plans.specs.Endings.{accepted_eqr, from_end_to_end, second_try, eqr_arc, answer_at}
use Rattle.plans.specs.Plans.{slot_at, cap_slots_at}
use Rattle.splits.specs.Splits.{split_ordered, split_into, split_of}
use Rattle.special_points_finder.specs.Arcs.{plan_in_pc, plan_in_eqr, arc_plan, slots_at}
use Rattle.special_points_finder.specs.Equator.{arc_plan_in_eqr}
use Rattle.table.specs.Turns.{reply_of, turn_of, reply_bytes, status_of, answer_bytes, reply_in, work_of, refusal_of, first_failing, finite_from, flags_from, in_range_from}
use Rattle.table.specs.Table.{row_of, arc, arc_work}
use Rattle.table.specs.States.{given_of, needs_settings, with_precision, with_allowance}
use Rattle.newton.specs.Halvings.{last_middle, halvings, halved_of, middle_of}
use Rattle.answers.specs.Bytes.{slots_bytes, slot_bytes, walked_bytes}
use Rattle.coo3d.specs.Vectors.{dot_of, cross_of, squared_norm_of, norm_of, divided_by, normalized_of, is_unit, new_unit, opposite_of}
use Rattle.coo3d.specs.LonLats.{lon_lat_of, lon_of, lat_of, vec3_of, is_longitude, is_latitude}
use Rattle.angles.specs.Inverse.{atan2_of, reflected_of, first_quadrant, arctangent_of, half_angle, horner}
use Rattle.root.specs.Root.{root_of}
use Rattle.angles.specs.Circular.{sin_cos_of, quarter_turns, turned_by, signed_sine, within_quarter_turn, sine_series, cosine_series, ◌! }
use Rattle.words.specs.Words.{little, word_at, float_at, bytes, float_bytes}
use mathlib.Core.Path.{refl}
use Rattle.claims.specs.SecondTryExamples.{SecondTryExamples}

pub second_try_examples : SecondTryExamples
unfolding split_ordered split_into quadratic first_that_passes passes_of rule_of by_rule crossing_by strictly_between reply_of turn_of reply_bytes status_of answer_bytes reply_in work_of refusal_of first_failing finite_from flags_from in_range_from row_of arc arc_work given_of needs_settings with_precision with_allowance split_of slots_at cap_slots_at slot_at arc_plan plan_in_pc plan_in_eqr arc_plan_in_eqr slope_in_eqr cone_of cte_eqr great_arc walk_of walk_from start_walk going_of step_of limit_of ratio_at f_over_df_eqr second_of slope_at f_eqr terms_of have_same_sign answer_at eqr_arc accepted_eqr from_end_to_end second_try last_middle halvings halved_of middle_of second_try_of crossed_of crossing_of slots_bytes slot_bytes walked_bytes numbers_of kind_alone without_walk dot_of cross_of squared_norm_of norm_of divided_by normalized_of is_unit new_unit opposite_of lon_lat_of lon_of lat_of atan2_of signed_of sign_of reflected_of first_quadrant arctangent_of half_angle horner finite_of root_of abs_of min_of max_of from_sph_coo vect_of vec3_of sin_cos_of quarter_turns turned_by signed_sine within_quarter_turn sine_series cosine_series ◌! is_longitude is_latitude float_at word_at little float_bytes bytes of_bits of_int to_bits round neg add sub mul div lt le eq ne
second_try_examples = record { after_one = refl; after_two = refl; by_the_walk = refl; sixtieth = refl; none = refl }
