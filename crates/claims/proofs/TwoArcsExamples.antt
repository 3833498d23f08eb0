-- The examples of specs/TwoArcsExamples.antt, computed; status 12 by its theorem.
use Rattle.std.specs.Prelude.{None}
use lib.Ieee.{Float, of_bits, of_int, to_bits, round, neg, add, sub, mul, div, lt, le, eq, ne}
use Prim.Native.Nat.{ℕ}
use mathlib.Core.Path.{◌≡◌, refl, sym, ◌∙◌}
use mathlib.Core.Bool.{true, false, true≢false}
use mathlib.Core.List.{List, ◌++◌}
use Rattle.root.specs.Root.{root_of}
use Rattle.angles.specs.Floats.{sign_of, abs_of, signed_of, finite_of}
use Rattle.angles.specs.Inverse.{horner, half_angle, arctangent_of, first_quadrant, reflected_of, atan2_of}
use Rattle.angles.specs.Circular.{◌!, sine_series, cosine_series, within_quarter_turn, quarter_turns, turned_by, signed_sine, sin_cos_of}
use Rattle.coo3d.specs.Vectors.{dot_of, cross_of, squared_norm_of, norm_of, divided_by, normalized_of, is_unit, new_unit, opposite_of}
use Rattle.coo3d.specs.LonLats.{is_longitude, is_latitude, lon_of, lat_of, lon_lat_of, vec3_of}
use Rattle.coo3d.specs.Points.{from_sph_coo, vect_of}
use Rattle.two_arcs.specs.TwoArcs.{cross_of_ends, cross_of_arcs, passes_of, passes_both, first_that_passes, zero_or_nan, intersect_arcs}
use Rattle.words.specs.Words.{little, word_at, float_at, bytes, float_bytes}
use Rattle.answers.specs.Answers.{kind_alone, numbers_of, crossed_of}
use Rattle.answers.specs.Bytes.{point_bytes, crossing_bytes}
use Rattle.table.specs.States.{unset, given_of}
use Rattle.table.specs.Table.{first_arc, second_arc, meeting_work, two_arcs, row_of}
use Rattle.table.specs.Turns.{finite_from, flags_from, in_range_from, first_failing, refusal_of, work_of, reply_in, turn_of, status_of, answer_bytes, reply_bytes, reply_of}
use Rattle.table.specs.StatusTen.{status_byte}
use Rattle.claims.proofs.TwoArcsReplies.{status_twelve}
use Rattle.claims.specs.TwoArcsExamples.{reply_to, along, onwards, up, tiny_along, tiny_up, TwoArcsExamples, SidesOfStatusTwelve}

pub two_arcs_examples : TwoArcsExamples
unfolding reply_of turn_of reply_bytes status_of answer_bytes reply_in work_of refusal_of first_failing finite_from flags_from in_range_from row_of two_arcs meeting_work given_of crossed_of crossing_bytes numbers_of kind_alone point_bytes intersect_arcs first_that_passes passes_both passes_of cross_of_arcs cross_of_ends zero_or_nan dot_of cross_of squared_norm_of norm_of divided_by normalized_of is_unit new_unit opposite_of lon_lat_of lon_of lat_of atan2_of signed_of sign_of reflected_of first_quadrant arctangent_of half_angle horner finite_of root_of abs_of from_sph_coo vect_of vec3_of sin_cos_of quarter_turns turned_by signed_sine within_quarter_turn sine_series cosine_series ◌! is_longitude is_latitude float_at word_at little float_bytes bytes of_bits of_int to_bits round neg add sub mul div lt le eq ne
two_arcs_examples = record { candidate = refl; opposite = refl; neither = refl; far_side = refl }

-- neither 7 nor 9 refuses any of the three pairs
abbrev Taken : List ℕ → Type 0
Taken b = refusal_of (row_of 7) (given_of unset) b ≡ None

taken : Taken (along ++ onwards) × Taken (tiny_along ++ tiny_up) × Taken (along ++ up)
unfolding row_of two_arcs given_of refusal_of first_failing finite_from flags_from in_range_from finite_of is_longitude is_latitude float_at word_at little float_bytes bytes of_bits to_bits neg lt le
taken = (refl, refl, refl)

abbrev norm : List ℕ → Float
norm b = norm_of (cross_of_arcs (first_arc b) (second_arc b))

norms : (zero_or_nan (norm (along ++ onwards)) ≡ true) × (zero_or_nan (norm (tiny_along ++ tiny_up)) ≡ true) × (zero_or_nan (norm (along ++ up)) ≡ false)
unfolding cross_of_arcs cross_of_ends zero_or_nan cross_of squared_norm_of norm_of root_of finite_of sign_of abs_of from_sph_coo vect_of vec3_of sin_cos_of quarter_turns turned_by signed_sine within_quarter_turn sine_series cosine_series horner ◌! is_longitude is_latitude float_at word_at little float_bytes bytes of_bits of_int to_bits round neg add sub mul div lt le eq ne
norms = (refl, refl, refl)

twelve : (b : List ℕ) → Taken b → zero_or_nan (norm b) ≡ true → status_byte (reply_to b) ≡ 12
twelve b t n = (status_twelve unset 7 b).1 (record { is_two_arcs = refl; not_refused = t; no_candidate = n })

pub sides_of_status_twelve : SidesOfStatusTwelve
sides_of_status_twelve =
    record {
      one_circle = twelve (along ++ onwards) taken.0 norms.0;
      underflow = twelve (tiny_along ++ tiny_up) taken.1 norms.1;
      taken = taken.2;
      not_twelve = λ h. true≢false (sym ((status_twelve unset 7 (along ++ up)).0 h).no_candidate ∙ norms.2);
    }
