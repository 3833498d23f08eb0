-- Document 01's starred examples (`Examples`, specs/Examples.antt), computed by antt.
use Rattle.std.specs.Prelude.{Ok}
use lib.Dec.{eqb}
use lib.Ieee.{Float, binary64, of_bits, to_bits, neg, round, lt, le, eq, ne, mul}
use lib.ListN.{get_or}
use mathlib.Core.Path.{◌≡◌, refl, ap, ◌∙◌}
use mathlib.Core.Bool.{Bool, false}
use mathlib.Core.List.{List, [], ◌∷◌, ◌++◌}
use Prim.Native.Nat.{ℕ}
use Rattle.root_rule.proofs.RootExamples.{root_examples}
use Rattle.angles.specs.Floats.{plus_zero, one, abs_of, finite_of, min_of, max_of}
use Rattle.angles.specs.Constants.{half, two, transition_z, least_limit}
use Rattle.newton.specs.Slopes.{have_same_sign}
use Rattle.newton.specs.Regions.{mirrored_of}
use Rattle.newton.specs.Walks.{limit_of, start_walk, walk_from, walk_of}
use Rattle.answers.specs.Answers.{slot_of, kind_alone, numbers_of}
use Rattle.answers.specs.declared.answer.Answer.TheVariants.{Rejected, Height}
use Rattle.special_points_finder.specs.Cones.{cone_plan_in_eqr, cone_plan_in_pc}
use Rattle.plans.specs.Endings.{accepted_eqr, accepted_npc, eqr_cone, pc_cone, answer_at}
use Rattle.plans.specs.Plans.{slot_at}
use Rattle.words.specs.Words.{little, word_at, float_at, bytes, float_bytes}
use Rattle.answers.specs.Bytes.{height_bytes, cone_bytes}
use Rattle.table.specs.States.{given_of, needs_settings, with_precision, with_allowance}
use Rattle.table.specs.Rows.{Work, is_height, is_radius, is_lon_mod_half_pi, is_flag}
use Rattle.table.specs.Table.{cone_in_eqr, cone_in_pc, row_of}
use Rattle.table.specs.Turns.{finite_from, flags_from, in_range_from, first_failing, refusal_of, work_of, reply_in, turn_of, status_of, answer_bytes, reply_bytes, reply_of}
use Rattle.table.specs.declared.reply.Reply.TheVariants.{Cone}
use Rattle.claims.specs.Examples.{minus_seven_tenths, SignExamples, LimitExamples, with_no_steps, Taken, ConeExamples, Examples}

signs : SignExamples
unfolding have_same_sign of_bits neg lt eq
signs = record { zero = refl; unlike = refl; of_nan = refl }

-- 0.04 and 1e-15 by their patterns
abbrev four_hundredths : Float
four_hundredths = of_bits binary64 0x3fa4_7ae1_47ae_147b

four_hundredths_lem : four_hundredths ≡ round binary64 false 4 100
unfolding of_bits round
four_hundredths_lem = refl

limit_of_one : limit_of one two ≡ four_hundredths
unfolding limit_of min_of max_of of_bits lt ne mul
limit_of_one = refl

limit_of_minus_one : limit_of (neg one) two ≡ least_limit
unfolding limit_of min_of max_of of_bits neg lt ne mul
limit_of_minus_one = refl

limits : LimitExamples
limits = record { of_one = limit_of_one ∙ four_hundredths_lem; of_minus_one = limit_of_minus_one }

-- with allowance 0 a walk ends where it starts
module _ (precision z0 radius : Float) where
  half_found : (north : Bool) → slot_at 0 (cone_plan_in_eqr half z0 radius north precision) ≡ slot_of 0 (Height half)
  unfolding cone_plan_in_eqr slot_at walk_of walk_from start_walk answer_at eqr_cone accepted_eqr abs_of of_bits lt
  half_found north = refl

  t_rejected : (north : Bool) → slot_at 0 (cone_plan_in_eqr transition_z z0 radius north precision) ≡ slot_of 0 Rejected
  unfolding cone_plan_in_eqr slot_at walk_of walk_from start_walk answer_at eqr_cone accepted_eqr abs_of of_bits lt
  t_rejected north = refl

  south_found : (lon : Float) (east north : Bool)
      → slot_at 0 (cone_plan_in_pc minus_seven_tenths lon z0 radius east north precision) ≡ slot_of 0 (Height minus_seven_tenths)
  unfolding cone_plan_in_pc slot_at walk_of walk_from start_walk answer_at pc_cone accepted_npc mirrored_of finite_of of_bits neg round lt
  south_found lon east north = refl

-- what a command that is not refused comes to
work_taken : (code : ℕ) {z precision : Float} {b : List ℕ}
    → Taken code z precision b
    → work_of (row_of code) (given_of (with_no_steps precision)) b ≡ (row_of code).work (given_of (with_no_steps precision)) b
unfolding work_of
work_taken code k = simp k.not_refused

module _ {z precision : Float} {b : List ℕ} where
  reply_in_eqr : Taken 4 z precision b
      → reply_of (with_no_steps precision) 4 b
      ≡ reply_bytes 4 (Ok (Cone (slot_at 0 (cone_plan_in_eqr z (float_at b 1) (float_at b 2) (eqb (get_or b 24 0) 1) precision))))
  unfolding reply_of turn_of row_of cone_in_eqr given_of with_precision with_allowance reply_in
  reply_in_eqr k =
      ap (λ (w : Work). reply_bytes 4 (reply_in 0 w)) (work_taken 4 k)
      ∙ ap
      (λ (x : Float). reply_bytes 4 (Ok (Cone (slot_at 0 (cone_plan_in_eqr x (float_at b 1) (float_at b 2) (eqb (get_or b 24 0) 1) precision)))))
      k.of_height

  reply_in_pc : Taken 5 z precision b
      → reply_of (with_no_steps precision) 5 b
      ≡ reply_bytes 5
      (Ok
      (Cone
      (slot_at 0
      (cone_plan_in_pc z (float_at b 1) (float_at b 2) (float_at b 3) (eqb (get_or b 32 0) 1) (eqb (get_or b 33 0) 1) precision))))
  unfolding reply_of turn_of row_of cone_in_pc given_of with_precision with_allowance reply_in
  reply_in_pc k =
      ap (λ (w : Work). reply_bytes 5 (reply_in 0 w)) (work_taken 5 k)
      ∙ ap
      (λ (x : Float). reply_bytes 5
      (Ok
      (Cone
      (slot_at 0
      (cone_plan_in_pc x (float_at b 1) (float_at b 2) (float_at b 3) (eqb (get_or b 32 0) 1) (eqb (get_or b 33 0) 1) precision)))))
      k.of_height

taken_at_half : (precision : Float) → Taken 4 half precision (float_bytes half ++ float_bytes plus_zero ++ float_bytes one ++ 1 ∷ [])
unfolding row_of cone_in_eqr given_of with_precision with_allowance needs_settings refusal_of first_failing finite_from flags_from in_range_from finite_of is_height is_radius is_flag float_at word_at little float_bytes bytes of_bits to_bits neg lt le
taken_at_half precision = record { of_height = refl; not_refused = refl }

taken_at_t : (precision : Float) → Taken 4 transition_z precision (float_bytes transition_z ++ float_bytes plus_zero ++ float_bytes one ++ 1 ∷ [])
unfolding row_of cone_in_eqr given_of with_precision with_allowance needs_settings refusal_of first_failing finite_from flags_from in_range_from finite_of is_height is_radius is_flag float_at word_at little float_bytes bytes of_bits to_bits neg lt le
taken_at_t precision = record { of_height = refl; not_refused = refl }

taken_in_south : (precision : Float)
    → Taken 5 minus_seven_tenths precision (float_bytes minus_seven_tenths ++ float_bytes plus_zero ++ float_bytes plus_zero ++ float_bytes one ++ 1 ∷ 1 ∷ [])
unfolding row_of cone_in_pc given_of with_precision with_allowance needs_settings refusal_of first_failing finite_from flags_from in_range_from finite_of is_height is_lon_mod_half_pi is_radius is_flag float_at word_at little float_bytes bytes of_bits to_bits neg round lt le
taken_in_south precision = record { of_height = refl; not_refused = refl }

cones : ConeExamples
unfolding status_of reply_bytes answer_bytes cone_bytes height_bytes numbers_of kind_alone float_bytes bytes of_bits to_bits
cones =
    record {
      at_half = λ precision b k. reply_in_eqr k ∙ rw (half_found precision _ _ _) refl;
      at_t = λ precision b k. reply_in_eqr k ∙ rw (t_rejected precision _ _ _) refl;
      in_south = λ precision b k. reply_in_pc k ∙ rw (south_found precision _ _ _ _ _) refl;
      taken_at_half = taken_at_half;
      taken_at_t = taken_at_t;
      taken_in_south = taken_in_south;
    }

pub examples : Examples
examples = record { of_root = root_examples; of_signs = signs; of_limits = limits; of_cones = cones }
