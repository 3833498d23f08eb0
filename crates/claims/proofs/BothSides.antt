-- Both sides of each "exactly when" (specs/BothSides.antt), each by its theorem; what it asks of the example is computed.
use Rattle.std.specs.Prelude.{None, Ok, Err}
use lib.Ieee.{Float, of_bits, of_int, to_bits, neg, add, sub, mul, div, lt, le, ne}
use lib.ListN.{length, get_or, length-replicate}
use Prim.Native.Nat.{ℕ, zero, suc, ◌≤◌}
use native.Mathlib.Omega.{arith}
use mathlib.Core.Path.{◌≡◌, refl, sym, ap, ◌∙◌}
use mathlib.Core.Bool.{Bool, true, false, true≢false}
use mathlib.Core.Logic.{inl, inr, ⊎_elim}
use mathlib.Core.List.{List, [], ◌∷◌, ◌++◌}
use Rattle.root.specs.Root.{root_of}
use Rattle.angles.specs.Floats.{plus_zero, one, sign_of, abs_of, signed_of, finite_of, min_of, max_of}
use Rattle.angles.specs.Constants.{half, half_pi, transition_z}
use Rattle.angles.specs.Inverse.{horner, half_angle, arctangent_of, first_quadrant, reflected_of, atan2_of}
use Rattle.angles.specs.Circular.{◌!, sine_series, cosine_series, within_quarter_turn, quarter_turns, turned_by, signed_sine, sin_cos_of}
use Rattle.coo3d.specs.Vectors.{dot_of, cross_of, squared_norm_of, norm_of, divided_by, normalized_of}
use Rattle.coo3d.specs.LonLats.{is_longitude, is_latitude, vec3_of}
use Rattle.coo3d.specs.Points.{coo3_d, from_sph_coo, vect_of}
use Rattle.coo3d.specs.declared.point.Coo3D.{Coo3D}
use Rattle.crossing.specs.GreatArcs.{great_arc, passes_of}
use Rattle.crossing.specs.Parallels.{Crossing, strictly_between, first_that_passes, near_meridian, quadratic, rule_of, by_rule, crossing_by, crossing_of, intersect_parallel}
use Rattle.crossing.specs.declared.parallel.NoCrossing.TheVariants as crossing
use Rattle.newton.specs.Slopes.{cone_of, terms_of, second_of, f_over_df_eqr, ratio_at}
use Rattle.newton.specs.Regions.{cte_eqr}
use Rattle.newton.specs.Walks.{limit_of, start_walk, going_of, step_of, walk_from, walk_of}
use Rattle.newton.specs.WalkAllowances.{free_steps, EndsWithin, EqualOrEnds}
use Rattle.newton.proofs.WalkAllowances.{two_allowances}
use Rattle.words.specs.Words.{little, word_at, float_at, bytes, float_bytes}
use Rattle.plans.specs.Plans.{slot_at, slots_of, steps_of, steps_at, walks_in}
use Rattle.plans.specs.PlanAllowances.{AllEqualOrEnd}
use Rattle.plans.specs.declared.plan.Plan.{Plan}
use Rattle.plans.specs.declared.plan.Plan.TheVariants.{Begins}
use Rattle.plans.specs.declared.ending.Ending.TheVariants.{EqrCone}
use Rattle.special_points_finder.specs.Cones.{cone_of_radius, cone_plan_in_eqr}
use Rattle.splits.specs.Splits.{lower_end, upper_end, NeededOfKind5, CrossingOfKind5}
use Rattle.table.specs.States.{unset, given_of, needs_settings, changed, with_precision, with_allowance}
use Rattle.table.specs.Rows.{is_height, is_radius, is_flag}
use Rattle.table.specs.Table.{first_end, second_end, precision, allowance, arc, cone_in_eqr, row_of, width_in, operand_width, answer_width}
use Rattle.table.specs.Turns.{finite_from, flags_from, in_range_from, first_failing, refusal_of, work_of, status_in, plans_in, left_in, turn_of, after, walks_of}
use Rattle.table.proofs.Steps.{step_bytes_lem}
use Rattle.table.proofs.StatusTen.{status_ten}
use Rattle.jobs.specs.Files.{file_of, run_file}
use Rattle.jobs.specs.Passes.{accepted as accepts, checked_of}
use Rattle.claims.specs.Alike.{allowances_from, is_allowance, Alike}
use Rattle.claims.specs.TwoFiles.{Accepted, begun_in}
use Rattle.claims.specs.EachReply.{Told, told_in, EachPair, no_pair, pair, OfEachPair, steps_told, Fewer}
use Rattle.claims.specs.BothSides.{radius, job_with, walk, SidesOfWalk, SidesOfTwoFiles, of_precision, of_allowance, of_cone, SidesOfReplies, room, SidesOfTwoRuns, from_south_pole, ready, SidesOfStatusTen}
use Rattle.jobs.proofs.Passes.{accepted_run}
use Rattle.claims.proofs.TwoFiles.{demand_3, demand_3_of_runs}
use Rattle.claims.proofs.EachReply.{reply_by_reply, slot_by_slot, walks_ended, one_run_tells}

-- ---- the walk
goes_on : going_of walk.limit (start_walk walk.z) ≡ true
unfolding going_of start_walk limit_of min_of max_of abs_of of_bits add mul lt ne
goes_on = refl

ended : going_of walk.limit (free_steps walk.slope 1 (start_walk walk.z)) ≡ false
unfolding going_of start_walk limit_of min_of max_of abs_of free_steps step_of ratio_at f_over_df_eqr terms_of second_of cone_of cone_of_radius cte_eqr root_of of_bits neg add sub mul div lt ne
ended = refl

ends : EqualOrEnds 1 2 walk
ends = inr (record { after = 1; in_time = omega arith; ended = ended })

not_at_once : EndsWithin walk 0 → ⊥
unfolding free_steps
not_at_once e = by e.after e.in_time e.ended
  where
    by : (k : ℕ) → k ≤ 0 → going_of walk.limit (free_steps walk.slope k (start_walk walk.z)) ≡ false → ⊥
    by zero l h = true≢false (sym goes_on ∙ h)
    by (suc k) l h = omega arith

neither : EqualOrEnds 0 1 walk → ⊥
neither = ⊎_elim (λ (e : ◌≡◌ {A = ℕ} 0 1). omega arith) not_at_once

one_step : (walk_of walk 2).steps ≡ 1
unfolding walk_of walk_from going_of start_walk limit_of min_of max_of abs_of step_of ratio_at f_over_df_eqr terms_of second_of cone_of cone_of_radius cte_eqr root_of of_bits neg add sub mul div lt ne
one_step = refl

pub sides_of_walk : SidesOfWalk
sides_of_walk =
    record {
      equal = (two_allowances walk 1 2).law.1 ends;
      unlike = λ h. neither ((two_allowances walk 0 1).law.0 h);
    }

-- ---- two files
accepted : (n : ℕ) → Accepted (job_with n)
unfolding file_of operand_width width_in row_of precision allowance cone_in_eqr float_bytes bytes to_bits of_bits add
accepted n = tt

begun : (n : ℕ) → begun_in (job_with n) ≡ record { walk = walk; allowance = n } ∷ []
unfolding begun_in file_of operand_width width_in row_of precision allowance cone_in_eqr float_bytes bytes to_bits of_bits add walks_of after turn_of left_in work_of refusal_of first_failing finite_from flags_from in_range_from finite_of is_height is_radius is_flag given_of needs_settings changed with_precision with_allowance status_in plans_in walks_in cone_plan_in_eqr float_at word_at little neg lt le
begun n = refl

-- the allowance stands at place 10
other_places : (first : List ℕ) (x y : ℕ) (rest : List ℕ) (place : ℕ)
    → (place ≡ length first → ⊥)
    → get_or (first ++ x ∷ rest) place 0 ≡ get_or (first ++ y ∷ rest) place 0
other_places [] x y rest zero n = absurd (n refl)
other_places [] x y rest (suc place) n = refl
other_places (b ∷ first) x y rest zero n = refl
other_places (b ∷ first) x y rest (suc place) n = other_places first x y rest place (λ e. n (ap suc e))

marked : (n : ℕ) → is_allowance (job_with n) 10 ≡ true
unfolding is_allowance allowances_from operand_width width_in row_of precision allowance float_bytes bytes to_bits of_bits
marked n = refl

alike : (n m : ℕ) → Alike (job_with n) (job_with m)
unfolding float_bytes bytes
alike n m =
    record {
      same_length = refl;
      same_bytes = λ place h. other_places (1 ∷ float_bytes one ++ 2 ∷ []) n m (4 ∷ float_bytes half ++ float_bytes half ++ float_bytes radius ++ 0 ∷ 0 ∷ []) place
          (λ (e : place ≡ 10). true≢false (sym (marked n) ∙ (rw e at h)));
    }

pub sides_of_two_files : SidesOfTwoFiles
sides_of_two_files =
    record {
      begun = begun;
      equal = (demand_3 (job_with 1) (job_with 2) (accepted 1) (accepted 2) (alike 1 2)).law.1 (rw (begun 1, begun 2) (ends, tt));
      unlike = λ h. neither (rw (begun 0, begun 1) at ((demand_3 (job_with 0) (job_with 1) (accepted 0) (accepted 1) (alike 0 1)).law.0 h)).0;
    }

-- ---- replies
replies : (n : ℕ) → told_in (job_with n) ≡ of_precision ∷ of_allowance n ∷ of_cone n ∷ []
unfolding file_of operand_width width_in row_of precision allowance cone_in_eqr float_bytes bytes to_bits of_bits add after turn_of left_in work_of refusal_of first_failing finite_from flags_from in_range_from finite_of given_of changed with_precision with_allowance status_in float_at word_at little
replies n = refl

plans : (n : ℕ) → (of_cone n).plans ≡ Begins walk EqrCone ∷ []
unfolding row_of cone_in_eqr float_bytes bytes to_bits of_bits add work_of refusal_of first_failing finite_from flags_from in_range_from finite_of is_height is_radius is_flag given_of needs_settings with_precision with_allowance plans_in cone_plan_in_eqr float_at word_at little neg lt le
plans n = refl

-- its one slot has one step
steps_of_cone : (i : ℕ) → steps_told i (of_cone 2) ≡ get_or (1 ∷ []) i 0
unfolding with_allowance steps_of slots_of slot_at
steps_of_cone i =
    let bytes = step_bytes_lem (with_allowance (with_precision unset one) 2) 4 (float_bytes half ++ float_bytes half ++ float_bytes radius ++ 0 ∷ []) i in
    bytes ∙ ap (λ (ps : List Plan). steps_at i (slots_of 2 ps)) (plans 2) ∙ ap (λ (n : ℕ). get_or (n ∷ []) i 0) one_step

at_most_1 : (i : ℕ) → steps_told i (of_cone 2) ≤ 1
at_most_1 zero = omega (arith, steps_of_cone 0)
at_most_1 (suc i) = omega (arith, steps_of_cone (suc i))

below_2 : (i : ℕ) → Fewer i (of_cone 2)
below_2 i = omega (arith, at_most_1 i)

third : {P : Told → Told → Type 0} {t u v t' u' v' : Told} → EachPair P (t ∷ u ∷ v ∷ []) (t' ∷ u' ∷ v' ∷ []) → P v v'
third (pair x (pair y (pair z no_pair))) = z

of_cones : {P : Told → Told → Type 0} → OfEachPair P → (n m : ℕ) → P (of_cone n) (of_cone m)
of_cones f n m = third (rw (replies n, replies m) at (f (job_with n) (job_with m) (alike n m)))

pub sides_of_replies : SidesOfReplies
unfolding walks_in AllEqualOrEnd
sides_of_replies =
    let law = of_cones reply_by_reply in
    let steps = of_cones slot_by_slot in
    let tells = of_cones one_run_tells 2 in
    record {
      replies = replies;
      equal = (law 1 2).law.1 (rw (plans 1) (ends, tt));
      unlike = λ h. neither (rw (plans 0) at ((law 0 1).law.0 h)).0;
      equal_steps = (steps 1 2 0).1 (rw (plans 1) (ends, tt));
      unlike_steps = λ h. neither (rw (plans 0) at ((steps 0 1 0).0 h)).0;
      below = below_2;
      ended = (rw (plans 2) at (rw (replies 2) at (walks_ended (job_with 2)))).1.1.0 0 (below_2 0);
      same_for_1 = (tells 1 below_2).1 at_most_1;
      not_for_0 = λ h. omega (arith, (tells 0 below_2).0 h 0, steps_of_cone 0);
    }

-- ---- two runs
checked : (n : ℕ) → checked_of 0 (file_of (job_with n)) ≡ accepts 16
unfolding file_of operand_width answer_width width_in row_of precision allowance cone_in_eqr float_bytes bytes
checked n = refl

runs : (n : ℕ) → (run_file (job_with n) room).number ≡ 0
unfolding run_file
runs n = rw (accepted_run 16 (length (job_with n)) room (job_with n) (checked n) (omega (arith, length-replicate {A = ℕ} 16 0))) refl

pub sides_of_two_runs : SidesOfTwoRuns
sides_of_two_runs =
    record {
      equal = (demand_3_of_runs (job_with 1) (job_with 2) room room (runs 1) (runs 2) (alike 1 2)).1 (rw (begun 1, begun 2) (ends, tt));
      unlike =
          λ h. neither (rw (begun 0, begun 1) at ((demand_3_of_runs (job_with 0) (job_with 1) room room (runs 0) (runs 1) (alike 0 1)).0 h)).0;
    }

-- ---- status 10
south_pole : Coo3D
south_pole = coo3_d (neg plus_zero) (neg plus_zero) (neg one) plus_zero (neg half_pi)

north_pole : Coo3D
north_pole = coo3_d (neg plus_zero) (neg plus_zero) one plus_zero half_pi

on_equator : Coo3D
on_equator = coo3_d one plus_zero plus_zero plus_zero plus_zero

points : (from_sph_coo plus_zero (neg half_pi) ≡ south_pole) × (from_sph_coo plus_zero half_pi ≡ north_pole) × (from_sph_coo plus_zero plus_zero ≡ on_equator)
unfolding from_sph_coo vec3_of sin_cos_of quarter_turns turned_by signed_sine within_quarter_turn sine_series cosine_series horner ◌! is_longitude is_latitude abs_of sign_of of_bits of_int neg add sub mul div lt le ne south_pole north_pole on_equator
points = (refl, refl, refl)

first_end_lem : (lat : Float) → first_end (from_south_pole lat) ≡ south_pole
unfolding float_at word_at little float_bytes bytes to_bits of_bits neg
first_end_lem lat = points.0

second_end_lem : (second_end (from_south_pole half_pi) ≡ north_pole) × (second_end (from_south_pole plus_zero) ≡ on_equator)
unfolding float_at word_at little float_bytes bytes to_bits of_bits
second_end_lem = (points.1, points.2)

abbrev is_kind5 : Crossing → Bool
is_kind5 (Ok v) = false
is_kind5 (Err crossing.NotBetween) = false
is_kind5 (Err crossing.NoRoot) = true

-- the crossing with −T: of kind 5 from pole to pole, and not from the pole to the equator
crossings : NeededOfKind5 (neg transition_z) south_pole north_pole
    × (is_kind5 (intersect_parallel (vect_of south_pole) (vect_of on_equator) (neg transition_z)) ≡ false)
unfolding intersect_parallel crossing_of crossing_by great_arc rule_of by_rule strictly_between near_meridian quadratic first_that_passes passes_of dot_of cross_of norm_of squared_norm_of normalized_of divided_by vect_of atan2_of signed_of sign_of reflected_of first_quadrant arctangent_of half_angle horner finite_of root_of abs_of of_bits of_int neg add sub mul div lt le south_pole north_pole on_equator
crossings = (record { above_p1 = refl; below_p2 = refl; of_kind_5 = refl }, refl)

-- the arc is given with its lower end first
abbrev AtKind5 : List ℕ → Type 0
AtKind5 b = CrossingOfKind5 (lower_end (first_end b) (second_end b)) (upper_end (first_end b) (second_end b))

upwards : (lat : Float) (p : Coo3D) → second_end (from_south_pole lat) ≡ p → lt p.z south_pole.z ≡ false → AtKind5 (from_south_pole lat) ≡ CrossingOfKind5 south_pole p
upwards lat p e l = rw (first_end_lem lat, e, l) refl

to_north_pole : AtKind5 (from_south_pole half_pi) ≡ CrossingOfKind5 south_pole north_pole
unfolding of_bits neg lt south_pole north_pole
to_north_pole = upwards half_pi north_pole second_end_lem.0 refl

to_equator : AtKind5 (from_south_pole plus_zero) ≡ CrossingOfKind5 south_pole on_equator
unfolding of_bits neg lt south_pole on_equator
to_equator = upwards plus_zero on_equator second_end_lem.1 refl

-- none of 6 to 9 refuses it
abbrev Taken : Float → Type 0
Taken lat = refusal_of (row_of 3) (given_of ready) (from_south_pole lat) ≡ None

taken : Taken half_pi × Taken plus_zero
unfolding row_of arc given_of with_precision with_allowance needs_settings refusal_of first_failing finite_from flags_from in_range_from finite_of is_longitude is_latitude float_at word_at little float_bytes bytes of_bits to_bits neg lt le
taken = (refl, refl)

none_of_kind_5 : CrossingOfKind5 south_pole on_equator → ⊥
unfolding of_bits lt on_equator
none_of_kind_5 (inl k) = true≢false (sym (ap is_kind5 k.of_kind_5) ∙ crossings.1)
none_of_kind_5 (inr k) = true≢false (sym k.below_p2)

pub sides_of_status_ten : SidesOfStatusTen
sides_of_status_ten =
    record {
      ten =
          (status_ten ready 3 (from_south_pole half_pi)).1
          (record { is_arc = refl; not_refused = taken.0; kind_5 = rw to_north_pole (inl crossings.0) });
      taken = taken.1;
      not_ten =
          λ h. none_of_kind_5 (rw to_equator at ((status_ten ready 3 (from_south_pole plus_zero)).0 h).kind_5);
    }
