-- One example on either side of each "exactly when": a walk, demand 3 of files and of replies, and status 10. `proofs/BothSides.antt` gets each by applying
-- the theorem, so that what it asks is met by something. Definitions and claims.
use Rattle.std.specs.Prelude.{Float, replicate, ℕ, ◌≡◌, false, List, [], ◌∷◌, ◌++◌, None, Some}
use Rattle.std.specs.Float.Ieee.{neg}
use Rattle.angles.specs.Floats.{◌⊕◌, plus_zero, one}
use Rattle.angles.specs.Constants.{half, half_pi}
use Rattle.newton.specs.Regions.{cte_eqr}
use Rattle.newton.specs.Walks.{limit_of, walk_of}
use Rattle.newton.specs.Slopes.{equatorial}
use Rattle.newton.specs.declared.walk.Start.{Start}
use Rattle.words.specs.Words.{float_bytes}
use Rattle.plans.specs.PlanAllowances.{AllEndWithin}
use Rattle.special_points_finder.specs.Cones.{cone_of_radius}
use Rattle.table.specs.States.{unset, given_of, with_precision, with_allowance}
use Rattle.table.specs.Table.{row_of}
use Rattle.table.specs.Turns.{refusal_of, reply_of}
use Rattle.table.specs.StatusTen.{status_byte}
use Rattle.table.specs.declared.state.State.{State}
use Rattle.lists.specs.TwoLists.{command}
use Rattle.jobs.specs.Files.{reply_file, run_file}
use Rattle.claims.specs.TwoFiles.{begun_in, written_bytes}
use Rattle.claims.specs.EachReply.{Told, told, told_in, steps_told, Fewer}

-- precision 1, this allowance, and one cone: z 0.5, z0 0.5, radius 1.5, its south point
abbrev pub radius : Float
radius = one ⊕ half

abbrev pub job_with : ℕ → List ℕ
job_with allowance =
    1 ∷ float_bytes one ++ 2 ∷ allowance ∷ 4 ∷ float_bytes half ++ float_bytes half ++ float_bytes radius ++ 0 ∷ 0 ∷ []

-- the walk that decides: its first step, of 0.007, ends it
abbrev pub walk : Start
walk = record { slope = equatorial (cone_of_radius half radius) (cte_eqr false); limit = limit_of one radius; z = half }

-- it ends by itself within 1, and not within 0
pub record SidesOfWalk : Type 0 where
  pub equal : walk_of walk 1 ≡ walk_of walk 2
  pub unlike : walk_of walk 0 ≡ walk_of walk 1 → ⊥

pub record SidesOfTwoFiles : Type 0 where
  pub begun : (allowance : ℕ) → begun_in (job_with allowance) ≡ record { walk = walk; allowance = allowance } ∷ []
  pub equal : reply_file (job_with 1) ≡ reply_file (job_with 2)
  pub unlike : reply_file (job_with 0) ≡ reply_file (job_with 1) → ⊥

-- the same of runs, into a buffer that is just long enough
abbrev pub room : List ℕ
room = replicate 16 0

abbrev pub written : ℕ → List ℕ
written allowance = written_bytes (run_file (job_with allowance) room)

pub record SidesOfTwoRuns : Type 0 where
  pub equal : written 1 ≡ written 2
  pub unlike : written 0 ≡ written 1 → ⊥

-- the replies of one such file, the cone's the third
abbrev pub of_precision : Told
of_precision = told None unset (command 1 (float_bytes one))

abbrev pub of_allowance : ℕ → Told
of_allowance allowance = told None (with_precision unset one) (command 2 (allowance ∷ []))

abbrev pub of_cone : ℕ → Told
of_cone allowance =
    told (Some allowance) (with_allowance (with_precision unset one) allowance)
    (command 4 (float_bytes half ++ float_bytes half ++ float_bytes radius ++ 0 ∷ []))

-- Its one step is below the allowance 2: its reply is the same for 1, and another for 0.
pub record SidesOfReplies : Type 0 where
  pub replies : (allowance : ℕ) → told_in (job_with allowance) ≡ of_precision ∷ of_allowance allowance ∷ of_cone allowance ∷ []
  pub equal : (of_cone 1).reply ≡ (of_cone 2).reply
  pub unlike : (of_cone 0).reply ≡ (of_cone 1).reply → ⊥
  pub equal_steps : steps_told 0 (of_cone 1) ≡ steps_told 0 (of_cone 2)
  pub unlike_steps : steps_told 0 (of_cone 0) ≡ steps_told 0 (of_cone 1) → ⊥
  pub below : (i : ℕ) → Fewer i (of_cone 2)
  pub ended : AllEndWithin (steps_told 0 (of_cone 2)) (walk ∷ [])
  pub same_for_1 : (of_cone 2).reply ≡ (of_cone 1).reply
  pub not_for_0 : (of_cone 2).reply ≡ (of_cone 0).reply → ⊥

-- an arc from the south pole up along longitude 0, to this latitude
abbrev pub from_south_pole : Float → List ℕ
from_south_pole lat = float_bytes plus_zero ++ float_bytes (neg half_pi) ++ float_bytes plus_zero ++ float_bytes lat

abbrev pub ready : State
ready = with_allowance (with_precision unset one) 1

-- Two poles tell no plane, so neither root of the crossing with −T passes. To the equator one does: that arc is not refused either, and its status isn't 10.
pub record SidesOfStatusTen : Type 0 where
  pub ten : status_byte (reply_of ready 3 (from_south_pole half_pi)) ≡ 10
  pub taken : refusal_of (row_of 3) (given_of ready) (from_south_pole plus_zero) ≡ None
  pub not_ten : status_byte (reply_of ready 3 (from_south_pole plus_zero)) ≡ 10 → ⊥
