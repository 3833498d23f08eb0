-- Document 01, "Jobs and replies": the five slots of an arc: south cap first and second, equator, north cap first and second. Definitions only.
use Rattle.std.specs.Prelude.{Float, ℕ, Option, None, Some, Result, Ok, Err}
use Rattle.coo3d.specs.Points.{vect_of}
use Rattle.coo3d.specs.declared.regions.Cap.{Cap}
use Rattle.coo3d.specs.declared.regions.Regions.{Regions}
use Rattle.plans.specs.Plans.{cap_plan, slot_at, cap_slots_at}
use Rattle.special_points_finder.specs.Equator.{arc_plan_in_eqr}
use Rattle.caps.specs.Caps.{arc_plan_in_pc}
use Rattle.plans.specs.declared.plan.Plan.{Plan}
use Rattle.plans.specs.declared.plan.Plan.TheVariants.{NoPiece}
use Rattle.splits.specs.Splits.{Pieces, Split}
use Rattle.splits.specs.declared.split.Piece.{Piece}
use Rattle.splits.specs.declared.split.Unsplit.{Unsplit}
use Rattle.answers.specs.Bytes.{Slots}

-- the plans for a piece in a cap, and for one in the equatorial region
unfoldable pub plan_in_pc : Option Piece → Float → Cap Plan
plan_in_pc None precision = cap_plan NoPiece NoPiece
plan_in_pc (Some p) precision = arc_plan_in_pc p.from p.to precision

unfoldable pub plan_in_eqr : Option Piece → Float → Plan
plan_in_eqr None precision = NoPiece
plan_in_eqr (Some p) precision = arc_plan_in_eqr (vect_of p.from) (vect_of p.to) precision

-- the plans of the five slots
abbrev pub ArcPlan : Type 0
ArcPlan = Regions (Cap Plan) Plan

unfoldable pub arc_plan : Pieces → Float → ArcPlan
arc_plan r precision =
    record {
      south = plan_in_pc r.south precision;
      equator = plan_in_eqr r.equator precision;
      north = plan_in_pc r.north precision;
    }

unfoldable pub slots_at : ℕ → ArcPlan → Slots
slots_at n p =
    record { south = cap_slots_at n p.south; equator = slot_at n p.equator; north = cap_slots_at n p.north }

-- what an arc answers with an allowance, once it is split; where it can't be, status 10
unfoldable pub arc_at : ℕ → Split → Float → Result Slots Unsplit
arc_at n (Ok pieces) precision = Ok (slots_at n (arc_plan pieces precision))
arc_at n (Err unsplit) precision = Err unsplit
