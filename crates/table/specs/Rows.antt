-- What a row of the table of commands says (document 01, "Jobs and replies"). Definitions only; the rows stand in Table.antt.
use Rattle.std.specs.Prelude.{leb, Float, ℕ, Bool, true, ◌&&◌, List, [], ◌∷◌, Option, None}
use Rattle.std.specs.Float.Ieee.{neg, lt, le}
use Rattle.angles.specs.Floats.{plus_zero, one}
use Rattle.angles.specs.Constants.{two, half_pi}
use Rattle.answers.specs.declared.answer.Answer.{Answer}
use Rattle.special_points_finder.specs.Arcs.{ArcPlan}
use Rattle.plans.specs.declared.plan.Plan.{Plan}
use Rattle.table.specs.States.{Given, Change}
use Rattle.table.specs.declared.refusal.Refusal.{Refusal}

-- 9: a longitude lies in [0, 2π), a latitude in [−π/2, π/2] (`is_longitude` and `is_latitude` of coo3d), z and z0 in [−1, 1], a radius in (0, 2],
-- lon mod π/2 in [0, π/2)
unfoldable pub is_height : Float → Bool
is_height z = le (neg one) z && le z one

unfoldable pub is_radius : Float → Bool
is_radius r = lt plus_zero r && le r two

unfoldable pub is_lon_mod_half_pi : Float → Bool
is_lon_mod_half_pi lon = le plus_zero lon && lt lon half_pi

abbrev pub any_float : Float → Bool
any_float x = true

-- 8: a north or east byte is 0 or 1
unfoldable pub is_flag : ℕ → Bool
is_flag b = leb b 1

abbrev pub any_byte : ℕ → Bool
any_byte b = true

-- What a command comes to, before any walk and so without an allowance.
pub data Work : Type 0 where
  -- refused: by 6 to 9 (`work_of`), or by its row, 10 or 12
  refused : Refusal → Work
  -- no answer after code and status
  accepted : Work
  -- five slots, by their plans
  slots : ArcPlan → Work
  -- kind, steps, z, by its plan
  cone : Plan → Work
  -- kind, lon, lat
  crossing : Answer → Work

-- The "reply after code and status": how many bytes it has, and the places of the steps among them, in the order of its slots.
pub record Form : Type 0 where
  pub width : ℕ
  pub steps : List ℕ

abbrev pub form : ℕ → List ℕ → Form
form width steps = record { width = width; steps = steps }

-- "none"
abbrev pub no_answer : Form
no_answer = form 0 []

-- "five slots"; "A slot is kind, steps (one byte each), lon, lat", so 18 bytes
abbrev pub five_slots : Form
five_slots = form 90 (1 ∷ 19 ∷ 37 ∷ 55 ∷ 73 ∷ [])

-- "kind, steps, z"
abbrev pub kind_steps_z : Form
kind_steps_z = form 10 (1 ∷ [])

-- "kind, lon, lat"
abbrev pub kind_lon_lat : Form
kind_lon_lat = form 17 []

-- A row: float operands, each with its range (9); byte operands after them, each with what 8 asks of it; the reply after code and status; what
-- refuses it by what is given (6), if anything does; what it comes to, of what is given and the operands' bytes; and what it makes of the state.
pub record Row : Type 0 where
  pub floats : List (Float → Bool)
  pub flags : List (ℕ → Bool)
  pub answer : Form
  pub needs : Given → Option Refusal
  pub work : Given → List ℕ → Work
  pub change : List ℕ → Change

abbrev pub needs_nothing : Given → Option Refusal
needs_nothing g = None
