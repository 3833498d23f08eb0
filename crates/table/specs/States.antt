-- Document 01, "Refusals": what a file keeps from command to command, the settings: precision and allowance, each set or not. Definitions only.
use Rattle.std.specs.Prelude.{Float, ℕ, Bool, ◌&&◌, cond, Option, None, Some, is_some, unwrap_or}
use Rattle.angles.specs.Floats.{plus_zero}
use Rattle.table.specs.declared.refusal.Refusal.{Refusal}
use Rattle.table.specs.declared.refusal.Refusal.TheVariants.{Unset}
use Rattle.table.specs.declared.state.State.{State}

-- every file begins with both unset
abbrev pub unset : State
unset = record { precision = None; allowance = None }

-- what a command is given before any walk: of the allowance only whether it is set
pub record Given : Type 0 where
  pub precision : Option Float
  pub allowed : Bool

unfoldable pub given_of : State → Given
given_of s = record { precision = s.precision; allowed = is_some s.allowance }

-- 6: precision or allowance not set
unfoldable pub needs_settings : Given → Option Refusal
needs_settings g = cond (is_some g.precision && g.allowed) None (Some Unset)

-- no job that needs one is answered while it is unset, so its value is no matter then
abbrev pub precision_in : Given → Float
precision_in g = unwrap_or g.precision plus_zero

abbrev pub most_steps : Option ℕ → ℕ
most_steps a = unwrap_or a 0

-- what an accepted command makes of the state
pub data Change : Type 0 where
  keeps : Change
  sets_precision : Float → Change
  sets_allowance : ℕ → Change

unfoldable pub with_precision : State → Float → State
with_precision s p = record { precision = Some p; allowance = s.allowance }

unfoldable pub with_allowance : State → ℕ → State
with_allowance s n = record { precision = s.precision; allowance = Some n }

unfoldable pub changed : Change → State → State
changed keeps s = s
changed (sets_precision p) s = with_precision s p
changed (sets_allowance n) s = with_allowance s n
