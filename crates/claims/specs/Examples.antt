-- Document 01, "Examples": the starred ones, as one joint fact of the specification. Those of the root stand in root/specs/RootExamples.antt.
-- Definitions and the claim; `proofs/Examples.antt` has it computed.
use Rattle.std.specs.Prelude.{Float, replicate, ℕ, ◌≡◌, true, false, List, [], ◌∷◌, ◌++◌, None}
use Rattle.std.specs.Float.{nan, binary64}
use Rattle.std.specs.Float.Ieee.{neg, round}
use Rattle.root_rule.specs.RootExamples.{RootExamples}
use Rattle.angles.specs.Floats.{plus_zero, one}
use Rattle.angles.specs.Constants.{half, two, three, transition_z, least_limit}
use Rattle.newton.specs.Slopes.{have_same_sign}
use Rattle.newton.specs.Walks.{limit_of}
use Rattle.words.specs.Words.{float_at, float_bytes}
use Rattle.table.specs.States.{unset, given_of, with_precision, with_allowance}
use Rattle.table.specs.Table.{row_of}
use Rattle.table.specs.Turns.{refusal_of, reply_of}
use Rattle.table.specs.declared.state.State.{State}

-- "Signs of (0, −3) same; (1, −1) not; (NaN, −1) same."
pub record SignExamples : Type 0 where
  pub zero : have_same_sign plus_zero (neg three) ≡ true
  pub unlike : have_same_sign one (neg one) ≡ false
  pub of_nan : have_same_sign nan (neg one) ≡ true

-- "Precision 1, radius 2: limit 0.04. Precision −1: 1e-15."
pub record LimitExamples : Type 0 where
  pub of_one : limit_of one two ≡ round binary64 false 4 100
  pub of_minus_one : limit_of (neg one) two ≡ least_limit

abbrev pub minus_seven_tenths : Float
minus_seven_tenths = round binary64 true 7 10

-- settings with allowance 0
abbrev pub with_no_steps : Float → State
with_no_steps precision = with_allowance (with_precision unset precision) 0

-- a command of this code and these operands, that none of 6 to 9 refuses, with z for its first operand
pub record Taken (code : ℕ) (z precision : Float) (b : List ℕ) : Type 0 where
  pub of_height : float_at b 0 ≡ z
  pub not_refused : refusal_of (row_of code) (given_of (with_no_steps precision)) b ≡ None

abbrev pub Replies : ℕ → Float → List ℕ → Type 0
Replies code z reply = (precision : Float) (b : List ℕ) → Taken code z precision b → reply_of (with_no_steps precision) code b ≡ reply

-- "Allowance 0, code 04: z 0.5 gives kind 3, steps 0, 0.5; z = T gives kind 2. Code 05: z −0.7 gives 3 and −0.7." Whatever the precision and the other
-- operands are; with z0 and lon mod π/2 0, radius 1 and each side byte 1 they are taken.
pub record ConeExamples : Type 0 where
  pub at_half : Replies 4 half (4 ∷ 0 ∷ 3 ∷ 0 ∷ float_bytes half)
  pub at_t : Replies 4 transition_z (4 ∷ 0 ∷ 2 ∷ 0 ∷ replicate 8 0)
  pub in_south : Replies 5 minus_seven_tenths (5 ∷ 0 ∷ 3 ∷ 0 ∷ float_bytes minus_seven_tenths)
  pub taken_at_half : (precision : Float) → Taken 4 half precision (float_bytes half ++ float_bytes plus_zero ++ float_bytes one ++ 1 ∷ [])
  pub taken_at_t : (precision : Float) → Taken 4 transition_z precision (float_bytes transition_z ++ float_bytes plus_zero ++ float_bytes one ++ 1 ∷ [])
  pub taken_in_south : (precision : Float) → Taken 5 minus_seven_tenths precision (float_bytes minus_seven_tenths ++ float_bytes plus_zero ++ float_bytes plus_zero ++ float_bytes one ++ 1 ∷ 1 ∷ [])

pub record Examples : Type 0 where
  pub of_root : RootExamples
  pub of_signs : SignExamples
  pub of_limits : LimitExamples
  pub of_cones : ConeExamples
