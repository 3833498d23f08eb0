-- One command, for any row of the table: document 01's refusals 6 to 9 in checking order, the reply, the state left, and the walks that begin.
-- Definitions, and two claims, on the length of a reply and on what refuses first; `proofs/ReplyLengths.antt` and `proofs/Statuses.antt` prove them.
use Rattle.std.specs.Prelude.{eqb, Float, length, get_or, replicate, ℕ, ◌+◌, ◌*◌, ◌≡◌, Bool, true, cond, not, ◌&&◌, List, [], ◌∷◌, Option, None, Some, Result, Ok, Err}
use Rattle.angles.specs.Floats.{finite_of}
use Rattle.newton.specs.declared.walk.Start.{Start}
use Rattle.words.specs.Words.{float_at}
use Rattle.answers.specs.Bytes.{cone_bytes, slots_bytes, crossing_bytes}
use Rattle.plans.specs.Plans.{slot_at, walks_in}
use Rattle.special_points_finder.specs.Arcs.{slots_at}
use Rattle.plans.specs.declared.plan.Plan.{Plan}
use Rattle.table.specs.States.{Given, given_of, most_steps, changed}
use Rattle.table.specs.Refusals.{refusal_number}
use Rattle.table.specs.Rows.{Row, Work, refused, accepted, slots, cone, crossing}
use Rattle.table.specs.Table.{row_of, answer_width}
use Rattle.table.specs.declared.state.State.{State}
use Rattle.table.specs.declared.reply.Reply.{Reply}
use Rattle.table.specs.declared.reply.Reply.TheVariants.{Accepted, Slots, Cone, Crossing}
use Rattle.table.specs.declared.refusal.Refusal.{Refusal}
use Rattle.table.specs.declared.refusal.Refusal.TheVariants.{NotFinite, NotAFlag, OutOfRange}

-- 7: every float operand, from the k-th on, is finite
unfoldable pub finite_from : Bool → ℕ → List (Float → Bool) → List ℕ → Bool
finite_from so k [] b = so
finite_from so k (range ∷ rest) b = finite_from (so && finite_of (float_at b k)) (k + 1) rest b

-- 8: every byte operand, from this place on, is what its row asks
unfoldable pub flags_from : Bool → ℕ → List (ℕ → Bool) → List ℕ → Bool
flags_from so place [] b = so
flags_from so place (flag ∷ rest) b = flags_from (so && flag (get_or b place 0)) (place + 1) rest b

-- 9: every float operand, from the k-th on, lies in its range
unfoldable pub in_range_from : Bool → ℕ → List (Float → Bool) → List ℕ → Bool
in_range_from so k [] b = so
in_range_from so k (range ∷ rest) b = in_range_from (so && range (float_at b k)) (k + 1) rest b

-- what refuses by what is given, or the first that does not hold: 7 finite, 8 flags, 9 in range
unfoldable pub first_failing : Option Refusal → Bool → Bool → Bool → Option Refusal
first_failing (Some refusal) finite flags ranged = Some refusal
first_failing None finite flags ranged =
    cond (not finite) (Some NotFinite) (cond (not flags) (Some NotAFlag) (cond (not ranged) (Some OutOfRange) None))

unfoldable pub refusal_of : Row → Given → List ℕ → Option Refusal
refusal_of r g b =
    first_failing
    (r.needs g)
    (finite_from true 0 r.floats b)
    (flags_from true (8 * length r.floats) r.flags b)
    (in_range_from true 0 r.floats b)

-- what a command comes to, refused or not
abbrev pub work_unless : Option Refusal → Work → Work
work_unless (Some refusal) w = refused refusal
work_unless None w = w

unfoldable pub work_of : Row → Given → List ℕ → Work
work_of r g b = work_unless (refusal_of r g b) (r.work g b)

unfoldable pub status_in : Work → ℕ
status_in (refused refusal) = refusal_number refusal
status_in accepted = 0
status_in (slots plan) = 0
status_in (cone plan) = 0
status_in (crossing a) = 0

-- run with an allowance
unfoldable pub reply_in : ℕ → Work → Result Reply Refusal
reply_in n (refused refusal) = Err refusal
reply_in n accepted = Ok Accepted
reply_in n (slots plan) = Ok (Slots (slots_at n plan))
reply_in n (cone plan) = Ok (Cone (slot_at n plan))
reply_in n (crossing a) = Ok (Crossing a)

-- the plans in the order of the slots: a walk begins for each that says so
unfoldable pub plans_in : Work → List Plan
plans_in (refused refusal) = []
plans_in accepted = []
plans_in (slots plan) = plan.south.first ∷ plan.south.second ∷ plan.equator ∷ plan.north.first ∷ plan.north.second ∷ []
plans_in (cone plan) = plan ∷ []
plans_in (crossing a) = []

-- a refused command leaves the state as it was
unfoldable pub left_in : Row → State → List ℕ → State
left_in r s b = cond (eqb (status_in (work_of r (given_of s) b)) 0) (changed (r.change b) s) s

-- one turn: the reply, and the state that it leaves
pub record Turn : Type 0 where
  pub reply : Result Reply Refusal
  pub state : State

unfoldable pub turn_of : Row → State → List ℕ → Turn
turn_of r s b =
    record { reply = reply_in (most_steps s.allowance) (work_of r (given_of s) b); state = left_in r s b }

-- the number of the refusal is the status
unfoldable pub status_of : Result Reply Refusal → ℕ
status_of (Err refusal) = refusal_number refusal
status_of (Ok reply) = 0

-- what follows code and status: for a refused job zeros, as many as its code's answer has bytes
unfoldable pub answer_bytes : ℕ → Result Reply Refusal → List ℕ
answer_bytes width (Err refusal) = replicate width 0
answer_bytes width (Ok Accepted) = []
answer_bytes width (Ok (Slots s)) = slots_bytes s
answer_bytes width (Ok (Cone s)) = cone_bytes s
answer_bytes width (Ok (Crossing a)) = crossing_bytes a

-- code, number and zeros, which `reply_bytes` has for a refusal
unfoldable pub refused_bytes : ℕ → ℕ → List ℕ
refused_bytes code number = code ∷ number ∷ replicate (answer_width code) 0

-- a width that the answer fills
abbrev pub Fits : Result Reply Refusal → ℕ → Type 0
Fits r width = length (answer_bytes width r) ≡ width

unfoldable pub reply_bytes : ℕ → Result Reply Refusal → List ℕ
reply_bytes code r = code ∷ status_of r ∷ answer_bytes (answer_width code) r

-- of a command, from its code and the bytes of its operands: the reply, the state left, what it has for each slot before any walk, and the walks that begin
unfoldable pub reply_of : State → ℕ → List ℕ → List ℕ
reply_of s code b = reply_bytes code (turn_of (row_of code) s b).reply

unfoldable pub after : State → ℕ → List ℕ → State
after s code b = (turn_of (row_of code) s b).state

abbrev pub plans_of : State → ℕ → List ℕ → List Plan
plans_of s code b = plans_in (work_of (row_of code) (given_of s) b)

unfoldable pub walks_of : State → ℕ → List ℕ → List Start
walks_of s code b = walks_in (plans_of s code b)

-- Every reply is as long as the table says for its code, refused or not.
abbrev pub ReplyLength : Type 0
ReplyLength = (s : State) (code : ℕ) (b : List ℕ) → length (reply_of s code b) ≡ 2 + answer_width code

-- What refuses by what is given comes before 7 to 9.
abbrev pub GivenFirst : Type 0
GivenFirst = (refusal : Refusal) (finite flags ranged : Bool) → first_failing (Some refusal) finite flags ranged ≡ Some refusal
