-- The step bytes of a reply are the step counts of its slots' walks, and stand inside it: the claims of specs/Steps.antt.
use lib.Dec.{T, ltb, ltb→lt}
use lib.Ieee.Fits.{and_l, and_r}
use lib.ListN.{get_or, replicate}
use Prim.Native.Nat.{ℕ, zero, suc}
use mathlib.Core.Path.{◌≡◌, refl}
use mathlib.Core.Bool.{Bool, true, ◌&&◌}
use mathlib.Core.List.{List, [], ◌∷◌}
use Rattle.words.specs.Words.{bytes, float_bytes}
use Rattle.answers.specs.declared.answer.Answer.{Answer}
use Rattle.answers.specs.Bytes.{height_bytes, walked_bytes, cone_bytes, slot_bytes, slots_bytes}
use Rattle.plans.specs.Plans.{slots_of, steps_of, steps_at, cap_slots_at}
use Rattle.plans.specs.declared.plan.Plan.{Plan}
use Rattle.special_points_finder.specs.Arcs.{ArcPlan, slots_at}
use Rattle.table.specs.States.{given_of, most_steps}
use Rattle.table.specs.declared.refusal.Refusal.{Refusal}
use Rattle.table.specs.Rows.{Form, five_slots, kind_steps_z, kind_lon_lat, Work, refused, accepted, slots, cone, crossing}
use Rattle.table.specs.Table.{precision, allowance, arc, cone_in_eqr, cone_in_pc, parallel, two_arcs, row_of, answer_width}
use Rattle.table.specs.Turns.{work_of, reply_in, plans_in, turn_of, status_of, answer_bytes, reply_bytes, reply_of}
use Rattle.table.specs.Steps.{bytes_at, step_bytes, StepBytes, AllBelow, StepsWithin}
use Rattle.table.proofs.Cases.{by_computing}
use Rattle.table.proofs.Laws.{HasForm, form_of}

-- of what a command comes to, with an allowance, where the reply to its code has this form
abbrev Steps : Form → ℕ → ℕ → Work → Type 0
Steps f code n w = (i : ℕ) → get_or (step_bytes f (reply_bytes code (reply_in n w))) i 0 ≡ steps_at i (slots_of n (plans_in w))

-- ---- a refused or accepted command has no byte but 0 after its status
zeros : (width place : ℕ) → ◌≡◌ {A = ℕ} (get_or (replicate width 0) place 0) 0
zeros zero place = refl
zeros (suc width) zero = refl
zeros (suc width) (suc place) = zeros width place

no_steps : (places : List ℕ) (width i : ℕ) → ◌≡◌ {A = ℕ} (get_or (bytes_at places (replicate width 0)) i 0) 0
no_steps [] width i = refl
no_steps (place ∷ places) width zero = zeros width place
no_steps (place ∷ places) width (suc i) = no_steps places width i

steps_refused : (f : Form) (code n : ℕ) (refusal : Refusal) → Steps f code n (refused refusal)
unfolding reply_in plans_in reply_bytes status_of answer_bytes steps_of slots_of
steps_refused f code n refusal = no_steps f.steps (answer_width code)

steps_accepted : (f : Form) (code n : ℕ) → Steps f code n accepted
unfolding reply_in plans_in reply_bytes status_of answer_bytes steps_of slots_of
steps_accepted f code n = no_steps f.steps 0

-- ---- what the other forms of reply have
steps_slots : (code n : ℕ) (p : ArcPlan) → Steps five_slots code n (slots p)
unfolding reply_in plans_in slots_at cap_slots_at slots_of steps_of reply_bytes answer_bytes slots_bytes slot_bytes walked_bytes float_bytes bytes
steps_slots code n p zero = refl
steps_slots code n p (suc zero) = refl
steps_slots code n p (suc (suc zero)) = refl
steps_slots code n p (suc (suc (suc zero))) = refl
steps_slots code n p (suc (suc (suc (suc zero)))) = refl
steps_slots code n p (suc (suc (suc (suc (suc i))))) = refl

steps_cone : (code n : ℕ) (p : Plan) → Steps kind_steps_z code n (cone p)
unfolding reply_in plans_in slots_of steps_of reply_bytes answer_bytes cone_bytes height_bytes
steps_cone code n p zero = refl
steps_cone code n p (suc i) = refl

steps_crossing : (code n : ℕ) (a : Answer) → Steps kind_lon_lat code n (crossing a)
unfolding plans_in slots_of steps_of
steps_crossing code n a i = refl

steps_in : (f : Form) (code n : ℕ) (w : Work) → HasForm f w → Steps f code n w
steps_in f code n (refused refusal) h = steps_refused f code n refusal
steps_in f code n accepted h = steps_accepted f code n
steps_in f code n (slots p) h = rw h (steps_slots code n p)
steps_in f code n (cone p) h = rw h (steps_cone code n p)
steps_in f code n (crossing a) h = rw h (steps_crossing code n a)

-- ---- every command
pub step_bytes_lem : StepBytes
unfolding reply_of turn_of
step_bytes_lem s code b =
    let r = row_of code in
    let g = given_of s in
    steps_in r.answer code (most_steps s.allowance) (work_of r g b) (form_of code g b)

abbrev within : ℕ → List ℕ → Bool
within width [] = true
within width (place ∷ places) = ltb place width && within width places

all_within : (width : ℕ) (places : List ℕ) → T (within width places) → AllBelow width places
all_within width [] t = tt
all_within width (place ∷ places) t =
    let first = ltb place width in
    let rest = within width places in
    (ltb→lt place width (and_l first rest t), all_within width places (and_r first rest t))

pub steps_within : StepsWithin
unfolding answer_width precision allowance arc cone_in_eqr cone_in_pc parallel two_arcs
steps_within code =
    let f = (row_of code).answer in
    all_within f.width f.steps (by_computing (λ r. within r.answer.width r.answer.steps) tt tt code)
