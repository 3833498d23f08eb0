-- What every row of the table keeps to, a law for each.
use lib.Dec.{eqb}
use lib.Ieee.{Float}
use Prim.Native.Nat.{ℕ, ◌≤◌}
use mathlib.Core.Path.{◌≡◌, refl}
use native.Mathlib.Omega.{arith}
use mathlib.Core.Bool.{Bool, true, false, true≢false, and-false, ◌&&◌}
use mathlib.Core.List.{List, []}
use Rattle.std.specs.Prelude.{None, Some, Result, Ok, Err, is_some}
use Rattle.coo3d.specs.declared.vect3.Vect3.{Vect3}
use Rattle.two_arcs.specs.declared.meeting.NoMeeting.{NoMeeting}
use Rattle.two_arcs.specs.declared.meeting.NoMeeting.TheVariants.{Nowhere, NoCandidate}
use Rattle.splits.specs.Splits.{Split}
use Rattle.table.specs.States.{Given, needs_settings, Change, keeps, sets_precision, sets_allowance}
use Rattle.table.specs.declared.refusal.Refusal.TheVariants.{Unset}
use Rattle.table.specs.Rows.{Form, no_answer, five_slots, kind_steps_z, kind_lon_lat, Row, Work, refused, accepted, slots, cone, crossing, needs_nothing}
use Rattle.table.specs.Table.{arc_work, meeting_work, end, precision, allowance, arc, cone_in_eqr, cone_in_pc, parallel, two_arcs, row_of}
use Rattle.table.specs.Turns.{refusal_of, work_of, status_in, plans_in}
use Rattle.table.proofs.Cases.{by_row, by_test, by_refusal, number_or}

-- what a command comes to is answered in this form; a refused one in any
abbrev pub HasForm : Form → Work → Type 0
HasForm f (refused refusal) = Unit {0}
HasForm f accepted = f ≡ no_answer
HasForm f (slots plan) = f ≡ five_slots
HasForm f (cone plan) = f ≡ kind_steps_z
HasForm f (crossing a) = f ≡ kind_lon_lat

-- the status of what a code's row comes to: 10 is an arc's alone, 12 that of two arcs
pub data OwnStatus : ℕ → ℕ → Type 0 where
  none : {code : ℕ} → OwnStatus code 0
  ten : OwnStatus 3 10
  twelve : OwnStatus 7 12

pub code_of_ten : {code status : ℕ} → OwnStatus code status → status ≡ 10 → code ≡ 3
code_of_ten none h = absurd (omega arith)
code_of_ten ten h = refl
code_of_ten twelve h = absurd (omega arith)

pub code_of_twelve : {code status : ℕ} → OwnStatus code status → status ≡ 12 → code ≡ 7
code_of_twelve none h = absurd (omega arith)
code_of_twelve ten h = absurd (omega arith)
code_of_twelve twelve h = refl

abbrev pub sets_an_allowance : Change → Bool
sets_an_allowance keeps = false
sets_an_allowance (sets_precision p) = false
sets_an_allowance (sets_allowance n) = true

-- it is answered in its form, with 0 or its own status; what refuses it by what is given is no later number; walks begin only where the allowance is
-- set; and only 02 changes the allowance
pub record Law (code : ℕ) (r : Row) : Type 0 where
  pub has_form : (g : Given) (b : List ℕ) → HasForm r.answer (r.work g b)
  pub own_status : (g : Given) (b : List ℕ) → OwnStatus code (status_in (r.work g b))
  pub low_needs : (g : Given) → number_or (r.needs g) ≤ 9
  pub settled : (g : Given) (b : List ℕ) → g.allowed ≡ false → r.needs g ≡ None → plans_in (r.work g b) ≡ []
  pub keeps_allowance : eqb code 2 ≡ false → (b : List ℕ) → sets_an_allowance (r.change b) ≡ false

low_nothing : (g : Given) → number_or (needs_nothing g) ≤ 9
low_nothing g = omega arith

low_settings : (g : Given) → number_or (needs_settings g) ≤ 9
unfolding needs_settings
low_settings g = by_test (λ o. number_or o ≤ 9) (is_some g.precision && g.allowed) (λ x. omega arith) (λ x. omega arith)

-- settings that are needed and not there
none_needed : {A : Type 0} (g : Given) → g.allowed ≡ false → needs_settings g ≡ None → A
unfolding needs_settings
none_needed g u e =
    let x : Some Unset ≡ None = rw (u, and-false (is_some g.precision)) at e in
    let z : ◌≡◌ {A = ℕ} 0 1 = cc in
    absurd (omega arith)

law_end : (code : ℕ) → Law code end
unfolding status_in plans_in
law_end code =
    record {
      has_form = λ g b. refl;
      own_status = λ g b. none;
      low_needs = low_nothing;
      settled = λ g b u e. refl;
      keeps_allowance = λ e b. refl;
    }

law_precision : Law 1 precision
unfolding precision status_in plans_in
law_precision =
    record {
      has_form = λ g b. refl;
      own_status = λ g b. none;
      low_needs = low_nothing;
      settled = λ g b u e. refl;
      keeps_allowance = λ e b. refl;
    }

law_allowance : Law 2 allowance
unfolding allowance status_in plans_in
law_allowance =
    record {
      has_form = λ g b. refl;
      own_status = λ g b. none;
      low_needs = low_nothing;
      settled = λ g b u e. refl;
      keeps_allowance = λ e b. absurd (true≢false e);
    }

form_arc : (s : Split) (p : Float) → HasForm five_slots (arc_work s p)
unfolding arc_work
form_arc (Ok r) p = refl
form_arc (Err e) p = tt

status_arc : (s : Split) (p : Float) → OwnStatus 3 (status_in (arc_work s p))
unfolding arc_work status_in
status_arc (Ok r) p = none
status_arc (Err e) p = ten

law_arc : Law 3 arc
unfolding arc
law_arc =
    record {
      has_form = λ g b. form_arc _ _;
      own_status = λ g b. status_arc _ _;
      low_needs = low_settings;
      settled = λ g b u e. none_needed g u e;
      keeps_allowance = λ e b. refl;
    }

law_cone_in_eqr : Law 4 cone_in_eqr
unfolding cone_in_eqr status_in
law_cone_in_eqr =
    record {
      has_form = λ g b. refl;
      own_status = λ g b. none;
      low_needs = low_settings;
      settled = λ g b u e. none_needed g u e;
      keeps_allowance = λ e b. refl;
    }

law_cone_in_pc : Law 5 cone_in_pc
unfolding cone_in_pc status_in
law_cone_in_pc =
    record {
      has_form = λ g b. refl;
      own_status = λ g b. none;
      low_needs = low_settings;
      settled = λ g b u e. none_needed g u e;
      keeps_allowance = λ e b. refl;
    }

law_parallel : Law 6 parallel
unfolding parallel status_in plans_in
law_parallel =
    record {
      has_form = λ g b. refl;
      own_status = λ g b. none;
      low_needs = low_nothing;
      settled = λ g b u e. refl;
      keeps_allowance = λ e b. refl;
    }

form_meeting : (m : Result Vect3 NoMeeting) → HasForm kind_lon_lat (meeting_work m)
unfolding meeting_work
form_meeting (Ok v) = refl
form_meeting (Err Nowhere) = refl
form_meeting (Err NoCandidate) = tt

status_meeting : (m : Result Vect3 NoMeeting) → OwnStatus 7 (status_in (meeting_work m))
unfolding meeting_work status_in
status_meeting (Ok v) = none
status_meeting (Err Nowhere) = none
status_meeting (Err NoCandidate) = twelve

pub no_walk_meeting : (m : Result Vect3 NoMeeting) → plans_in (meeting_work m) ≡ []
unfolding meeting_work plans_in
no_walk_meeting (Ok v) = refl
no_walk_meeting (Err Nowhere) = refl
no_walk_meeting (Err NoCandidate) = refl

law_two_arcs : Law 7 two_arcs
unfolding two_arcs
law_two_arcs =
    record {
      has_form = λ g b. form_meeting _;
      own_status = λ g b. status_meeting _;
      low_needs = low_nothing;
      settled = λ g b u e. no_walk_meeting _;
      keeps_allowance = λ e b. refl;
    }

-- for every code
pub law : (code : ℕ) → Law code (row_of code)
law =
    by_row Law
    (law_end 0, (law_precision, (law_allowance, (law_arc, (law_cone_in_eqr, (law_cone_in_pc, (law_parallel, (law_two_arcs, tt))))))))
    law_end

-- refused or not
pub form_of : (code : ℕ) (g : Given) (b : List ℕ) → HasForm (row_of code).answer (work_of (row_of code) g b)
unfolding work_of
form_of code g b =
    by_refusal (HasForm (row_of code).answer) (refusal_of (row_of code) g b) (λ e. (law code).has_form g b) (λ r e. tt)
