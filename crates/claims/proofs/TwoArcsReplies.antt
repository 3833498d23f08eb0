-- The claims of specs/TwoArcsReplies.antt. None of 6 to 9 is 12, no row but that of two arcs has it, and only the norm leaves them without a candidate.
use Rattle.std.specs.Prelude.{Option, None, Some, ok_or, Result, Ok, Err}
use lib.Dec.{eqb}
use lib.ListN.{replicate}
use Prim.Native.Nat.{ℕ}
use native.Mathlib.Omega.{arith}
use mathlib.Core.Path.{◌≡◌, refl, ap, ◌∙◌}
use mathlib.Core.Bool.{Bool, true, false, cond}
use mathlib.Core.List.{List, [], ◌∷◌}
use Rattle.coo3d.specs.Vectors.{norm_of, normalized_of}
use Rattle.coo3d.specs.declared.vect3.Vect3.{Vect3}
use Rattle.two_arcs.specs.TwoArcs.{first_that_passes, cross_of_arcs, zero_or_nan, intersect_arcs}
use Rattle.two_arcs.specs.declared.edge.Edge.{Edge}
use Rattle.two_arcs.specs.declared.meeting.NoMeeting.{NoMeeting}
use Rattle.two_arcs.specs.declared.meeting.NoMeeting.TheVariants.{Nowhere, NoCandidate}
use Rattle.plans.specs.Plans.{walks_in}
use Rattle.table.specs.States.{given_of, most_steps, changed}
use Rattle.table.specs.declared.refusal.Refusal.{Refusal}
use Rattle.table.specs.Rows.{Work}
use Rattle.table.specs.Table.{first_arc, second_arc, meeting_work, two_arcs, row_of, answer_width}
use Rattle.table.specs.Turns.{refusal_of, work_of, status_in, reply_in, plans_in, left_in, turn_of, status_of, answer_bytes, reply_bytes, reply_of, after, walks_of}
use Rattle.table.specs.StatusTen.{status_byte}
use Rattle.claims.specs.TwoArcsReplies.{ArcsWithoutCandidate, StatusTwelve, AnsweredTwelve, TwoArcsWithoutSettings}
use Rattle.table.specs.declared.state.State.{State}
use Rattle.table.proofs.Cases.{by_refusal, either_way}
use Rattle.table.proofs.Laws.{code_of_twelve, no_walk_meeting, law}
use Rattle.table.proofs.Statuses.{of_own, past_nine}

-- ---- they have no candidate exactly where its norm is zero or NaN
none_left : (m : Result Vect3 NoMeeting) → status_in (meeting_work m) ≡ 12 → m ≡ Err NoCandidate
unfolding meeting_work status_in
none_left (Ok v) h = absurd (omega arith)
none_left (Err Nowhere) h = absurd (omega arith)
none_left (Err NoCandidate) h = refl

has_one : (o : Option Vect3) → ok_or o Nowhere ≡ Err NoCandidate → ⊥
has_one None h = let z : ◌≡◌ {A = ℕ} 0 1 = cc in omega arith
has_one (Some v) h = let z : ◌≡◌ {A = ℕ} 0 1 = cc in omega arith

module _ (a b : Edge) where
  abbrev refuses : Bool
  refuses = zero_or_nan (norm_of (cross_of_arcs a b))

  by_norm : intersect_arcs a b ≡ Err NoCandidate → refuses ≡ true
  unfolding intersect_arcs
  by_norm = by refuses
    where
      by : (x : Bool) → cond x (Err NoCandidate) (ok_or (first_that_passes a b (normalized_of (cross_of_arcs a b))) Nowhere) ≡ Err NoCandidate → x ≡ true
      by true h = refl
      by false h = absurd (has_one (first_that_passes a b (normalized_of (cross_of_arcs a b))) h)

  without : refuses ≡ true → status_in (meeting_work (intersect_arcs a b)) ≡ 12
  unfolding intersect_arcs meeting_work status_in
  without e = rw e refl

-- ---- both ways
arcs_of_twelve : (s : State) (b : List ℕ) → refusal_of (row_of 7) (given_of s) b ≡ None → status_in ((row_of 7).work (given_of s) b) ≡ 12 → ArcsWithoutCandidate s 7 b
unfolding row_of two_arcs
arcs_of_twelve s b n h =
    record { is_two_arcs = refl; not_refused = n; no_candidate = by_norm (first_arc b) (second_arc b) (none_left _ h) }

twelve_of_arcs : (s : State) (b : List ℕ) → ArcsWithoutCandidate s 7 b → status_in ((row_of 7).work (given_of s) b) ≡ 12
unfolding row_of two_arcs
twelve_of_arcs s b k = without (first_arc b) (second_arc b) k.no_candidate

pub status_twelve : StatusTwelve
status_twelve s code b = (to, from)
  where
    to : status_byte (reply_of s code b) ≡ 12 → ArcsWithoutCandidate s code b
    to h =
        let p = past_nine s code b 12 (omega arith) h in
        let e = code_of_twelve ((law code).own_status (given_of s) b) p.1 in
        rw e (arcs_of_twelve s b (rw e at p.0) (rw e at p.1))

    from : ArcsWithoutCandidate s code b → status_byte (reply_of s code b) ≡ 12
    from k = let e = k.is_two_arcs in of_own s code b k.not_refused ∙ rw e (twelve_of_arcs s b (rw e at k))

-- ---- its reply
answered : (s : State) (b : List ℕ) → ArcsWithoutCandidate s 7 b → reply_of s 7 b ≡ 7 ∷ 12 ∷ replicate 17 0
unfolding reply_of turn_of work_of reply_bytes reply_in status_of answer_bytes answer_width row_of two_arcs intersect_arcs meeting_work
answered s b k = rw (k.not_refused, k.no_candidate) refl

pub answered_twelve : AnsweredTwelve
answered_twelve s code b h =
    let k = (status_twelve s code b).0 h in
    let e = k.is_two_arcs in
    rw e (answered s b (rw e at k))

-- ---- the settings have no part in it
met_alike : (n k : ℕ) (m : Result Vect3 NoMeeting) → reply_in n (meeting_work m) ≡ reply_in k (meeting_work m)
unfolding reply_in meeting_work
met_alike n k (Ok v) = refl
met_alike n k (Err Nowhere) = refl
met_alike n k (Err NoCandidate) = refl

module _ (s t : State) (b : List ℕ) where
  abbrev refusal : Option Refusal
  refusal = refusal_of two_arcs (given_of s) b

  same_reply : reply_of s 7 b ≡ reply_of t 7 b
  unfolding reply_of turn_of work_of refusal_of reply_in row_of two_arcs
  same_reply =
      ap (reply_bytes 7)
      (by_refusal (λ (w : Work). reply_in (most_steps s.allowance) w ≡ reply_in (most_steps t.allowance) w) refusal
      (λ e. met_alike _ _ (intersect_arcs (first_arc b) (second_arc b)))
      (λ r e. refl))

  same_state : after s 7 b ≡ s
  unfolding after turn_of left_in changed row_of two_arcs
  same_state = either_way (eqb (status_in (work_of two_arcs (given_of s) b)) 0) s

  no_walk : walks_of s 7 b ≡ []
  unfolding walks_of walks_in plans_in work_of row_of two_arcs
  no_walk =
      by_refusal (λ (w : Work). walks_in (plans_in w) ≡ []) refusal
      (λ e. rw (no_walk_meeting (intersect_arcs (first_arc b) (second_arc b))) refl)
      (λ r e. refl)

pub two_arcs_without_settings : TwoArcsWithoutSettings
two_arcs_without_settings s t b = record { same_reply = same_reply s t b; same_state = same_state s t b; no_walk = no_walk s t b }
