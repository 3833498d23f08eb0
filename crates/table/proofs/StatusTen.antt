-- Status 10 comes exactly on its condition: `StatusTen` (specs/StatusTen.antt). None of 6 to 9 is 10, and no row but that of arcs has it. The
-- ends of an arc that 9 lets through have heights that are numbers (crate coo3d), so its split fails exactly at kind 5 (crate splits).
use lib.Ieee.{Float}
use Prim.Native.Nat.{ℕ}
use native.Mathlib.Omega.{arith}
use mathlib.Core.Path.{◌≡◌, refl, ◌∙◌}
use mathlib.Core.Logic.{◌↔◌}
use mathlib.Core.Bool.{Bool, true, false, ◌&&◌, and-eq-true_iff}
use mathlib.Core.List.{List}
use Rattle.coo3d.specs.LonLats.{is_longitude, is_latitude}
use Rattle.coo3d.proofs.Heights.{height_is_number}
use Rattle.words.specs.Words.{float_at}
use Rattle.std.specs.Prelude.{Option, None, Some, Ok, Err}
use Rattle.splits.specs.Splits.{unsplit, Split, split_of, lower_end, upper_end, CrossingOfKind5}
use Rattle.table.specs.declared.refusal.Refusal.{Refusal}
use Rattle.splits.proofs.Splits.{fails_at_kind_5}
use Rattle.table.specs.States.{Given, given_of}
use Rattle.table.specs.Table.{first_end, second_end, arc_work, arc, row_of}
use Rattle.table.specs.Turns.{in_range_from, first_failing, refusal_of, status_in, reply_of}
use Rattle.table.specs.StatusTen.{status_byte, ArcAtKind5, StatusTen}
use Rattle.table.specs.declared.state.State.{State}
use Rattle.table.proofs.Laws.{code_of_ten, law}
use Rattle.table.proofs.Statuses.{of_own, past_nine}

-- ---- an arc that is not refused has its ends in range
in_range : (needs : Option Refusal) (finite flags ranged : Bool) → first_failing needs finite flags ranged ≡ None → ranged ≡ true
unfolding first_failing
in_range (Some refusal) f g r h = let z : ◌≡◌ {A = ℕ} 0 1 = cc in absurd (omega arith)
in_range None false g r h = let z : ◌≡◌ {A = ℕ} 0 1 = cc in absurd (omega arith)
in_range None true false r h = let z : ◌≡◌ {A = ℕ} 0 1 = cc in absurd (omega arith)
in_range None true true false h = let z : ◌≡◌ {A = ℕ} 0 1 = cc in absurd (omega arith)
in_range None true true true h = refl

module _ (g : Given) (b : List ℕ) (n : refusal_of arc g b ≡ None) where
  latitudes : (is_latitude (float_at b 1) ≡ true) × (is_latitude (float_at b 3) ≡ true)
  unfolding refusal_of in_range_from arc
  latitudes =
      let lon1 = is_longitude (float_at b 0) in
      let lat1 = is_latitude (float_at b 1) in
      let lon2 = is_longitude (float_at b 2) in
      let lat2 = is_latitude (float_at b 3) in
      let all = (and-eq-true_iff (lon1 && lat1 && lon2) lat2).0 (in_range _ _ _ _ n) in
      (((and-eq-true_iff lon1 lat1).0 ((and-eq-true_iff (lon1 && lat1) lon2).0 all.0).0).1, all.1)

  arc_fails : (split_of (first_end b) (second_end b) ≡ Err unsplit)
      ↔ CrossingOfKind5 (lower_end (first_end b) (second_end b)) (upper_end (first_end b) (second_end b))
  arc_fails =
      fails_at_kind_5 (first_end b) (second_end b)
      (height_is_number (float_at b 0) (float_at b 1) latitudes.0)
      (height_is_number (float_at b 2) (float_at b 3) latitudes.1)

not_split : (s : Split) (p : Float) → status_in (arc_work s p) ≡ 10 → s ≡ Err unsplit
unfolding arc_work status_in
not_split (Ok r) p h = absurd (omega arith)
not_split (Err e) p h = refl

-- ---- both ways
arc_of_ten : (s : State) (b : List ℕ) → refusal_of (row_of 3) (given_of s) b ≡ None → status_in ((row_of 3).work (given_of s) b) ≡ 10 → ArcAtKind5 s 3 b
unfolding row_of arc
arc_of_ten s b n h =
    record { is_arc = refl; not_refused = n; kind_5 = (arc_fails (given_of s) b n).0 (not_split _ _ h) }

ten_of_arc : (s : State) (b : List ℕ) → ArcAtKind5 s 3 b → status_in ((row_of 3).work (given_of s) b) ≡ 10
unfolding row_of arc arc_work status_in
ten_of_arc s b k = simp ((arc_fails (given_of s) b k.not_refused).1 k.kind_5)

pub status_ten : StatusTen
status_ten s code b = (to, from)
  where
    to : status_byte (reply_of s code b) ≡ 10 → ArcAtKind5 s code b
    to h =
        let p = past_nine s code b 10 (omega arith) h in
        let e = code_of_ten ((law code).own_status (given_of s) b) p.1 in
        rw e (arc_of_ten s b (rw e at p.0) (rw e at p.1))

    from : ArcAtKind5 s code b → status_byte (reply_of s code b) ≡ 10
    from k = let e = k.is_arc in of_own s code b k.not_refused ∙ rw e (ten_of_arc s b (rw e at k))
