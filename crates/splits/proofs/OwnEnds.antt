-- The arc is cut above its lower end and below its upper one, and where it is cut a piece lies between the caps: `KeepsEnds` (specs/OwnEnds.antt).
use lib.Ieee.{lt}
use mathlib.Core.Bool.{Bool, true, false, cond, true≢false}
use mathlib.Core.Path.{refl, sym}
use mathlib.Core.Logic.{inl, inr}
use Rattle.std.specs.Prelude.{None, Some, Ok, Err, IfOk}
use Rattle.coo3d.specs.declared.point.Coo3D.{Coo3D}
use Rattle.splits.specs.OwnEnds.{OwnEnds, IsEnd, KeepsEnds}
use Rattle.splits.specs.Splits.{Split, Cut, piece, split_into, pieces_at, split_at_cuts, split_at_transitions, in_north, in_south, in_equator, split_ordered, split_of}

module _ (P : Coo3D → Type 0) (p1 p2 : Coo3D) (h1 : P p1) (h2 : P p2) where
  at_cuts : (lower upper : Cut) → IfOk (split_at_cuts p1 lower upper p2) (OwnEnds P)
  unfolding split_at_cuts pieces_at split_into
  at_cuts (Ok None) (Ok None) = record { south = tt; north = tt }
  at_cuts (Ok None) (Ok (Some v)) = record { south = tt; north = (λ e. absurd (true≢false (sym e)), h2) }
  at_cuts (Ok (Some u)) (Ok None) = record { south = (h1, λ e. absurd (true≢false (sym e))); north = tt }
  at_cuts (Ok (Some u)) (Ok (Some v)) = record { south = (h1, λ e. absurd (true≢false (sym e))); north = (λ e. absurd (true≢false (sym e)), h2) }
  at_cuts (Ok lower) (Err e) = tt
  at_cuts (Err e) upper = tt

  ordered : IfOk (split_ordered p1 p2) (OwnEnds P)
  unfolding split_ordered split_at_transitions split_into
  ordered = by (in_north p1) (in_south p2) (in_equator p1 p2) _ (at_cuts _ _)
    where
      by : (a b c : Bool) (rest : Split) → IfOk rest (OwnEnds P)
          → let all = Some (piece p1 p2) in
          IfOk (cond a (Ok (split_into None None all)) (cond b (Ok (split_into all None None)) (cond c (Ok (split_into None all None)) rest))) (OwnEnds P)
      by true b c rest k = record { south = tt; north = (λ e. h1, h2) }
      by false true c rest k = record { south = (h1, λ e. h2); north = tt }
      by false false true rest k = record { south = tt; north = tt }
      by false false false rest k = k

-- what holds of both ends of the arc
pub own_ends : (P : Coo3D → Type 0) (p1 p2 : Coo3D) → P p1 → P p2 → IfOk (split_of p1 p2) (OwnEnds P)
unfolding split_of
own_ends P p1 p2 h1 h2 = by (lt p2.z p1.z)
  where
    by : (b : Bool) → IfOk (cond b (split_ordered p2 p1) (split_ordered p1 p2)) (OwnEnds P)
    by true = ordered P p2 p1 h2 h1
    by false = ordered P p1 p2 h1 h2

pub keeps_ends : KeepsEnds
keeps_ends p1 p2 = own_ends (IsEnd p1 p2) p1 p2 (inl refl) (inr refl)
