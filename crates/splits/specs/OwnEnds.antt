-- Which ends of its pieces are the ends of the arc. Definitions and a claim; `proofs/OwnEnds.antt` proves it.
use Rattle.std.specs.Option.{IfSome, is_none}
use Rattle.std.specs.Prelude.{◌≡◌, ◌⊎◌, true, IfOk}
use Rattle.coo3d.specs.declared.point.Coo3D.{Coo3D}
use Rattle.splits.specs.Splits.{Pieces, split_of}

-- P holds of the lower end of a piece in the south cap and of the upper end of one in the north cap; and of both ends where no piece lies between the caps, as the
-- piece is then the whole arc
pub record OwnEnds (P : Coo3D → Type 0) (r : Pieces) : Type 0 where
  pub south : IfSome r.south (λ p. P p.from × (is_none r.equator ≡ true → P p.to))
  pub north : IfSome r.north (λ p. (is_none r.equator ≡ true → P p.from) × P p.to)

abbrev pub IsEnd : Coo3D → Coo3D → Coo3D → Type 0
IsEnd p1 p2 p = (p ≡ p1) ⊎ (p ≡ p2)

-- these are ends of the arc itself
abbrev pub KeepsEnds : Type 0
KeepsEnds = (p1 p2 : Coo3D) → IfOk (split_of p1 p2) (OwnEnds (IsEnd p1 p2))
