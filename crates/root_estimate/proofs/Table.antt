-- The ranges of every row of the table, worked out.
use mathlib.Core.Path.{◌≡◌, refl}
use mathlib.Core.Bool.{Bool, true, ◌&&◌}
use Prim.Native.Nat.{ℕ, ◌^◌, ◌<◌}
use lib.Dec.{ltb, leb}
use lib.ListN.{get_or}
use Rattle.std.specs.List.{list_all}
use Rattle.std.proofs.lemmas.Bool.{and_parts, ltb-true, leb-true}
use Rattle.std.proofs.lemmas.List.Sums.{AllPass-from_list_all}
use Rattle.root_estimate.specs.Curves.{Curved}
use Rattle.root_estimate.specs.declared.Curve.{Curve}
use Rattle.root_estimate.specs.declared.TheConstants.{CURVES}

unfoldable in_range : Curve → Bool
in_range k = ltb k.0 (2 ^ 32) && (leb k.1 k.0 && (leb k.2 k.1 && leb k.3 k.2))

curved : (k : Curve) → in_range k ≡ true → Curved k.0 k.1 k.2 k.3
unfolding in_range
curved k h =
    let a = and_parts _ _ h in
    let b = and_parts _ _ a.1 in
    let c = and_parts _ _ b.1 in
    record { most = ltb-true _ _ a.0; slope = leb-true _ _ b.0; bend = leb-true _ _ c.0; twist = leb-true _ _ c.1 }

all_in_range : list_all in_range CURVES ≡ true
unfolding in_range
all_in_range = refl

pub row_curved : (i : ℕ) → i < 64 → let k = get_or CURVES i (0, 0, 0, 0) in Curved k.0 k.1 k.2 k.3
row_curved i l = curved _ (AllPass-from_list_all in_range CURVES all_in_range i (0, 0, 0, 0) l)
