-- Strictly between −T and T a height is neither at least T nor at most −T, so the source's cases come to the third.
use lib.Ieee.{of_bits, neg, lt, le}
use lib.Ieee.Bits.{is_true}
use lib.Ieee.Fits.{and_i, and_l, and_r}
use Rattle.std.specs.Prelude.{None, Some, Ok, Float}
use mathlib.Core.Path.{◌≡◌, refl}
use mathlib.Core.Bool.{Bool, true, false, cond}
use Rattle.angles.specs.Constants.{transition_z}
use Rattle.bounds.proofs.Order.{not_at_most, less_le}
use Rattle.coo3d.specs.declared.point.Coo3D.{Coo3D}
use Rattle.splits.specs.Splits.{piece, split_into, in_north, in_south, in_equator, split_ordered, split_of, inside_eqr, OnePieceInside, InsideExamples}

above_south : (z : Float) → inside_eqr z ≡ true → lt (neg transition_z) z ≡ true
unfolding inside_eqr
above_south z h = is_true (lt (neg transition_z) z) (and_l (lt (neg transition_z) z) (lt z transition_z) (rw h tt))

below_north : (z : Float) → inside_eqr z ≡ true → lt z transition_z ≡ true
unfolding inside_eqr
below_north z h = is_true (lt z transition_z) (and_r (lt (neg transition_z) z) (lt z transition_z) (rw h tt))

ordered : (p1 p2 : Coo3D) → inside_eqr p1.z ≡ true → inside_eqr p2.z ≡ true
    → split_ordered p1 p2 ≡ Ok (split_into None (Some (piece p1 p2)) None)
unfolding split_ordered
ordered p1 p2 h k =
    let not_north : in_north p1 ≡ false = not_at_most transition_z p1.z (below_north p1.z h) in
    let not_south : in_south p2 ≡ false = not_at_most p2.z (neg transition_z) (above_south p2.z k) in
    let between : in_equator p1 p2 ≡ true =
    is_true (in_equator p1 p2)
    (and_i (le (neg transition_z) p1.z) (le p2.z transition_z)
    (less_le (neg transition_z) p1.z (above_south p1.z h)) (less_le p2.z transition_z (below_north p2.z k))) in
    rw (not_north, not_south, between) refl

pub one_piece_inside : OnePieceInside
unfolding split_of
one_piece_inside p1 p2 h k = by (lt p2.z p1.z)
  where
    by : (b : Bool)
        → cond b (split_ordered p2 p1) (split_ordered p1 p2) ≡ Ok (split_into None (Some (piece (cond b p2 p1) (cond b p1 p2))) None)
    by true = ordered p2 p1 k h
    by false = ordered p1 p2 h k

along : (p1 p2 : Coo3D) → p1.z ≡ transition_z → p2.z ≡ transition_z → split_of p1 p2 ≡ Ok (split_into None None (Some (piece p1 p2)))
unfolding split_of split_ordered of_bits lt le
along p1 p2 h k = rw (h, k) refl

pub inside_examples : InsideExamples
unfolding inside_eqr of_bits neg lt
inside_examples = record { equator = refl; transition = refl; along_transition = along }
