-- Document 02, ask 3, by example: a candidate and its opposite answered, neither, the far side of a long arc, and status 12 on either side of its "exactly
-- when". Definitions and claims; `proofs/TwoArcsExamples.antt` has them computed.
use Rattle.std.specs.Prelude.{Float, replicate, ℕ, ◌≡◌, false, List, ◌∷◌, ◌++◌, None}
use Rattle.std.specs.Float.{binary64}
use Rattle.std.specs.Float.Ieee.{neg, of_bits, round}
use Rattle.angles.specs.Floats.{of_nat, plus_zero, one}
use Rattle.angles.specs.Constants.{half_pi, pi}
use Rattle.words.specs.Words.{float_bytes}
use Rattle.table.specs.States.{unset, given_of}
use Rattle.table.specs.Table.{row_of}
use Rattle.table.specs.Turns.{refusal_of, reply_of}
use Rattle.table.specs.StatusTen.{status_byte}

-- an arc by longitude and latitude of its ends
abbrev pub arc_from : Float → Float → Float → Float → List ℕ
arc_from lon1 lat1 lon2 lat2 = float_bytes lon1 ++ float_bytes lat1 ++ float_bytes lon2 ++ float_bytes lat2

-- along the equator from longitude 0 to π/2, and on to π; up from longitude 0 to the pole
abbrev pub along : List ℕ
along = arc_from plus_zero plus_zero half_pi plus_zero

abbrev pub onwards : List ℕ
onwards = arc_from half_pi plus_zero pi plus_zero

abbrev pub up : List ℕ
up = arc_from plus_zero plus_zero plus_zero half_pi

-- along the equator from longitude 0 to 3, and across it at longitude 4.5
abbrev pub long : List ℕ
long = arc_from plus_zero plus_zero (of_nat 3) plus_zero

abbrev pub across : List ℕ
across = let lon = round binary64 false 9 2 in arc_from lon (neg one) lon one

-- from longitude and latitude 0, of length 2⁻³⁰⁰: along the equator, and up
abbrev pub tiny : Float
tiny = of_bits binary64 0x2d30_0000_0000_0000

abbrev pub tiny_along : List ℕ
tiny_along = arc_from plus_zero plus_zero tiny plus_zero

abbrev pub tiny_up : List ℕ
tiny_up = arc_from plus_zero plus_zero plus_zero tiny

abbrev pub reply_to : List ℕ → List ℕ
reply_to operands = reply_of unset 7 operands

pub record TwoArcsExamples : Type 0 where
  -- they share an end: the candidate, or with the arcs exchanged its opposite, whose zeros have the other sign
  pub candidate : reply_to (along ++ up) ≡ 7 ∷ 0 ∷ 3 ∷ (float_bytes plus_zero ++ float_bytes plus_zero)
  pub opposite : reply_to (up ++ along) ≡ 7 ∷ 0 ∷ 3 ∷ (float_bytes (neg plus_zero) ++ float_bytes (neg plus_zero))
  -- neither candidate; the crossing of the planes on a long arc's far side
  pub neither : reply_to (onwards ++ up) ≡ 7 ∷ 0 ∷ 5 ∷ replicate 16 0
  pub far_side : reply_to (long ++ across) ≡ 7 ∷ 0 ∷ 5 ∷ replicate 16 0

-- Arcs on one circle tell no point, nor do two whose cross product's norm underflows, though they share an end. Those of the first example are not
-- refused, and their status isn't 12.
pub record SidesOfStatusTwelve : Type 0 where
  pub one_circle : status_byte (reply_to (along ++ onwards)) ≡ 12
  pub underflow : status_byte (reply_to (tiny_along ++ tiny_up)) ≡ 12
  pub taken : refusal_of (row_of 7) (given_of unset) (along ++ up) ≡ None
  pub not_twelve : status_byte (reply_to (along ++ up)) ≡ 12 → ⊥
