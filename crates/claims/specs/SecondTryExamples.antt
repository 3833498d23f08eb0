-- Document 02, ask 7, by example: a reply whose third slot has kind 6, the same arc's with more steps, one whose point is the sixtieth middle's alone, and one
-- with kind 7. Definitions and the claim; `proofs/SecondTryExamples.antt` has it computed.
use Rattle.std.specs.Prelude.{replicate, ℕ, ◌≡◌, true, false, List, ◌∷◌, ◌++◌}
use Rattle.std.specs.Float.{binary64}
use Rattle.std.specs.Float.Ieee.{of_bits, round}
use Rattle.angles.specs.Floats.{plus_zero, one}
use Rattle.angles.specs.Constants.{half}
use Rattle.words.specs.Words.{float_bytes}
use Rattle.table.specs.States.{unset, with_precision, with_allowance}
use Rattle.table.specs.Turns.{reply_of}

-- an arc from longitude and latitude 0 to 1/2 and 5/8
abbrev pub up : List ℕ
up = float_bytes plus_zero ++ float_bytes plus_zero ++ float_bytes half ++ float_bytes (round binary64 false 5 8)

-- one from the lowest point of its circle, at longitude 0 and latitude -9/16, where the slope is no number
abbrev pub from_lowest : List ℕ
from_lowest = float_bytes plus_zero ++ float_bytes (round binary64 true 9 16) ++ float_bytes one ++ float_bytes (of_bits binary64 0xbfd5_02df_88c1_42de)

-- one along the equator to longitude 1/2 and latitude 2⁻³¹, where the sixtieth middle is 2⁻⁹¹ and no middle before it or after it is
abbrev pub along_equator : List ℕ
along_equator = float_bytes plus_zero ++ float_bytes plus_zero ++ float_bytes half ++ float_bytes (of_bits binary64 0x3e00_0000_0000_0000)

-- with precision 0 and an allowance, all slots but the third without a piece
abbrev pub reply_with : ℕ → List ℕ → List ℕ
reply_with allowance arc = reply_of (with_allowance (with_precision unset plus_zero) allowance) 3 arc

abbrev pub third_slot : List ℕ → List ℕ
third_slot slot = 3 ∷ 0 ∷ (replicate 36 0 ++ slot ++ replicate 36 0)

abbrev pub special_point : List ℕ
special_point = float_bytes (of_bits binary64 0x3fda_f1fd_f433_b506) ++ float_bytes (of_bits binary64 0x3fe1_a518_1e2a_9d0d)

-- After one step, and after two, the walk is outside the arc, and halving finds the point that the walk comes to after nine: the step bytes still tell that the
-- smaller allowances cut it short. Along the equator each middle is half the one before. On the last arc halving ends at an end.
pub record SecondTryExamples : Type 0 where
  pub after_one : reply_with 1 up ≡ third_slot (6 ∷ 1 ∷ special_point)
  pub after_two : reply_with 2 up ≡ third_slot (6 ∷ 2 ∷ special_point)
  pub by_the_walk : reply_with 20 up ≡ third_slot (3 ∷ 9 ∷ special_point)
  pub sixtieth :
      reply_with 1 along_equator
      ≡ third_slot (6 ∷ 1 ∷ (float_bytes (of_bits binary64 0x3c1e_aee8_744b_05f0) ++ float_bytes (of_bits binary64 0x3a40_0000_0000_0000)))
  pub none : reply_with 1 from_lowest ≡ third_slot (7 ∷ 1 ∷ replicate 16 0)
