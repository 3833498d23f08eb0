-- Demand 3's core: two lists of commands, alike but for the operands of code 02. Job files cite it, and whatever else runs commands can.
-- Definitions and the claim; `proofs/TwoLists.antt` proves it.
use Rattle.std.specs.Prelude.{ℕ, ◌≡◌, ◌↔◌, List, [], ◌∷◌, None}
use Rattle.newton.specs.WalkAllowances.{EqualOrEnds}
use Rattle.table.specs.States.{unset}
use Rattle.table.specs.CommandAllowances.{LikeOperands}
use Rattle.lists.specs.Commands.{Command, replies_from, Begun, begun_from, walks}

abbrev pub command : ℕ → List ℕ → Command
command code b = record { code = code; operands = b }

-- the same codes, with operands that are the same unless the code is 02
pub data LikeCommands : List Command → List Command → Type 0 where
  none : LikeCommands [] []
  one :
      {code : ℕ} {b d : List ℕ} {cs ds : List Command}
      → LikeOperands code b d
      → LikeCommands cs ds
      → LikeCommands (command code b ∷ cs) (command code d ∷ ds)

-- every walk, at the same place of both lists, has the same allowance in both or ends by itself within the smaller one; that both lists hold the same
-- walks is `same_walks`
abbrev pub EachEqualOrEnds : List Begun → List Begun → Type 0
EachEqualOrEnds [] [] = Unit {0}
EachEqualOrEnds [] (v ∷ vs) = ⊥
EachEqualOrEnds (w ∷ ws) [] = ⊥
EachEqualOrEnds (w ∷ ws) (v ∷ vs) = EqualOrEnds w.allowance v.allowance w.walk × EachEqualOrEnds ws vs

-- the walks that a list of commands begins, from the settings unset
abbrev pub begun_by : List Command → List Begun
begun_by cs = begun_from None unset cs

-- Both begin the same walks, and the replies are equal exactly when every walk is as above.
pub record TwoLists (cs ds : List Command) : Type 0 where
  pub same_walks : walks (begun_by cs) ≡ walks (begun_by ds)
  pub law : (replies_from unset cs ≡ replies_from unset ds) ↔ EachEqualOrEnds (begun_by cs) (begun_by ds)

abbrev pub AllowancesOfTwoLists : Type 0
AllowancesOfTwoLists = (cs ds : List Command) → LikeCommands cs ds → TwoLists cs ds
