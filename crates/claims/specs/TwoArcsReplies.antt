-- Document 02, ask 3, of what the finder replies: when the status is 12, and what code 07 has to do with the settings. Definitions and claims;
-- `proofs/TwoArcsReplies.antt` proves them.
use Rattle.std.specs.Prelude.{replicate, ℕ, ◌≡◌, ◌↔◌, true, List, [], ◌∷◌, None}
use Rattle.coo3d.specs.Vectors.{norm_of}
use Rattle.two_arcs.specs.TwoArcs.{cross_of_arcs, zero_or_nan}
use Rattle.table.specs.States.{given_of}
use Rattle.table.specs.Table.{first_arc, second_arc, row_of}
use Rattle.table.specs.Turns.{refusal_of, reply_of, after, walks_of}
use Rattle.table.specs.StatusTen.{status_byte}
use Rattle.table.specs.declared.state.State.{State}

-- The command is two arcs that neither 7 nor 9 refuses, and "the cross product of the two arcs' cross products has norm zero or NaN".
pub record ArcsWithoutCandidate (s : State) (code : ℕ) (b : List ℕ) : Type 0 where
  pub is_two_arcs : code ≡ 7
  pub not_refused : refusal_of (row_of code) (given_of s) b ≡ None
  pub no_candidate : zero_or_nan (norm_of (cross_of_arcs (first_arc b) (second_arc b))) ≡ true

-- Whatever the state and the operands, the status is 12 if and only if that holds.
abbrev pub StatusTwelve : Type 0
StatusTwelve = (s : State) (code : ℕ) (b : List ℕ) → (status_byte (reply_of s code b) ≡ 12) ↔ ArcsWithoutCandidate s code b

-- "12 .. answered as 6 to 10 are": the number, and zeros.
abbrev pub AnsweredTwelve : Type 0
AnsweredTwelve = (s : State) (code : ℕ) (b : List ℕ) → status_byte (reply_of s code b) ≡ 12 → reply_of s code b ≡ 7 ∷ 12 ∷ replicate 17 0

-- Code 07, refused or not: its reply is the same whatever the settings are, it leaves them as they were, and it begins no walk.
pub record WithoutSettings (s t : State) (b : List ℕ) : Type 0 where
  pub same_reply : reply_of s 7 b ≡ reply_of t 7 b
  pub same_state : after s 7 b ≡ s
  pub no_walk : walks_of s 7 b ≡ []

abbrev pub TwoArcsWithoutSettings : Type 0
TwoArcsWithoutSettings = (s t : State) (b : List ℕ) → WithoutSettings s t b
