-- Which replies depend on the allowance: demand 3 reply by reply and slot by slot, and what the steps in one reply tell. `./finder depends` rests on it.
-- Definitions and claims; `proofs/EachReply.antt` proves them, and specs/BothSides.antt has files that meet each premise, on either side.
use Rattle.std.specs.Prelude.{ℕ, ◌≤◌, ◌<◌, ◌≡◌, ◌↔◌, List, [], ◌∷◌, ◌++◌, Option, None}
use Rattle.plans.specs.Plans.{walks_in, walks_at}
use Rattle.plans.specs.PlanAllowances.{AllEqualOrEnd, AllEndWithin}
use Rattle.plans.specs.declared.plan.Plan.{Plan}
use Rattle.table.specs.States.{unset, most_steps}
use Rattle.table.specs.Turns.{reply_of, plans_of}
use Rattle.table.specs.Steps.{step_byte}
use Rattle.table.specs.declared.state.State.{State}
use Rattle.lists.specs.Commands.{Command, leaves, last_after, Begun, each_with}
use Rattle.jobs.specs.Files.{commands_in, file_of, reply_file}
use Rattle.claims.specs.Alike.{Alike}
use Rattle.claims.specs.TwoFiles.{begun_in}

-- a command's reply, with the allowance of its walks (the operand of the last code 02 before it; 0 where there is none) and what it has for each slot
-- before any walk
pub record Told : Type 0 where
  pub code : ℕ
  pub reply : List ℕ
  pub allowance : ℕ
  pub plans : List Plan

abbrev pub told : Option ℕ → State → Command → Told
told last s c =
    record {
      code = c.code;
      reply = reply_of s c.code c.operands;
      allowance = most_steps last;
      plans = plans_of s c.code c.operands;
    }

abbrev pub told_from : Option ℕ → State → List Command → List Told
told_from last s [] = []
told_from last s (c ∷ cs) = told last s c ∷ told_from (last_after last c) (leaves s c) cs

-- of a job file, in the order of its commands; a refused one has none
abbrev pub told_in : List ℕ → List Told
told_in job = told_from None unset (commands_in (file_of job))

-- All their replies are the reply file, and all their walks are those of demand 3.
abbrev pub replies_told : List Told → List ℕ
replies_told [] = []
replies_told (t ∷ ts) = t.reply ++ replies_told ts

abbrev pub begun_told : List Told → List Begun
begun_told [] = []
begun_told (t ∷ ts) = each_with t.allowance (walks_in t.plans) ++ begun_told ts

pub record Parts (job : List ℕ) : Type 0 where
  pub of_replies : replies_told (told_in job) ≡ reply_file job
  pub of_walks : begun_told (told_in job) ≡ begun_in job

abbrev pub PartsOfFile : Type 0
PartsOfFile = (job : List ℕ) → Parts job

-- as many commands in both files, and P of each pair at one place
pub data EachPair (P : Told → Told → Type 0) : List Told → List Told → Type 0 where
  no_pair : EachPair P [] []
  pair : {t u : Told} {ts us : List Told} → P t u → EachPair P ts us → EachPair P (t ∷ ts) (u ∷ us)

abbrev pub OfEachPair : (Told → Told → Type 0) → Type 0
OfEachPair P = (job other : List ℕ) → Alike job other → EachPair P (told_in job) (told_in other)

-- Reply by reply: a command begins the same walks in both files, and its replies are equal exactly when each of these walks has the same allowance in both
-- or ends by itself within the smaller.
pub record SameReply (t u : Told) : Type 0 where
  pub same_code : t.code ≡ u.code
  pub same_plans : t.plans ≡ u.plans
  pub law : (t.reply ≡ u.reply) ↔ AllEqualOrEnd t.allowance u.allowance (walks_in t.plans)

abbrev pub ReplyByReply : Type 0
ReplyByReply = OfEachPair SameReply

-- So the two files have the same codes, in the same order.
abbrev pub codes_told : List Told → List ℕ
codes_told [] = []
codes_told (t ∷ ts) = t.code ∷ codes_told ts

abbrev pub SameCodes : Type 0
SameCodes = (job other : List ℕ) → Alike job other → codes_told (told_in job) ≡ codes_told (told_in other)

-- Slot by slot: the step bytes are equal exactly when the slot's walk, if one begins there, has the same allowance in both or ends by itself within the smaller.
abbrev pub steps_told : ℕ → Told → ℕ
steps_told i t = step_byte i t.code t.reply

abbrev pub SameSteps : Told → Told → Type 0
SameSteps t u =
    (i : ℕ) → (steps_told i t ≡ steps_told i u) ↔ AllEqualOrEnd t.allowance u.allowance (walks_at i t.plans)

abbrev pub SlotBySlot : Type 0
SlotBySlot = OfEachPair SameSteps

-- What one run tells: a walk whose steps are fewer than its allowance ends by itself within that many.
abbrev pub Fewer : ℕ → Told → Type 0
Fewer i t = steps_told i t < t.allowance

abbrev pub Ended : Told → Type 0
Ended t = (i : ℕ) → Fewer i t → AllEndWithin (steps_told i t) (walks_at i t.plans)

abbrev pub OfEach : (Told → Type 0) → List Told → Type 0
OfEach P [] = Unit {0}
OfEach P (t ∷ ts) = P t × OfEach P ts

abbrev pub WalksEnded : Type 0
WalksEnded = (job : List ℕ) → OfEach Ended (told_in job)

-- Where the steps of every slot are fewer, the reply is the same for exactly those allowances that are at least each of its step bytes.
abbrev pub Tells : Told → Told → Type 0
Tells t u = ((i : ℕ) → Fewer i t) → (t.reply ≡ u.reply) ↔ ((i : ℕ) → steps_told i t ≤ u.allowance)

abbrev pub OneRunTells : Type 0
OneRunTells = OfEachPair Tells
