-- Reply by reply, for any two job files that are alike: the claims of specs/EachReply.antt. Pair by pair of two lists of commands, at states that stay alike: the
-- law of one command holds, its step bytes are the step counts of its slots, and what these tell is known of any plans.
use Rattle.std.specs.Prelude.{Option}
use Prim.Native.Nat.{ℕ}
use mathlib.Core.Path.{◌≡◌, refl, ap}
use mathlib.Core.List.{List, [], ◌∷◌}
use Rattle.plans.specs.Plans.{slots_of, steps_at}
use Rattle.plans.proofs.PlanAllowances.{ended_of_plans, steps_of_plans}
use Rattle.table.specs.States.{unset, most_steps}
use Rattle.table.specs.Turns.{plans_in, plans_of, walks_of, reply_of, after}
use Rattle.table.specs.CommandAllowances.{Like, LikeOperands}
use Rattle.table.specs.Steps.{step_byte}
use Rattle.table.specs.declared.state.State.{State}
use Rattle.table.proofs.CommandAllowances.{command_allowances}
use Rattle.table.proofs.Steps.{step_bytes_lem}
use Rattle.lists.specs.Commands.{Command, replies_from, begun_from, leaves, last_after}
use Rattle.lists.specs.TwoLists.{command, LikeCommands, none, one}
use Rattle.lists.proofs.Last.{last_after_lem}
use Rattle.jobs.specs.Files.{commands_in, file_of, reply_file}
use Rattle.claims.specs.TwoFiles.{begun_in}
use Rattle.claims.specs.EachReply.{Told, told, told_from, replies_told, begun_told, PartsOfFile, EachPair, no_pair, pair, OfEachPair, SameReply, ReplyByReply, codes_told, SameCodes, SameSteps, SlotBySlot, Ended, OfEach, WalksEnded, Tells, OneRunTells}
use Rattle.claims.proofs.Alike.{alike_commands}

-- ---- the parts of a file
replies_told_lem : (last : Option ℕ) (s : State) (cs : List Command) → replies_told (told_from last s cs) ≡ replies_from s cs
replies_told_lem last s [] = refl
replies_told_lem last s (c ∷ cs) = rw (replies_told_lem (last_after last c) (leaves s c) cs)

begun_told_lem : (last : Option ℕ) (s : State) (cs : List Command) → begun_told (told_from last s cs) ≡ begun_from last s cs
unfolding walks_of
begun_told_lem last s [] = refl
begun_told_lem last s (c ∷ cs) = rw (begun_told_lem (last_after last c) (leaves s c) cs)

pub parts_of_file : PartsOfFile
unfolding reply_file begun_in
parts_of_file job =
    let cs = commands_in (file_of job) in record { of_replies = replies_told_lem _ unset cs; of_walks = begun_told_lem _ unset cs }

-- ---- what one run tells of each walk
ended : (s : State) (c : Command) → Ended (told s.allowance s c)
ended s c i = rw (step_bytes_lem s c.code c.operands i) (ended_of_plans (plans_of s c.code c.operands) (most_steps s.allowance) i)

all_ended : (s : State) (cs : List Command) → OfEach Ended (told_from s.allowance s cs)
all_ended s [] = tt
all_ended s (c ∷ cs) = (ended s c, rw (last_after_lem s c) (all_ended (leaves s c) cs))

pub walks_ended : WalksEnded
walks_ended job = all_ended unset (commands_in (file_of job))

-- ---- a command in two files
record Both (t u : Told) : Type 0 where
  replies : SameReply t u
  steps : SameSteps t u
  tells : Tells t u

module _ (s t : State) (code : ℕ) (b d : List ℕ) (l : Like s t) (o : LikeOperands code b d) where
  both : Both (told s.allowance s (command code b)) (told t.allowance t (command code d))
  unfolding walks_of
  both =
      let k = command_allowances s t code b d l o in
      let e : plans_of s code b ≡ plans_of t code d = ap plans_in k.same_work in
      let p = steps_of_plans (plans_of s code b) (most_steps s.allowance) (most_steps t.allowance) in
      let first : (i : ℕ) → step_byte i code (reply_of s code b) ≡ steps_at i (slots_of (most_steps s.allowance) (plans_of s code b)) = step_bytes_lem s code b in
      let second : (i : ℕ) → step_byte i code (reply_of t code d) ≡ steps_at i (slots_of (most_steps t.allowance) (plans_of s code b)) = λ i. rw e (step_bytes_lem t code d i) in
      record {
        replies = record { same_code = refl; same_plans = e; law = k.law };
        steps = λ i. rw (first i, second i) (p.of_slot i);
        tells =
            λ h. let one = p.of_one_run (λ i. rw (← first i) (h i)) in (
              λ m i. rw (first i) (one.0 (k.law.0 m) i),
              λ m. k.law.1 (one.1 (λ i. rw (← first i) (m i))),
            );
      }

along : {s t : State} {cs ds : List Command}
    → Like s t
    → LikeCommands cs ds
    → EachPair Both (told_from s.allowance s cs) (told_from t.allowance t ds)
along l none = no_pair
along {s} {t} l (one {code = code} {b = b} {d = d} o h) =
    let k = command_allowances s t code b d l o in
    rw (last_after_lem s (command code b), last_after_lem t (command code d))
    (pair (both s t code b d l o) (along {s = after s code b} {t = after t code d} k.like_after h))

-- ---- the claims
of_each : {P : Told → Told → Type 0} {ts us : List Told} → ((t u : Told) → Both t u → P t u) → EachPair Both ts us → EachPair P ts us
of_each f no_pair = no_pair
of_each f (pair {t = t} {u = u} x h) = pair (f t u x) (of_each f h)

of_each_pair : (P : Told → Told → Type 0) → ((t u : Told) → Both t u → P t u) → OfEachPair P
of_each_pair P f job other a = of_each f (along (record { same_given = refl }) (alike_commands job other a))

pub reply_by_reply : ReplyByReply
reply_by_reply = of_each_pair SameReply (λ t u x. x.replies)

same_codes_of : {ts us : List Told} → EachPair SameReply ts us → codes_told ts ≡ codes_told us
same_codes_of no_pair = refl
same_codes_of (pair x h) = rw (x.same_code, same_codes_of h)

pub same_codes : SameCodes
same_codes job other a = same_codes_of (reply_by_reply job other a)

pub slot_by_slot : SlotBySlot
slot_by_slot = of_each_pair SameSteps (λ t u x. x.steps)

pub one_run_tells : OneRunTells
one_run_tells = of_each_pair Tells (λ t u x. x.tells)
