-- The invariant: the whole buffer is what is written so far, then what the rest of the file still fills. One command more moves its reply across.
use borrow.Rule.Slice.PartMut.{put_mid}
use lib.ListN.{length, take, drop, take-append-drop, length-take, length-drop}
use Prim.Native.Nat.{ℕ, ◌+◌, ◌-◌, ◌≤◌}
use native.Mathlib.Nat.{sub-zero}
use native.Mathlib.Omega.{arith}
use mathlib.Core.Path.{◌≡◌, refl, sym, ap, subst, ◌∙◌}
use mathlib.Core.List.{List, ◌++◌}
use Rattle.table.specs.Codes.{code_byte}
use Rattle.table.specs.Table.{row_of, operand_width, answer_width}
use Rattle.table.specs.States.{unset}
use Rattle.std.specs.Prelude.{Result}
use Rattle.table.specs.Turns.{turn_of, Fits, reply_bytes, reply_of, after}
use Rattle.table.specs.declared.refusal.Refusal.{Refusal}
use Rattle.table.specs.declared.reply.Reply.{Reply}
use Rattle.table.specs.declared.state.State.{State}
use Rattle.words.proofs.Parts.{length_mid}
use Rattle.table.proofs.ReplyLengths.{reply_fits, length_reply}
use Rattle.lists.specs.Commands.{leaves}
use Rattle.jobs.specs.Files.{Parsed, before, file_of}
use Rattle.jobs.specs.Passes.{Item, command, end, refusal, NoCommand, Fitting, filled, item_at}
use Rattle.jobs.proofs.Items.{parsed_at, parsed_as, command_at, at_item, good_item}
use Rattle.jobs.proofs.Files.{fitting_parsed}
use Rattle.jobs.proofs.Passes.{fit_here, fit_next, pass}
use Rattle.jobs.proofs.file.run.Goals as goal

-- what was found: a command that lies in the file, and whose reply fits the n bytes that are left
record Here (job : List ℕ) (at code to n : ℕ) : Type 0 where
  wide : to ≡ at + 1 + operand_width code
  inside : to ≤ length job
  room : 2 + answer_width code ≤ n
  fitting : Fitting (before (command_at job at code) (parsed_at job to)) n

here : {job : List ℕ} {at code to n : ℕ} → item_at job at ≡ command code to → Fitting (parsed_at job at) n → Here job at code to n
here {job} {at} {code} {to} {n} told fitting =
    let g = good_item job at _ told in
    let f = subst (λ (p : Parsed). Fitting p n) (at_item job at _ told) fitting in
    record {
      wide = g.0;
      inside = g.1;
      room = fit_here (command_at job at code) (parsed_at job to) n f;
      fitting = f;
    }

-- nothing is written where no command is
nothing_more : (s : State) (job : List ℕ) (at : ℕ) (old : List ℕ) (i : Item) → NoCommand i → filled s (parsed_as job at i) old ≡ old
nothing_more s job at old (command code to) n = absurd n
nothing_more s job at old end n = refl
nothing_more s job at old (refusal number place) n = refl

pub loop-command-init : goal.loop-command-init
loop-command-init c =
    let job = c.args.job.now in
    let reply = c.args.reply.now in
    let e = fitting_parsed job (length reply) c.requires in (
      omega arith,
      omega arith,
      refl,
      subst (λ (p : Parsed). Fitting p (length reply - 0)) e (subst (Fitting (file_of job)) (sym (sub-zero (length reply))) c.requires),
      rw c.unset-state.ensures (ap (λ (p : Parsed). filled unset p reply) e),
    )

pub slice_bounds-turn-count : goal.slice_bounds-turn-count
slice_bounds-turn-count c = let h = here c.in-Some.ensures.some c.loop-command.invariant.3 in omega (arith, h.wide)

pub slice_bounds-turn-start : goal.slice_bounds-turn-start
slice_bounds-turn-start c = let h = here c.in-Some.ensures.some c.loop-command.invariant.3 in omega (arith, h.wide)

pub slice_bounds-turn-end : goal.slice_bounds-turn-end
slice_bounds-turn-end c = let h = here c.in-Some.ensures.some c.loop-command.invariant.3 in h.inside

pub turn-turn-requires : goal.turn-turn-requires
turn-turn-requires c =
    let h = here c.in-Some.ensures.some c.loop-command.invariant.3 in simp (length-take, length-drop) (omega (arith, h.wide, h.inside))

pub slice_bounds-put-end : goal.slice_bounds-put-end
slice_bounds-put-end c = let h = here c.in-Some.ensures.some c.loop-command.invariant.3 in omega (arith, h.room)

pub put-requires : goal.put-requires
put-requires c =
    let h = here c.in-Some.ensures.some c.loop-command.invariant.3 in
    let code = code_byte c.in-Some.command.code in
    let s = c.loop-command.state in
    let r = c.reply_width in
    rw c.from.ensures (
      simp (length-take, length-drop) (omega (arith, h.room, r.ensures.0)),
      subst (λ (t : Result Reply Refusal). Fits t (answer_width code)) (sym c.turn-turn.ensures.replied) (reply_fits s code _),
    )

pub loop-command-smaller : goal.loop-command-smaller
loop-command-smaller c = let h = here c.in-Some.ensures.some c.loop-command.invariant.3 in omega (arith, h.wide, h.inside)

pub loop-command-preserved : goal.loop-command-preserved
unfolding reply_of after
loop-command-preserved c =
    let h = here c.in-Some.ensures.some c.loop-command.invariant.3 in
    let job = c.args.job.now in
    let l = c.loop-command in
    let s = l.state in
    let code = code_byte c.in-Some.command.code in
    let to = c.in-Some.command.end in
    let r = c.reply_width in
    let turn = c.turn-turn in
    let found = command_at job l.at code in
    let next = parsed_at job to in
    let n = length c.args.reply.now - l.out in
    let w : to - (l.at + 1) ≡ operand_width code = omega (arith, h.wide) in
    let j : l.out + r.result - l.out ≡ r.result = omega arith in
    let o : take (to - (l.at + 1)) (drop (l.at + 1) job) ≡ found.operands = ap (λ (m : ℕ). take m (drop (l.at + 1) job)) w in
    let ys = c.put.new.out in
    let q : ys ≡ reply_of s code found.operands =
    c.put.ensures ∙ ap (λ n. reply_bytes n turn.result) c.from.ensures ∙ ap (reply_bytes code) turn.ensures.replied ∙ ap (λ b. reply_bytes code (turn_of (row_of code) s b).reply) o in
    let t : turn.new.state ≡ leaves s found = turn.ensures.left ∙ ap (λ b. (turn_of (row_of code) s b).state) o in
    let m : length ys ≡ r.result = ap length q ∙ length_reply s code found.operands ∙ sym r.ensures.0 in (
      h.inside,
      omega (arith, h.room, r.ensures.0),
      length_mid l.out (l.out + r.result - l.out) l.reply ys (omega (arith, h.room, r.ensures.0)) (m ∙ sym j) ∙ l.invariant.2,
      fit_next found next n _ (omega (arith, r.ensures.0)) h.fitting,
      l.invariant.4
          ∙ ap (λ (p : Parsed). take l.out l.reply ++ filled s p (drop l.out l.reply))
          (at_item job l.at _ c.in-Some.ensures.some)
          ∙ pass s found next n l.reply ys l.out r.result (l.out + r.result - l.out) h.fitting (omega (arith, h.room, r.ensures.0)) r.ensures.0 j q
          ∙ ap (λ (x : State). take (l.out + r.result) (put_mid l.out (l.out + r.result - l.out) l.reply ys)
          ++ filled x next (drop (l.out + r.result) (put_mid l.out (l.out + r.result - l.out) l.reply ys))) (sym t),
    )

pub returns : goal.returns
returns c =
    let l = c.loop-command in
    let job = c.args.job.now in
    sym (
    l.invariant.4
    ∙ ap (λ (p : Parsed). take l.out l.reply ++ filled l.state p (drop l.out l.reply)) (at_item job l.at _ refl)
    ∙ ap (λ (r : List ℕ). take l.out l.reply ++ r) (nothing_more l.state job l.at (drop l.out l.reply) (item_at job l.at) c.in_default.ensures.none)
    ∙ take-append-drop l.out l.reply)
