-- The invariant: the file is checked as what is left of it is, with the bytes counted so far.
use Prim.Native.Nat.{ℕ, ◌+◌}
use native.Mathlib.Omega.{arith}
use mathlib.Core.Path.{◌≡◌, sym, ap, ◌∙◌}
use mathlib.Core.List.{List}
use Rattle.std.proofs.lemmas.Result.{err_from_is_err_and}
use Rattle.std.specs.Prelude.{Option, None, Some, Result, Ok}
use Rattle.table.specs.Codes.{code_byte}
use Rattle.jobs.specs.declared.item.Found.{Found}
use Rattle.jobs.specs.declared.refusal.Refusal.{Refusal}
use Rattle.jobs.specs.Passes.{item_told, item_at, accepted, checked_of}
use Rattle.jobs.proofs.Items.{parsed_at, command_at, at_item, good_item}
use Rattle.jobs.proofs.Files.{refused_size_lem, sized, not_too_long}
use Rattle.jobs.proofs.Passes.{checked_before}
use Rattle.jobs.proofs.file.check.Goals as goal

-- what was found there
item : (job : List ℕ) (at : ℕ) {r : Result (Option Found) Refusal} {o : Option Found} (x : Option Found)
    → item_told r ≡ item_at job at
    → r ≡ Ok o
    → o ≡ x
    → item_at job at ≡ item_told (Ok x)
item job at x e f g = sym e ∙ ap item_told (f ∙ ap Ok g)

pub returns-then-job : goal.returns-then-job
returns-then-job c = sym (ap (checked_of 0) (refused_size_lem _ c.if-job.true))

pub loop-command-init : goal.loop-command-init
loop-command-init c =
    let job = c.args.job.now in
    (omega arith, omega arith, not_too_long job c.if-job.false, ap (checked_of 0) (sized job c.if-job.false))

pub loop-command-smaller : goal.loop-command-smaller
loop-command-smaller c =
    let i = item _ _ (Some c.in-Some.command) c.command_at.ensures c.in_ok-command.was c.in-Some.is in
    let g = good_item _ _ _ i in
    omega arith

pub loop-command-preserved : goal.loop-command-preserved
loop-command-preserved c =
    let l = c.loop-command in
    let v = c.in-Some.command in
    let job = c.args.job.now in
    let i = item _ _ (Some v) c.command_at.ensures c.in_ok-command.was c.in-Some.is in
    let g = good_item job l.at _ i in (
      g.1,
      omega (arith, c.reply_width-total.ensures.1),
      l.invariant.2,
      l.invariant.3 ∙ ap (checked_of l.total) (at_item job l.at _ i)
          ∙ checked_before l.total (command_at job l.at (code_byte v.code)) (parsed_at job v.end)
          ∙ ap (λ (n : ℕ). checked_of (l.total + n) (parsed_at job v.end)) (sym c.reply_width-total.ensures.0),
    )

pub returns : goal.returns
returns c =
    let l = c.loop-command in
    let job = c.args.job.now in
    let i = item _ _ None c.command_at.ensures c.in_ok-command.was c.in_default.is in
    ap accepted (omega arith)
    ∙ sym (l.invariant.3 ∙ ap (checked_of l.total) (at_item job l.at _ i))

pub returns-in_err-command : goal.returns-in_err-command
returns-in_err-command c =
    let l = c.loop-command in
    let job = c.args.job.now in
    let p = err_from_is_err_and c.from_residual.result c.from_residual.ensures.1 in
    rw (p.1, p.2) (sym (l.invariant.3 ∙ ap (checked_of l.total) (at_item job l.at _ (sym c.in_err-command.ensures))))
