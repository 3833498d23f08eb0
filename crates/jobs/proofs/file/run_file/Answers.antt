-- By what the first pass answered: a refusal, too little room, or the replies.
use lib.ListN.{length}
use mathlib.Core.Path.{sym, ap, ◌∙◌}
use Rattle.std.proofs.lemmas.Result.{err_from_is_err_and}
use Rattle.jobs.specs.Files.{file_of, ran, run_file}
use Rattle.jobs.proofs.Passes.{refused_run, accepted_run, short_run}
use Rattle.jobs.proofs.file.run_file.Goals as goal

pub returns-in_err-total : goal.returns-in_err-total
unfolding run_file
returns-in_err-total c =
    let a = c.args in
    let p = err_from_is_err_and c.from_residual.result c.from_residual.ensures.1 in
    rw (p.1, p.2) (sym (refused_run (file_of a.job.now) _ _ (length a.job.now) a.reply.now (sym c.in_err-total.ensures)))

pub returns-then-reply-total : goal.returns-then-reply-total
unfolding run_file
returns-then-reply-total c =
    let a = c.args in
    let t = c.in_ok-total in
    sym (short_run t.total (length a.job.now) a.reply.now a.job.now (sym t.ensures) c.if-reply-total.true)

pub returns : goal.returns
unfolding run_file
returns c =
    let a = c.args in
    let t = c.in_ok-total in
    ap (ran 0 (length a.job.now) t.total) c.run.ensures
    ∙ sym (accepted_run t.total (length a.job.now) a.reply.now a.job.now (sym t.ensures) c.if-reply-total.false)
