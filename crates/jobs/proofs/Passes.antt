-- The two passes over a job file: what one command more means for each, and the run by what the first one answered.
use lib.ListN.{length, take, drop, length-append}
use lib.Seq.{drop-drop}
use borrow.Author.Tests.{le-leb, lt-leb}
use borrow.Rule.Slice.PartMut.{put_mid}
use Prim.Native.Nat.{ℕ, ◌+◌, ◌-◌, ◌≤◌, ◌<◌}
use native.Mathlib.Omega.{arith}
use mathlib.Core.Path.{◌≡◌, refl, sym, ap, ◌∙◌}
use mathlib.Core.List.{List, [], ◌∷◌, ◌++◌, append_assoc}
use Rattle.table.specs.Table.{answer_width}
use Rattle.table.specs.States.{unset}
use Rattle.table.specs.Turns.{reply_of}
use Rattle.table.specs.declared.state.State.{State}
use Rattle.table.proofs.ReplyLengths.{length_reply}
use Rattle.lists.specs.Commands.{Command, leaves, replies_from}
use Rattle.jobs.specs.Files.{Parsed, commands, refused, before, file_of, over, ran, run_parsed}
use Rattle.jobs.specs.Passes.{needed, accepted, not_accepted, checked_of, Fitting, filled}
use Rattle.words.proofs.Parts.{take_mid, drop_mid}

-- the first pass over one command
pub checked_before : (total : ℕ) (c : Command) (p : Parsed) → checked_of total (before c p) ≡ checked_of (total + (2 + answer_width c.code)) p
checked_before total c (commands cs) = ap accepted (omega arith)
checked_before total c (refused number place) = refl

pub length_replies : (s : State) (cs : List Command) → length (replies_from s cs) ≡ needed cs
length_replies s [] = refl
length_replies s (c ∷ cs) =
    length-append (reply_of s c.code c.operands) (replies_from (leaves s c) cs)
    ∙ ap (λ (n : ℕ). n + length (replies_from (leaves s c) cs)) (length_reply s c.code c.operands)
    ∙ ap (λ (n : ℕ). 2 + answer_width c.code + n) (length_replies (leaves s c) cs)

-- the second pass over one command
pub fit_here : (c : Command) (p : Parsed) (n : ℕ) → Fitting (before c p) n → 2 + answer_width c.code ≤ n
fit_here c (commands cs) n h = omega arith
fit_here c (refused number place) n h = absurd h

pub fit_next : (c : Command) (p : Parsed) (n m : ℕ) → m ≡ n - (2 + answer_width c.code) → Fitting (before c p) n → Fitting p m
fit_next c (commands cs) n m e h = omega arith
fit_next c (refused number place) n m e h = h

over_append : (a b old : List ℕ) → over (a ++ b) old ≡ a ++ over b (drop (length a) old)
over_append a b old = rw (append_assoc, length-append, drop-drop) refl

filled_before : (s : State) (c : Command) (p : Parsed) (n : ℕ) (old : List ℕ) → Fitting (before c p) n →
    filled s (before c p) old ≡ reply_of s c.code c.operands ++ filled (leaves s c) p (drop (2 + answer_width c.code) old)
filled_before s c (commands cs) n old h =
    over_append (reply_of s c.code c.operands) (replies_from (leaves s c) cs) old
    ∙ ap (λ (m : ℕ). reply_of s c.code c.operands ++ over (replies_from (leaves s c) cs) (drop m old)) (length_reply s c.code c.operands)
filled_before s c (refused number place) n old h = absurd h

-- one reply written: the buffer up to its end, and what is still to be done past it
pub pass : (s : State) (c : Command) (p : Parsed) (n : ℕ) (reply ys : List ℕ) (out k j : ℕ) →
    Fitting (before c p) n → out + k ≤ length reply → k ≡ 2 + answer_width c.code → j ≡ k → ys ≡ reply_of s c.code c.operands →
    take out reply ++ filled s (before c p) (drop out reply)
    ≡ take (out + k) (put_mid out j reply ys) ++ filled (leaves s c) p (drop (out + k) (put_mid out j reply ys))
pass s c p n reply ys out k j f h e q r =
    let l : length ys ≡ k = ap length r ∙ length_reply s c.code c.operands ∙ sym e in
    ap (λ (o : List ℕ). take out reply ++ o) (filled_before s c p n (drop out reply) f)
    ∙ rw (← r, ← e, q, take_mid reply ys out k h l, drop_mid reply ys out k h l) (sym (append_assoc (take out reply) ys (filled (leaves s c) p (drop k (drop out reply)))))

-- a whole file by what the first pass answered
pub refused_run : (p : Parsed) (number place size : ℕ) (old : List ℕ) → checked_of 0 p ≡ not_accepted number place → run_parsed p size old ≡ ran number place 0 old
refused_run (commands cs) number place size old e = let z : ◌≡◌ {A = ℕ} 0 1 = cc in absurd (omega arith)
refused_run (refused a b) number place size old e =
    let p : a ≡ number = cc in
    let q : b ≡ place = cc in
    rw (p, q) refl

module _ (total size : ℕ) (old : List ℕ) where
  pub accepted_fits : (p : Parsed) → checked_of 0 p ≡ accepted total → total ≤ length old → Fitting p (length old)
  accepted_fits (commands cs) e h = let q : 0 + needed cs ≡ total = cc in omega arith
  accepted_fits (refused a b) e h = let z : ◌≡◌ {A = ℕ} 0 1 = cc in absurd (omega arith)

  accepted_parsed : (p : Parsed) → checked_of 0 p ≡ accepted total → total ≤ length old → run_parsed p size old ≡ ran 0 size total (filled unset p old)
  accepted_parsed (commands cs) e h =
      let q : 0 + needed cs ≡ total = cc in
      let r : length (replies_from unset cs) ≡ total = length_replies unset cs ∙ omega arith in
      rw (r, le-leb total (length old) h) refl
  accepted_parsed (refused a b) e h = let z : ◌≡◌ {A = ℕ} 0 1 = cc in absurd (omega arith)

  short_parsed : (p : Parsed) → checked_of 0 p ≡ accepted total → length old < total → run_parsed p size old ≡ ran 5 total 0 old
  short_parsed (commands cs) e h =
      let q : 0 + needed cs ≡ total = cc in
      let r : length (replies_from unset cs) ≡ total = length_replies unset cs ∙ omega arith in
      rw (r, lt-leb total (length old) h) refl
  short_parsed (refused a b) e h = let z : ◌≡◌ {A = ℕ} 0 1 = cc in absurd (omega arith)

  pub accepted_run : (job : List ℕ)
      → checked_of 0 (file_of job) ≡ accepted total
      → total ≤ length old
      → run_parsed (file_of job) size old ≡ ran 0 size total (filled unset (file_of job) old)
  accepted_run job = accepted_parsed (file_of job)

  pub short_run : (job : List ℕ)
      → checked_of 0 (file_of job) ≡ accepted total
      → length old < total
      → run_parsed (file_of job) size old ≡ ran 5 total 0 old
  short_run job = short_parsed (file_of job)
