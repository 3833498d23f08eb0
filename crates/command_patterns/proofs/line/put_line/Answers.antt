-- The next code and a space are written where the line goes on; after the last code 00 and the line feed.
use Rattle.std.proofs.Common.{T, length, get_or, drop, length-take, length-drop, ℕ, ◌+◌, ◌<◌, subst, arith, List, ◌++◌}
use Rattle.command_patterns.specs.Patterns.{all_codes}
use Rattle.command_patterns.specs.Listing.{space, code_then, line}
use Rattle.command_patterns.proofs.Filling.{Filling, part_written}
use Rattle.command_patterns.proofs.Lines.{length_code, length_line, code_at}
use Rattle.command_patterns.proofs.Orders.{first_code}
use Rattle.command_patterns.proofs.line.put_line.Goals as goal

module _ {whole out old : List ℕ} {at : ℕ} (codes : List ℕ) (i : ℕ) (f : Filling whole out old (line (drop i codes)) at) where
  -- a code and a space come next
  next : i < length codes → Filling whole out old (code_then (get_or codes i 0) space ++ line (drop (i + 1) codes)) at
  next h = subst (λ (cs : List ℕ). Filling whole out old (line cs) at) (code_at codes i h) f

codes_after : (codes : List ℕ) (i : ℕ) → i < length codes → T (all_codes (drop i codes)) → T (all_codes (drop (i + 1) codes))
codes_after codes i h t =
    (first_code (get_or codes i 0) (drop (i + 1) codes) (subst (λ (cs : List ℕ). T (all_codes cs)) (code_at codes i h) t)).2

pub slice_bounds-put_code-end : goal.slice_bounds-put_code-end
slice_bounds-put_code-end c = omega (arith, length_line c.args.codes.now)

pub loop-i-preserved : goal.loop-i-preserved
loop-i-preserved c =
    let l = c.loop-i in
    let codes = c.args.codes.now in
    let code = get_or codes l.i 0 in
    record {
      right = codes_after codes l.i c.loop-i-test.true l.invariant.right;
      filling =
          part_written (code_then code space) _ _ (next codes l.i l.invariant.filling c.loop-i-test.true) c.put_code.ensures
          (omega (arith, length_code code space))
          (omega (arith, length_code code space));
    }

pub put_code-requires-2 : goal.put_code-requires-2
put_code-requires-2 c = (omega arith, simp (length-take, length-drop) (omega (arith, length_line c.args.codes.now)))
