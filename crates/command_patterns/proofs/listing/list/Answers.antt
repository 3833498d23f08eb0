-- The invariant: the listing is what is written so far, then the lines of the ranks from this one on.
use Rattle.std.proofs.Common.{T, length, length-take, length-drop, ℕ, ◌+◌, ◌-◌, ◌*◌, ◌≤◌, ◌<◌, ◌≡◌, refl, subst, arith, List, ◌++◌}
use Rattle.std.specs.Prelude.{Option, Some}
use Rattle.command_patterns.specs.Patterns.{all_codes, count, pattern_at, pattern_or_none, patterns_from}
use Rattle.command_patterns.specs.Listing.{line, lines, listing}
use Rattle.command_patterns.proofs.Filling.{Filling, none_written, part_written, part_fits}
use Rattle.command_patterns.proofs.Lines.{length_line, of_rank, all_lines, next_line}
use Rattle.command_patterns.proofs.Numbers.{count_less, right_codes}
use Rattle.command_patterns.proofs.listing.list.Goals as goal

-- the next line: its codes, and its place
record Next (n all : ℕ) (codes out old : List ℕ) (at rank : ℕ) : Type 0 where
  right : T (all_codes codes)
  filling : Filling (listing n) out old (line codes ++ lines (patterns_from (rank + 1) (all - (rank + 1)))) at
  room : at + 3 * (length codes + 1) ≤ length out

rank_below : {n all rank : ℕ} → n ≤ 5 → all ≡ count n → rank < all → rank < count 5
rank_below {n} h c l = omega (arith, count_less n 5 h)

next : {n all : ℕ} {codes p out old : List ℕ} {r : Option (List ℕ)} {at rank : ℕ}
    → n ≤ 5
    → all ≡ count n
    → rank < all
    → codes ≡ p
    → r ≡ Some p
    → r ≡ pattern_or_none rank
    → Filling (listing n) out old (lines (patterns_from rank (all - rank))) at
    → Next n all codes out old at rank
next {n} {all} {codes} {p} {out} {old} {r} {at} {rank} h c l d u e f =
    let is : pattern_at rank ≡ codes = cc (of_rank rank (rank_below h c l)) in
    let f = rw is at (subst (λ (left : List ℕ). Filling (listing n) out old left at) (next_line rank all l) f) in
    record {
      right = rw is at (right_codes rank);
      filling = f;
      room = omega (arith, length_line codes, part_fits (line codes) _ f);
    }

pub loop-rank-init : goal.loop-rank-init
loop-rank-init c =
    let n = c.args.n in
    let out = c.args.out.now in
    record {
      all = c.count-rank-end.ensures;
      filling = rw c.count-rank-end.ensures (subst (λ (left : List ℕ). Filling (listing n) out out left 0) (all_lines n) (none_written (listing n) out c.requires.1));
    }

pub unwrap-p-requires : goal.unwrap-p-requires
unwrap-p-requires c = rw (c.pattern_at.ensures, of_rank c.loop-rank.rank (rank_below c.requires.0 c.loop-rank.invariant.all c.loop-rank-test.true)) refl

pub slice_bounds-put_line-end : goal.slice_bounds-put_line-end
slice_bounds-put_line-end c =
    let x = next c.requires.0 c.loop-rank.invariant.all c.loop-rank-test.true c.codes-codes.ensures c.unwrap-p.ensures c.pattern_at.ensures c.loop-rank.invariant.filling in
    x.room

pub put_line-requires : goal.put_line-requires
put_line-requires c =
    let x = next c.requires.0 c.loop-rank.invariant.all c.loop-rank-test.true c.codes-codes.ensures c.unwrap-p.ensures c.pattern_at.ensures c.loop-rank.invariant.filling in
    (x.right, simp (length-take, length-drop) (omega (arith, x.room, length_line c.codes-codes.result.now)))

pub loop-rank-preserved : goal.loop-rank-preserved
loop-rank-preserved c =
    let x = next c.requires.0 c.loop-rank.invariant.all c.loop-rank-test.true c.codes-codes.ensures c.unwrap-p.ensures c.pattern_at.ensures c.loop-rank.invariant.filling in
    let l = c.loop-rank in
    let codes = c.codes-codes.result.now in
    record {
      all = l.invariant.all;
      filling = part_written (line codes) _ _ x.filling c.put_line.ensures (omega (arith, length_line codes)) (omega (arith, length_line codes));
    }
