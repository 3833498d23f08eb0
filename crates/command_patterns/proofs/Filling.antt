-- A buffer that is filled part by part from its start: what is written so far, then what is left, is the whole; past it the buffer is as it was.
use Rattle.std.proofs.Common.{length, take, drop, drop-drop, length-append, length-take, length-drop, arith, ℕ, ◌+◌, ◌≤◌, ◌≡◌, refl, sym, ap, ◌∙◌, List, ◌++◌, append_assoc}
use Rattle.std.proofs.lemmas.Slice.{take-put_mid, drop-put_mid}
use borrow.Rule.Slice.PartMut.{put_mid}

pub record Filling (whole now old left : List ℕ) (at : ℕ) : Type 0 where
  pub so_far : whole ≡ take at now ++ left
  pub kept : drop at now ≡ drop at old
  pub long : length now ≡ length old
  pub room : at + length left ≤ length old

pub none_written : (whole old : List ℕ) → length whole ≤ length old → Filling whole old old whole 0
none_written whole old h = record { so_far = refl; kept = refl; long = refl; room = omega arith }

-- the next part is written, and came back as ys; its length is worked out as a difference of places
pub part_written : {whole now old left ys : List ℕ} {at : ℕ} (part : List ℕ) (k to : ℕ)
    → Filling whole now old (part ++ left) at
    → ys ≡ part
    → k ≡ length part
    → to ≡ at + length part
    → Filling whole (put_mid at k now ys) old left to
part_written {whole} {now} {old} {left} {ys} {at} part k to f e d t =
    let m = length-append part left in
    let h : at ≤ length now = omega (arith, f.long, f.room) in
    rw (e, t)
    (record {
      so_far = rw (take-put_mid at k now part (at + length part) refl h, append_assoc) f.so_far;
      kept =
          drop-put_mid at k now part (at + length part) (omega arith) h (sym d)
          ∙ simp (← drop-drop) (ap (drop (length part)) f.kept);
      long = simp (length-append, length-take, length-drop) (omega (arith, f.long, f.room));
      room = omega (arith, f.room);
    })

-- its room
pub part_fits : {whole now old : List ℕ} {at : ℕ} (part left : List ℕ) → Filling whole now old (part ++ left) at → at + length part ≤ length now
part_fits part left f = omega (arith, length-append part left, f.long, f.room)
