-- A buffer of which parts are lent and come back: a part in its middle, and parts one after the other from its start.
use Rattle.std.proofs.Common.{length, take, drop, drop_of_length-le, drop-drop, length-append, length-take, length-drop, arith, ℕ, ◌+◌, ◌≤◌, ◌≡◌, refl, ◌∙◌, List, [], ◌++◌, append-nil, append_assoc}
use Rattle.std.proofs.lemmas.List.{take_at, drop_at}
use Rattle.std.proofs.lemmas.Slice.{take-put_mid, drop-put_mid}
use borrow.Rule.Slice.PartMut.{put_mid}

-- a part that came back, up to its end and past it
pub take_mid : (xs ys : List ℕ) (a k : ℕ) → a + k ≤ length xs → length ys ≡ k → take (a + k) (put_mid a k xs ys) ≡ take a xs ++ ys
take_mid xs ys a k h l = take-put_mid a k xs ys (a + k) (omega arith) (omega arith)

pub drop_mid : (xs ys : List ℕ) (a k : ℕ) → a + k ≤ length xs → length ys ≡ k → drop (a + k) (put_mid a k xs ys) ≡ drop k (drop a xs)
drop_mid xs ys a k h l = drop-put_mid a k xs ys (a + k) (omega arith) (omega arith) l ∙ rw drop-drop refl

pub length_mid : (a k : ℕ) (xs ys : List ℕ) → a + k ≤ length xs → length ys ≡ k → length (put_mid a k xs ys) ≡ length xs
length_mid a k xs ys h e = simp (length-append, length-take, length-drop) (omega arith)

-- a buffer that is written part by part: what is written so far, then the bytes at entry
pub record Upto (now old file : List ℕ) (at : ℕ) : Type 0 where
  pub is : now ≡ file ++ drop at old
  pub long : length file ≡ at

pub upto_none : (old : List ℕ) → Upto old old [] 0
upto_none old = record { is = refl; long = refl }

-- the next part is written
pub upto_more : {now old file : List ℕ} {at : ℕ} (ys : List ℕ) (k : ℕ)
    → Upto now old file at
    → length ys ≡ k
    → Upto (put_mid at k now ys) old (file ++ ys) (at + k)
upto_more {now} {old} {file} {at} ys k u l =
    record {
      is =
          rw
          (u.is, take_at file (drop at old) at u.long, drop_at file (drop at old) at u.long, drop-drop, append_assoc)
          refl;
      long = length-append file ys ∙ omega arith;
    }

pub upto_all : {now old file : List ℕ} {at : ℕ} → Upto now old file at → length old ≡ at → now ≡ file
upto_all {now} {old} {file} {at} u l =
    let h : length old ≤ at = omega arith in rw (u.is, drop_of_length-le old h, append-nil) refl

-- a buffer whose first two bytes are one part, and all that follow another
pub two_and_rest : (old xs ys : List ℕ) (n : ℕ)
    → length xs ≡ 2
    → length ys ≡ n
    → length old ≡ 2 + n
    → put_mid 2 n (put_mid 0 2 old xs) ys ≡ xs ++ ys
two_and_rest old xs ys n lx ly l = upto_all (upto_more ys n (upto_more xs 2 (upto_none old) lx) ly) l
