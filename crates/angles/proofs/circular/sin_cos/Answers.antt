-- Of a NaN the answer is v itself. For any other the callees' contracts give the parts of `sin_cos_of`.
use mathlib.Core.Path.{sym}
use Rattle.angles.specs.Circular.{sin_cos_of}
use Rattle.root.proofs.Nan.{only_nan}
use Rattle.angles.proofs.Floats.{nan_by_test}
use Rattle.angles.proofs.circular.sin_cos.Goals as goal

pub returns-then-is_nan : goal.returns-then-is_nan
unfolding sin_cos_of
returns-then-is_nan c =
    let n = sym c.if-is_nan.ensures.value in
    rw (nan_by_test c.args.v, n, only_nan c.args.v n)

pub returns : goal.returns
unfolding sin_cos_of
returns c =
    simp (
      ← c.signed.ensures,
      ← c.sign.ensures,
      ← c.turned_by.ensures,
      ← c.within_quarter_turn.ensures,
      ← c.quarter_turns-k.ensures,
      ← c.size-a.ensures,
      nan_by_test c.args.v,
      ← c.if-is_nan.ensures.value,
    )
