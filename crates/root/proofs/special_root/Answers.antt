-- Each return is what proofs/Bits.antt says of `root_of` at such a pattern.
use mathlib.Core.Path.{◌≡◌, refl, sym, ap, ◌∙◌}
use Prim.Native.Nat.{ℕ, ◌^◌}
use native.Mathlib.Omega.{arith}
use lib.Ieee.{binary64, neg, of_bits}
use Rattle.root.specs.Root.{root_of}
use Rattle.std.proofs.lemmas.Float.{not_nan_f64_bits}
use Rattle.root.proofs.Bits.{read_high, own_root}
use Rattle.root.proofs.special_root.Goals as goal

minus_zero : neg (of_bits binary64 0) ≡ root_of (of_bits binary64 (2 ^ 63))
unfolding neg of_bits root_of
minus_zero = refl

pub returns-then-b-eq-SIGN : goal.returns-then-b-eq-SIGN
returns-then-b-eq-SIGN c = minus_zero ∙ ap (λ (b : ℕ). root_of (of_bits binary64 b)) (sym c.if-b-eq-SIGN.true)

pub returns-then-b-gt-INFINITY : goal.returns-then-b-gt-INFINITY
returns-then-b-gt-INFINITY c = c.not_a_number.ensures ∙ sym (read_high _ c.if-b-gt-INFINITY.true (omega arith) c.if-b-eq-SIGN.false)

pub float_from_bits-result : goal.float_from_bits-result
float_from_bits-result c = not_nan_f64_bits c.args.b (omega arith)

pub returns : goal.returns
returns c = own_root _ c.requires c.if-b-gt-INFINITY.false
