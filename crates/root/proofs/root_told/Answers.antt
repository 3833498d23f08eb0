-- A NaN is its own root; any other x is the value of its pattern, of which proofs/Bits.antt says that no digits are told where it has a special root.
use mathlib.Core.Path.{refl, sym, ap, ◌∙◌, subst}
use native.Mathlib.Omega.{arith}
use lib.Dec.{T}
use lib.Ieee.{binary64}
use lib.Ieee.Bits.{of_bits-to_bits, to_bits-lt}
use Rattle.std.proofs.lemmas.Float.{not_nan_f64_bits}
use Rattle.root.specs.Root.{root_of}
use Rattle.root.specs.RootDigits.{digits_of}
use Rattle.root.proofs.Nan.{only_nan}
use Rattle.root.proofs.Bits.{nan_root, special_digits}
use Rattle.root.proofs.root_told.Goals as goal

pub returns-then-is_nan : goal.returns-then-is_nan
unfolding digits_of
returns-then-is_nan c = let n = sym c.if-is_nan.ensures.value in (nan_root _ n, ap digits_of (sym (only_nan _ n)))

pub float_from_bits-result : goal.float_from_bits-result
float_from_bits-result c = not_nan_f64_bits _ (omega (arith, c.in-Some.ensures.told.finite))

pub returns-in-Some : goal.returns-in-Some
returns-in-Some c =
    let t = c.in-Some.ensures.told in
    let e = of_bits-to_bits binary64 c.args.x (subst T (sym c.well_formed.0.1) tt) in
    (t.root_is ∙ ap root_of e, t.digits_are ∙ ap digits_of e)

pub returns-in-None : goal.returns-in-None
returns-in-None c =
    let f = subst T (sym c.well_formed.0.1) tt in
    let e = of_bits-to_bits binary64 c.args.x f in
    (c.special_root.ensures ∙ ap root_of e, sym (special_digits _ (c.in-None.ensures.none refl) (to_bits-lt binary64 c.args.x f)) ∙ ap digits_of e)
