-- Where the tests pass the bounds hold, and proofs/SignsByOrder.antt says what `sides` tells; 0 says nothing.
use lib.Ieee.{Float, binary64, of_bits}
use lib.Ieee.Fits.{mul-fits}
use Rattle.angles.specs.Floats.{◌⊗◌}
use Rattle.newton.proofs.SignsByOrder.{tested, told}
use Rattle.newton.proofs.signs.signs_by_order.Goals as goal

-- 0.999999 and 1.000006
abbrev below_norm : Float
below_norm = of_bits binary64 0x3fef_fffd_e721_0be9

abbrev above_norm : Float
above_norm = of_bits binary64 0x3ff0_0006_4a9c_dc44

-- 0.999993 and 1.000012
abbrev below_height : Float
below_height = of_bits binary64 0x3fef_fff1_51e7_5361

abbrev above_height : Float
above_height = of_bits binary64 0x3ff0_000c_9539_b888

pub returns-then-norm-height : goal.returns-then-norm-height
returns-then-norm-height c =
    let a = c.args in
    let g = c.well_formed in
    let y = c.inverse_root-y.result in
    let n = a.s ⊗ y in
    let z = c.size-a.result in
    simp c.sides.ensures
    (told
    (tested a.s a.cz (n ⊗ below_norm) (n ⊗ above_norm) (y ⊗ (z ⊗ below_height)) (y ⊗ (z ⊗ above_height)) a.z1 a.z2 (rw g.0.1 tt) (rw g.1.0.1 tt)
    (mul-fits binary64 n below_norm)
    (mul-fits binary64 n above_norm)
    (mul-fits binary64 y (z ⊗ below_height))
    (mul-fits binary64 y (z ⊗ above_height))
    (rw g.1.1.0.1 tt)
    (rw g.1.1.1.0.1 tt)
    (simp (← c.size-a.ensures, ← c.size.ensures, ← c.size-2.ensures) c.if-norm-height.true)))
