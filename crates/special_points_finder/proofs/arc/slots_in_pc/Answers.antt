-- Without a piece the slots are those that `no_slots` gives for every allowance and precision.
use Rattle.special_points_finder.proofs.arc.slots_in_pc.Goals as goal

pub returns-in-None : goal.returns-in-None
returns-in-None c = simp c.in-None.is (c.no_slots.ensures c.args.settings.allowance c.args.settings.precision)
