-- Carried by `counted`.
use Rattle.std.proofs.Common.{refl}
use Rattle.alu_lanes.proofs.Masks.{counted}
use Rattle.alu_lanes.proofs.ones.in_eights.Goals as goal

pub returns : goal.returns
returns c = counted 4 4 c.args.w c.in_fours.ensures c.add_halves.ensures refl
