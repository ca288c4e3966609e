-- Carried by `counted`.
use Rattle.std.proofs.Common.{refl}
use Rattle.alu_lanes.proofs.Masks.{counted}
use Rattle.alu_lanes.proofs.ones.in_fours.Goals as goal

pub returns : goal.returns
returns c = counted 2 8 c.args.w c.in_pairs.ensures c.add_halves.ensures refl
