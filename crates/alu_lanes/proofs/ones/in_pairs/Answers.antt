-- Carried by `counted`, from the word itself, whose single bits are their own ones.
use Rattle.std.proofs.Common.{sym, refl, arith}
use Rattle.alu_rules.proofs.Ones.{single_bits}
use Rattle.alu_lanes.proofs.Masks.{counted}
use Rattle.alu_lanes.proofs.ones.in_pairs.Goals as goal

pub returns : goal.returns
returns c = let w = c.args.w in counted 1 16 w (sym (single_bits 32 w (omega arith))) c.add_halves.ensures refl
