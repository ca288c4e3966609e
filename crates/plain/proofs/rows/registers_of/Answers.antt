-- Carried by `next_filled`. The invariant: the first i registers are made of the first i rows.
use native.Mathlib.Omega.{arith}
use lib.ListN.{length-set}
use Rattle.plain.proofs.Converted.{next_filled}
use Rattle.plain.proofs.rows.registers_of.Goals as goal

pub loop-i-preserved : goal.loop-i-preserved
loop-i-preserved c = (simp length-set (omega arith), search next_filled)
