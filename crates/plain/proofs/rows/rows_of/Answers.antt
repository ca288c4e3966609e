-- Carried by `next_filled`. The invariant: the first i rows are made of the first i registers.
use native.Mathlib.Omega.{arith}
use lib.ListN.{length-set}
use Rattle.plain.proofs.Converted.{next_filled}
use Rattle.plain.proofs.rows.rows_of.Goals as goal

pub loop-i-preserved : goal.loop-i-preserved
loop-i-preserved c = (simp length-set (omega arith), search next_filled)
