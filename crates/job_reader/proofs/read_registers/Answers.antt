-- Carried by `next_read`. The invariant: the array is filled with the registers before i.
use native.Mathlib.Omega.{arith}
use Rattle.register.specs.Layout.{zero_register}
use Rattle.job_rules.proofs.Pieces.{next_read}
use Rattle.job_reader.proofs.read_registers.Goals as goal

pub loop-i-preserved : goal.loop-i-preserved
loop-i-preserved c = next_read _ 16 32 zero_register _ _ _ _ _ (omega arith) c.loop-i.invariant c.register_at.ensures
