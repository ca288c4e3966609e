-- Carried by `next_read`. The invariant: the array is filled with the registers before i.
use mathlib.Core.Path.{◌≡◌}
use lib.ListN.{drop}
use Rattle.register.specs.Layout.{zero_register}
use Rattle.job_rules.specs.Read.{filled}
use Rattle.job_rules.specs.Layout.{registers_of}
use Rattle.job_reader.proofs.read_registers.Given as goal

abbrev pub invariant-loop-i : goal.invariant-loop-i
invariant-loop-i l = l.registers ≡ filled 32 zero_register (registers_of l.i (drop l.at l.l))
