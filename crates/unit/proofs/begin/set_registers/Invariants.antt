-- The registers before i are set.
use Rattle.unit_rules.proofs.Shared.{◌≡◌, registers_set}
use Rattle.unit.proofs.begin.set_registers.Given as goal

abbrev pub invariant-loop-i : goal.invariant-loop-i
invariant-loop-i l = l.registers ≡ registers_set l.i l.job.registers l.initial.registers
