-- Registers and what is in flight make up the unit after the cycles made so far.
use Rattle.unit_rules.proofs.Shared.{◌≡◌, cycles_of, unit_with}
use Rattle.unit.proofs.cycles.one_by_one.Given as goal

abbrev pub invariant-loop : goal.invariant-loop
invariant-loop l = unit_with l.u l.counter l.registers l.flight ≡ cycles_of l.counter l.u
