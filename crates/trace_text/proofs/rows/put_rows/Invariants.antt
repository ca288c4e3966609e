-- Registers and what is in flight make up the unit after the cycles made so far, and their rows are put.
use Rattle.trace_rules.proofs.Shared.{at_front, rows_of}
use Rattle.unit_rules.proofs.Shared.{◌≡◌, length, cycles_of, unit_with}
use Rattle.trace_text.proofs.rows.put_rows.Given as goal

abbrev pub invariant-loop-made : goal.invariant-loop-made
invariant-loop-made l =
    (length l.out ≡ length l.initial.out) × (unit_with l.u l.made l.registers l.flight ≡ cycles_of l.made l.u) × (l.out ≡ at_front (rows_of l.made l.u) l.initial.out)
