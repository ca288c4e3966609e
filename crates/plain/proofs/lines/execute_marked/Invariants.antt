-- Carried by the laws of a line of each kind. The invariant: registers and marks are what the plain machine leaves after the first i lines, in the edition that tells
-- whether register 0 is writable.
use Rattle.plain.proofs.Loop.{Done, edition_by}
use Rattle.plain.proofs.lines.execute_marked.Given as goal

abbrev pub invariant-loop-i : goal.invariant-loop-i
invariant-loop-i l = Done (edition_by l.writable) l.program l.i l.initial.registers l.initial.marks l.registers l.marks
