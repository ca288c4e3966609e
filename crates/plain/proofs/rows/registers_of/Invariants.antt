-- Carried by `next_filled`. The invariant: the first i registers are made of the first i rows.
use mathlib.Core.Path.{◌≡◌}
use mathlib.Core.List.{map}
use lib.ListN.{length, take}
use Rattle.register.specs.Layout.{of_row}
use Rattle.plain.proofs.rows.registers_of.Given as goal

abbrev pub invariant-loop-i : goal.invariant-loop-i
invariant-loop-i l = (length l.registers ≡ 32) × (take l.i l.registers ≡ take l.i (map of_row l.row-items))
