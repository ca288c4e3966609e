-- Carried by `next_filled`. The invariant: the first i rows are made of the first i registers.
use mathlib.Core.Path.{◌≡◌}
use mathlib.Core.List.{map}
use lib.ListN.{length, take}
use Rattle.register.specs.Layout.{row_of}
use Rattle.plain.proofs.rows.rows_of.Given as goal

abbrev pub invariant-loop-i : goal.invariant-loop-i
invariant-loop-i l = (length l.rows ≡ 32) × (take l.i l.rows ≡ take l.i (map row_of l.register-items))
