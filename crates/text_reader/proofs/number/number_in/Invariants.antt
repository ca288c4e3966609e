-- Carried by the laws of `Numbers`. The invariant: the value and the end, with the digits from there on, are those of the number.
use Prim.Native.Nat.{◌-◌, ◌≤◌}
use lib.ListN.{length}
use Rattle.text_reader.proofs.Numbers.{NumberSoFar}
use Rattle.text_reader.proofs.number.number_in.Given as goal

abbrev pub invariant-loop-end : goal.invariant-loop-end
invariant-loop-end g l = (l.at ≤ l.end) × (l.end ≤ length l.text) × NumberSoFar g.row.BASE l.text l.at l.value l.end

abbrev pub decreases-loop-end : goal.decreases-loop-end
decreases-loop-end g l = length l.text - l.end
