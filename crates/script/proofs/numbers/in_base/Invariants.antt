-- The value so far, and the digits that are left, say what all digits say.
use Rattle.script.proofs.Numerals.{SaidSoFar}
use Rattle.script.proofs.numbers.in_base.Given as goal

abbrev pub invariant-loop-b : goal.invariant-loop-b
invariant-loop-b l = SaidSoFar l.base l.digits l.value l.b-index
