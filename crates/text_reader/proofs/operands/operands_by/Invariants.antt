-- Carried by the laws of `Behind`. The invariant: the operands from the slot on, at the place and with the word so far, answer as all operands do.
use Rattle.text_reader.proofs.Behind.{OperandsSoFar}
use Rattle.text_reader.proofs.operands.operands_by.Given as goal

abbrev pub invariant-loop-slot : goal.invariant-loop-slot
invariant-loop-slot g l = OperandsSoFar l.text l.start l.row l.at l.word l.slot-index
