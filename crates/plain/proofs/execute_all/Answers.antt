-- Carried by the laws of decisions: the two tests, in their order.
use Rattle.table.proofs.Decided.{deciding}
use Rattle.plain_rules.specs.Answer.{execute_all_of}
use Rattle.plain.proofs.Converted.{answered}
use Rattle.plain.proofs.execute_all.Goals as goal

pub returns-then-program-gt64 : goal.returns-then-program-gt64
unfolding execute_all_of
returns-then-program-gt64 c = search deciding

pub returns-then-bad-program : goal.returns-then-bad-program
unfolding execute_all_of
returns-then-bad-program c = rw (← c.first_bad-bad.ensures) (search deciding)

pub returns : goal.returns
unfolding execute_all_of
returns c = rw (answered c.run-after.ensures, ← c.first_bad-bad.ensures) (search deciding)
