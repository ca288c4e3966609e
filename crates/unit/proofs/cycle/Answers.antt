-- Carried by one turn of the loop, where a cycle is left, and by the laws of decisions.
use borrow.Author.Rules.{rules}
use Rattle.table.proofs.Decided.{deciding}
use Rattle.unit_rules.specs.Cycle.{cycles_of}
use Rattle.unit_rules.specs.Calls.{cycled_of}
use Rattle.unit.proofs.CyclesAndRuns.{made, a_cycle_left}
use Rattle.unit.proofs.cycle.Goals as goal

pub one_by_one-requires : goal.one_by_one-requires
one_by_one-requires c = (search made, search (a_cycle_left, rules))

pub returns : goal.returns
unfolding cycled_of cycles_of
returns c = rw c.one_by_one.ensures (search deciding depth 12)
