-- Carried by the laws of `CyclesAndRuns`: none of a drained unit, else as many cycles as the budget and the cycles left allow.
use Rattle.unit.proofs.CyclesAndRuns.{made, no_cycle_left, not_past, as_many_left, went_on}
use Rattle.unit.proofs.run.Goals as goal

pub returns-then-is_drained : goal.returns-then-is_drained
returns-then-is_drained c = search no_cycle_left

pub overflow_sub-last : goal.overflow_sub-last
overflow_sub-last c = search not_past

pub cycles-requires : goal.cycles-requires
cycles-requires c = (search made, search as_many_left)

pub returns : goal.returns
returns c = search went_on
