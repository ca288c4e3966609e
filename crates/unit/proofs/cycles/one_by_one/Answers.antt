-- Carried by `turn` and `more`.
use Rattle.unit_rules.proofs.Shared.{arith}
use Rattle.unit_rules.proofs.WellMade.{well_made_says, last_small}
use Rattle.unit.proofs.Loop.{none_yet, turn, more, all_made}
use Rattle.unit.proofs.cycles.one_by_one.Goals as goal

pub loop-init : goal.loop-init
loop-init c = none_yet _ c.in_flight-flight.ensures

pub loop-preserved : goal.loop-preserved
loop-preserved c = more _ _ c.loop.invariant (turn _ (well_made_says _ c.requires.0).few c.turn-flight.ensures)

pub reassembled-requires : goal.reassembled-requires
reassembled-requires c = omega (arith, c.requires.1, last_small _ c.requires.0)

pub returns : goal.returns
returns c = all_made _ c.loop.invariant c.loop.auto.counter-end c.loop-test.false c.reassembled.ensures
