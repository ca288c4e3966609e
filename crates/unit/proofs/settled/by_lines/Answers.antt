-- Carried by `by_lines`: a settled unit's registers are those of the plain machine after the lines that complete, and these tell the rest.
use Prim.Native.Nat.{◌≤◌}
use borrow.Author.Rules.{rules}
use lib.ListN.{length}
use Rattle.unit_rules.specs.Sequence.{Whole}
use Rattle.unit_rules.proofs.WellMade.{well_made_says}
use Rattle.unit.proofs.ByLines.{whole_field, in_67_cycles, in_64_lines, within, by_lines}
use Rattle.unit.proofs.settled.by_lines.Goals as goal

pub slice_bounds-execute_lines-end : goal.slice_bounds-execute_lines-end
slice_bounds-execute_lines-end c = search (in_64_lines, rules)

pub reassembled-requires : goal.reassembled-requires
reassembled-requires c = search in_67_cycles

pub returns : goal.returns
returns c =
    let u = c.args.u in
    let fields = c.well_formed.0.1.1 in
    let enough : u.program.n.0 ≤ length u.program.words
    = within u.program.words u.program.n.0 64 (search (fields.0, rules)) (well_made_says u c.requires.1).few in
    let whole : Whole u.registers = search (whole_field, fields.1.1.1.0) in
    by_lines u _ c.requires.0 enough whole c.requires.2 c.saturating_sub-start.ensures c.saturating_sub-end.ensures
    c.execute_lines-registers.ensures c.flight_at-flight.ensures c.reassembled.ensures
