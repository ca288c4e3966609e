-- Carried by `early` and `settled_then`: when a unit is settled; and by `then_on`.
use native.Mathlib.Omega.{arith}
use borrow.Author.Rules.{rules}
use Rattle.unit_rules.specs.Sequence.{Whole}
use Rattle.unit.proofs.ByLines.{whole_field, early, settled_then, made_then, fits_then, then_on}
use Rattle.unit.proofs.settled.cycles.Goals as goal

pub by_lines-requires : goal.by_lines-requires
by_lines-requires c = (early _ c.requires.0 (omega arith), search rules, search rules)

pub by_lines-requires-2 : goal.by_lines-requires-2
by_lines-requires-2 c =
    let u = c.args.u in
    let whole : Whole u.registers = search (whole_field, c.well_formed.0.1.1.1.1.1.0) in
    let more = c.if-m-lt3.false in (
      settled_then u c.requires.0 _ c.requires.1 more c.one_by_one-settled.ensures whole,
      made_then u c.requires.0 _ c.requires.1 more c.one_by_one-settled.ensures (search rules),
      fits_then u c.requires.0 _ c.requires.1 more c.one_by_one-settled.ensures,
    )

pub returns : goal.returns
returns c = search then_on
