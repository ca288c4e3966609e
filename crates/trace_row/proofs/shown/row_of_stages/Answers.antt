-- Carried by the contracts of its parts, and by `whatever_values` for the word in EX.
use Rattle.register.specs.Layout.{zero_register}
use Rattle.trace_rules.specs.RowOfCycle.{shown_by}
use Rattle.trace_row.proofs.RowShown.{whatever_values}
use Rattle.trace_row.proofs.shown.row_of_stages.Goals as goal

pub returns : goal.returns
unfolding shown_by
returns c =
    rw (
      c.change.ensures,
      c.flags.ensures,
      c.stage-4.ensures,
      c.in_executed.ensures,
      c.stage-3.ensures,
      c.stage-2.ensures,
      c.stage.ensures,
      whatever_values c.args.decoding (record { first = zero_register; second = zero_register; third = zero_register }),
    )
