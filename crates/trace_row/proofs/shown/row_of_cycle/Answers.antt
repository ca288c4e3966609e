-- Carried by `no_value_shown` of crate `trace_rules`: a row shows nothing of the values that ID has read.
use mathlib.Core.Path.{◌∙◌}
use Rattle.trace_rules.proofs.Theorems.{no_value_shown}
use Rattle.trace_row.proofs.shown.row_of_cycle.Goals as goal

pub returns : goal.returns
returns c = c.row_of_stages.ensures ∙ rw c.in_decoded.ensures (no_value_shown _ _ _ _ _ _)
