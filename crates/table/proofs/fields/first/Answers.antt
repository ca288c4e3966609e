-- Carried by the test alone.
use mathlib.Core.Path.{sym, ◌∙◌}
use Rattle.table.specs.Fields.{first_of}
use Rattle.table.proofs.fields.first.Goals as goal

pub returns-then-is_li : goal.returns-then-is_li
unfolding first_of
returns-then-is_li c = (rw (sym c.is_li.ensures ∙ c.if-is_li.true) c.rd.ensures.0, c.rd.ensures.1)

pub returns-else-is_li : goal.returns-else-is_li
unfolding first_of
returns-else-is_li c = (rw (sym c.is_li.ensures ∙ c.if-is_li.false) c.rs1.ensures.0, c.rs1.ensures.1)
