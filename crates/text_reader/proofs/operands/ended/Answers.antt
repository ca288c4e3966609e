-- Carried by the test of the newline as it came out.
use mathlib.Core.Path.{sym, ◌∙◌}
use Rattle.text_rules.specs.Line.{operands_in}
use Rattle.text_reader.proofs.operands.ended.Goals as goal

pub returns-then-not-begins_with : goal.returns-then-not-begins_with
unfolding operands_in
returns-then-not-begins_with c notation = simp (sym c.begins_with.ensures ∙ c.if-not-begins_with.true)

pub returns : goal.returns
unfolding operands_in
returns c notation = simp (sym c.begins_with.ensures ∙ c.if-not-begins_with.false)
