-- Carried by computation: the constant is the table of the definitions.
use mathlib.Core.Path.{refl}
use Rattle.text_table.specs.Table.{form_table}
use Rattle.text_table.proofs.forms.Forms.table.Goals as goal

pub invariant_of-result : goal.invariant_of-result
unfolding form_table
invariant_of-result c = record { as_stated = refl }
