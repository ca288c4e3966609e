-- Carried by the callees: hyphens or the register, as the change is.
use Rattle.row_rules.specs.Text.{value_text}
use Rattle.row.proofs.fields.put_value.Goals as goal

pub returns-in-None : goal.returns-in-None
unfolding value_text
returns-in-None c = rw c.in-None.is c.put_hyphens.ensures

pub returns-in-Some : goal.returns-in-Some
unfolding value_text
returns-in-Some c = rw c.in-Some.is c.put_register.ensures
