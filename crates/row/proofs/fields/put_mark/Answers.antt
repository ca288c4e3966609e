-- Carried by the callees: hyphens or digits, as the change is.
use Rattle.row_rules.specs.Text.{mark_text}
use Rattle.row.proofs.fields.put_mark.Goals as goal

pub returns-in-None : goal.returns-in-None
unfolding mark_text
returns-in-None c = rw c.in-None.is c.put_hyphens.ensures

pub returns-in-Some : goal.returns-in-Some
unfolding mark_text
returns-in-Some c = rw c.in-Some.is c.put_hex.ensures
