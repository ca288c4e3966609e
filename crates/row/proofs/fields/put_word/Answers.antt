-- Carried by the callees: hyphens or digits, as the stage is.
use Rattle.row_rules.specs.Text.{stage_text}
use Rattle.row.proofs.fields.put_word.Goals as goal

pub returns-in-None : goal.returns-in-None
unfolding stage_text
returns-in-None c = rw c.in-None.is c.put_hyphens.ensures

pub returns-in-Some : goal.returns-in-Some
unfolding stage_text
returns-in-Some c = rw c.in-Some.is c.put_hex.ensures
