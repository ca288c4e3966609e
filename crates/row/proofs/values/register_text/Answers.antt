-- Carried by computation: the digits fill the array.
use borrow.Author.Rules.{rules}
use Rattle.row_rules.specs.Text.{register_text}
use Rattle.row.proofs.values.register_text.Goals as goal

pub returns : goal.returns
unfolding register_text
returns c = search rules
