-- Carried by the table: the base of a row is 16 or 10.
use Rattle.text_reader.proofs.Behind.{base_16, base_10}
use Rattle.text_reader.proofs.operands.operands_in.Goals as goal

pub operands_by-requires : goal.operands_by-requires
operands_by-requires c = (c.requires.0, c.requires.1, base_16 c.requires.0 c.args.forms.now.as_stated _ c.if-forms-row-eq16.true)

pub operands_by-requires-2 : goal.operands_by-requires-2
operands_by-requires-2 c = (c.requires.0, c.requires.1, base_10 c.requires.0 c.args.forms.now.as_stated _ c.if-forms-row-eq16.false)
