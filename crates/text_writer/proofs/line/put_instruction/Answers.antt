-- Carried by `line_put`: the numbers behind the name, and the newline behind them.
use Rattle.text_rules.specs.Forms.{form_at}
use Rattle.text_rules.specs.Listing.{numbers_in}
use Rattle.text_writer.proofs.Lines.{line_put}
use Rattle.text_writer.proofs.line.put_instruction.Goals as goal

pub returns : goal.returns
returns c =
    line_put c.args.row c.requires.0 (numbers_in c.args.w (form_at c.args.row)) c.args.out.now c.requires.1 c.put_name-name.ensures c.put_numbers-size.ensures
