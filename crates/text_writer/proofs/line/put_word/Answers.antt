-- Carried by `word_put`: the name, the digits and the newline, stored one after another.
use Rattle.text_writer.proofs.Lines.{word_put}
use Rattle.text_writer.proofs.line.put_word.Goals as goal

pub returns : goal.returns
returns c =
    word_put c.args.w c.requires.0 c.args.out.now c.requires.1
    c.hex.ensures c.hex-2.ensures c.hex-3.ensures c.hex-4.ensures
    c.hex-5.ensures c.hex-6.ensures c.hex-7.ensures
