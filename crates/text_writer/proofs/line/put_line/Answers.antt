-- Carried by the laws of `Lines`: whether an instruction's line gives the word decides which line is put.
use mathlib.Core.Path.{ap}
use native.Mathlib.Omega.{arith}
use lib.ListN.{length}
use Rattle.text_writer.proofs.Lines.{word_line_long, unnamed_line, named_line}
use Rattle.text_writer.proofs.line.put_line.Goals as goal

pub put_word-requires : goal.put_word-requires
put_word-requires c =
    let line = unnamed_line c.args.w c.requires.0 c.is_unnamed.ensures c.if-is_unnamed.true in
    (c.requires.0, omega (arith, ap length line, word_line_long c.args.w c.requires.0))

pub returns-then-is_unnamed : goal.returns-then-is_unnamed
returns-then-is_unnamed c =
    let line = unnamed_line c.args.w c.requires.0 c.is_unnamed.ensures c.if-is_unnamed.true in
    rw line c.put_word.ensures

pub put_instruction-requires : goal.put_instruction-requires
put_instruction-requires c =
    let line = named_line c.args.w c.requires.0 c.is_unnamed.ensures c.if-is_unnamed.false c.row_by_bits.ensures.0 in
    (c.row_by_bits.ensures.1, rw line at c.requires.1)

pub returns : goal.returns
returns c =
    let line = named_line c.args.w c.requires.0 c.is_unnamed.ensures c.if-is_unnamed.false c.row_by_bits.ensures.0 in
    rw line c.put_instruction.ensures
