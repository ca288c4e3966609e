-- What the answers say of a line: for each case its number and its values.
-- Assumes nothing.
use Rattle.std.specs.Prelude.{true, Option, Some, None, Result, Ok, Err}
use Rattle.table.specs.declared.refusal.Refusal.{Refusal}
use Rattle.table.specs.Refusal.{number_of}
use Rattle.text_rules.specs.Line.{Operands, not_stated, accepted_line, refused_line}
use Rattle.text_rules.specs.Line as paper
use Rattle.text_reader.specs.declared.operands.Line.{Line}

abbrev pub said_operands : Option Line → Operands
said_operands (Some line) = record { stated = true; word = line.word; size = line.size }
said_operands None = not_stated

abbrev pub said_line : Result Line Refusal → paper.Line
said_line (Ok line) = accepted_line line.word line.size
said_line (Err why) = refused_line (number_of why)
