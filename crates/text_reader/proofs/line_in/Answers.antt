-- Carried by the laws of `Lines`: the row and the operands as they came out.
use Rattle.std.proofs.Common.{◌∙◌, sym, ap}
use Rattle.std.proofs.lemmas.Result.{err_from_is_err_and}
use Rattle.table.specs.Refusal.{number_of}
use Rattle.text_rules.specs.Line.{refused_line}
use Rattle.text_reader.specs.Said.{said_line}
use Rattle.text_reader.proofs.Lines.{err_from_none, no_name, operands_ask, line_read}
use Rattle.text_reader.proofs.line_in.Goals as goal

pub returns-in_err-row : goal.returns-in_err-row
returns-in_err-row c =
    let told = err_from_is_err_and c.from_residual.result c.from_residual.ensures.1 in
    let none = err_from_none c.row_of.result (sym c.in_err-row.ensures.value) in
    ap said_line told.1 ∙ ap refused_line (ap number_of (told.2 ∙ none.1)) ∙ no_name _ c.type_inv.text _ c.name_in-name.ensures (sym none.0 ∙ c.row_of.ensures)

pub operands_in-requires : goal.operands_in-requires
operands_in-requires c = operands_ask _ c.type_inv.text _ c.name_in-name.ensures (sym c.in_ok-row.ensures.ok_part ∙ c.row_of.ensures)

pub returns : goal.returns
returns c =
    ap said_line c.ok_or-2.ensures.value
    ∙ line_read _ c.type_inv.text _ c.name_in-name.ensures (sym c.in_ok-row.ensures.ok_part ∙ c.row_of.ensures) _ c.operands_in.ensures
