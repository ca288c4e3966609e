-- The table of forms as the code has it: a row for each form.
-- Assumes nothing.
use Rattle.std.specs.Prelude.{ℕ, zero, suc, ◌^◌, Option, Some, None}
use mathlib.Core.List.{List, [], ◌∷◌, map}
use Rattle.text_rules.specs.Forms.{Operand, Form, every_form}
use Rattle.text_rules.specs.Number.{positional, base_of}
use Rattle.text_table.specs.declared.rows.Field.{Field}
use Rattle.text_table.specs.declared.rows.Row.{Row}

-- a name as a number: its bytes behind a 1, so that no two names have the same
abbrev pub key_of : List ℕ → ℕ
key_of name = positional 256 1 name

-- of each operand its limit and the weight of its lowest bit; none where there is no operand
abbrev pub fields_of : ℕ → List Operand → List (Option Field)
fields_of zero os = []
fields_of (suc most) [] = None ∷ fields_of most []
fields_of (suc most) (o ∷ os) = Some (record { limit = o.limit; weight = 2 ^ o.place }) ∷ fields_of most os

abbrev pub row_of : Form → Row
row_of f = record { key = key_of f.name; base = base_of f.notation; word = f.word; operands = fields_of 4 f.operands }

unfoldable pub form_table : List Row
form_table = map row_of every_form
