-- The row of a name by its key, the number that the table has for it.
-- Assumes nothing.
use Rattle.std.specs.Prelude.{ℕ, cond, Option, Some, None, eqb, ltb, length}
use Rattle.text_rules.specs.Forms.{Form, every_form, first_row}
use Rattle.text_table.specs.Table.{key_of}

-- the row whose name has this key, or the number of rows where none has
abbrev pub row_keyed : ℕ → ℕ
row_keyed key = first_row (λ (f : Form). eqb (key_of f.name) key) every_form

-- that row, where there is one
abbrev pub row_found : ℕ → Option ℕ
row_found key = cond (ltb (row_keyed key) (length every_form)) (Some (row_keyed key)) None
