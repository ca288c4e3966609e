-- What the line in front of a text says.
-- Assumes nothing.
use Rattle.std.specs.Prelude.{ℕ, ◌+◌, ◌*◌, ◌^◌, Bool, true, false, cond, not, ◌&&◌, ◌||◌, List, [], ◌∷◌, eqb, leb, length, drop}
use Rattle.table.specs.Decided.{decided}
use Rattle.table.specs.Refusal.{NAME, OPERANDS}
use Rattle.text_rules.specs.Forms.{Operand, Form, every_form, form_at, row_named}
use Rattle.text_rules.specs.Front.{front_while}
use Rattle.text_rules.specs.Number.{Notation, base_of, digits_in, number_of, says_below}

-- ASCII codes
abbrev pub SPACE : ℕ
SPACE = 32

abbrev pub NEWLINE : ℕ
NEWLINE = 10

-- whether the first byte is this one
abbrev pub begins_with : ℕ → List ℕ → Bool
begins_with b [] = false
begins_with b (x ∷ l) = eqb x b

-- ---- the name

-- a byte that ends no name
abbrev pub in_name : ℕ → Bool
in_name b = not (eqb b SPACE || eqb b NEWLINE)

-- "the text up to the first space, newline or end"
abbrev pub name_in : List ℕ → List ℕ
name_in l = front_while in_name l

-- ---- what stands behind it

-- whether it is as stated; then the line's word, and the size of the whole line, its newline included
pub record Operands : Type 0 where
  pub stated : Bool
  pub word : ℕ
  pub size : ℕ

-- zeros where anything is not as stated
abbrev pub not_stated : Operands
not_stated = record { stated = false; word = 0; size = 0 }

-- "single spaces, decimal numbers without leading zeros", "ended by a newline": for each operand one space and its number, which is put at its place in the word; then
-- a newline. `word` is the line's word so far, `size` what of the line is passed, and `l` what follows
unfoldable pub operands_in : Notation → List Operand → ℕ → ℕ → List ℕ → Operands
operands_in notation [] word size l = cond (begins_with NEWLINE l) (record { stated = true; word = word; size = size + 1 }) not_stated
operands_in notation (o ∷ os) word size l =
    let base : ℕ = base_of notation in
    let digits : List ℕ = digits_in base (drop 1 l) in
    cond (begins_with SPACE l && says_below notation o.limit digits)
    (operands_in notation os (word + number_of base digits * 2 ^ o.place) (size + 1 + length digits) (drop (1 + length digits) l))
    not_stated

-- behind the name of a form
abbrev pub behind_name : Form → List ℕ → List ℕ → Operands
behind_name f name l = operands_in f.notation f.operands f.word (length name) (drop (length name) l)

-- ---- the line

-- what a line says: 0, its word and its size; or the number that it is refused with, and zeros
pub record Line : Type 0 where
  pub refusal : ℕ
  pub word : ℕ
  pub size : ℕ

abbrev pub accepted_line : ℕ → ℕ → Line
accepted_line word size = record { refusal = 0; word = word; size = size }

abbrev pub refused_line : ℕ → Line
refused_line number = record { refusal = number; word = 0; size = 0 }

-- "11 where the text up to the first space, newline or end is no name, 12 where anything after the name is not as stated, a missing last newline among it"; "12 for a
-- `.word` line with other digits or a word of 2^25 or more"
unfoldable pub line_of : List ℕ → Line
line_of l =
    let name : List ℕ = name_in l in
    let row : ℕ = row_named name in
    let said : Operands = behind_name (form_at row) name l in
    decided
    ((leb (length every_form) row, refused_line NAME)
    ∷ (not said.stated, refused_line OPERANDS)
    ∷ [])
    (accepted_line said.word said.size)
