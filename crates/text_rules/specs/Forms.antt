-- The forms of a line: its name, its word and its operands, in document 02's words. First the 25 of the instructions, in the order of document 01's table; then `.word`.
-- Assumes nothing.
use Rattle.std.specs.Prelude.{ℕ, suc, ◌^◌, Bool, true, false, cond, ◌&&◌, List, [], ◌∷◌, ◌++◌, eqb, get_or}
use Rattle.text_rules.specs.Letters.{a, b, c, d, f, h, i, l, m, n, o, p, r, s, t, u, w, x, z, dot}
use Rattle.text_rules.specs.Number.{Notation}
use Rattle.text_rules.specs.Number.Notation.{decimal, seven_hex}

-- an operand: it is a number below its limit, and its lowest bit stands at that place of the word
pub record Operand : Type 0 where
  pub limit : ℕ
  pub place : ℕ

abbrev operand : ℕ → ℕ → Operand
operand limit place = record { limit = limit; place = place }

-- "Register numbers go to 31": rd (4..0), rs1 (9..5), rs2 (14..10), rs3 (19..15)
abbrev pub rd : Operand
rd = operand 32 0

abbrev pub rs1 : Operand
rs1 = operand 32 5

abbrev pub rs2 : Operand
rs2 = operand 32 10

abbrev pub rs3 : Operand
rs3 = operand 32 15

-- "an index to 7, an immediate to 65535": bits 23..21 and 20..5
abbrev pub index : Operand
index = operand 8 21

abbrev pub immediate : Operand
immediate = operand 65536 5

-- "shrhi takes rd rs1 and 0 to 15; mlhcu rd rs1 and 0 to 31": in the rs2 field
abbrev pub places : Operand
places = operand 16 10

abbrev pub factor : Operand
factor = operand 32 10

-- a line of the table: a name, the word with every operand zero, the operands in the order in which they are written, and how their numbers are written
pub record Form : Type 0 where
  pub name : List ℕ
  pub word : ℕ
  pub operands : List Operand
  pub notation : Notation

-- ---- the instructions

-- "decimal numbers"
abbrev form : List ℕ → ℕ → List Operand → Form
form name word operands = record { name = name; word = word; operands = operands; notation = decimal }

-- "`li rd index imm`; the multiply family as document 001 names it ... with rd rs1 rs2 rs3; the others by 004's names with rd rs1 rs2. cntih, bcw and clzw take
-- rd rs1; shrhi takes rd rs1 and 0 to 15; mlhcu rd rs1 and 0 to 31; nop nothing. Fields not named are zero"
abbrev pub forms : List Form
forms =
    form (l ∷ i ∷ []) 0x0000000 (rd ∷ index ∷ immediate ∷ [])
    ∷ form (s ∷ i ∷ m ∷ a ∷ l ∷ s ∷ []) 0x1000000 (rd ∷ rs1 ∷ rs2 ∷ rs3 ∷ [])
    ∷ form (s ∷ i ∷ m ∷ a ∷ h ∷ s ∷ []) 0x1100000 (rd ∷ rs1 ∷ rs2 ∷ rs3 ∷ [])
    ∷ form (s ∷ i ∷ m ∷ s ∷ l ∷ s ∷ []) 0x1200000 (rd ∷ rs1 ∷ rs2 ∷ rs3 ∷ [])
    ∷ form (s ∷ i ∷ m ∷ s ∷ h ∷ s ∷ []) 0x1300000 (rd ∷ rs1 ∷ rs2 ∷ rs3 ∷ [])
    ∷ form (s ∷ l ∷ m ∷ a ∷ l ∷ s ∷ []) 0x1400000 (rd ∷ rs1 ∷ rs2 ∷ rs3 ∷ [])
    ∷ form (s ∷ l ∷ m ∷ a ∷ h ∷ s ∷ []) 0x1500000 (rd ∷ rs1 ∷ rs2 ∷ rs3 ∷ [])
    ∷ form (s ∷ l ∷ m ∷ s ∷ l ∷ s ∷ []) 0x1600000 (rd ∷ rs1 ∷ rs2 ∷ rs3 ∷ [])
    ∷ form (s ∷ l ∷ m ∷ s ∷ h ∷ s ∷ []) 0x1700000 (rd ∷ rs1 ∷ rs2 ∷ rs3 ∷ [])
    ∷ form (n ∷ o ∷ p ∷ []) 0x1800000 []
    ∷ form (s ∷ h ∷ r ∷ h ∷ i ∷ []) 0x1808000 (rd ∷ rs1 ∷ places ∷ [])
    ∷ form (a ∷ u ∷ []) 0x1810000 (rd ∷ rs1 ∷ rs2 ∷ [])
    ∷ form (c ∷ n ∷ t ∷ i ∷ h ∷ []) 0x1818000 (rd ∷ rs1 ∷ [])
    ∷ form (a ∷ h ∷ s ∷ []) 0x1820000 (rd ∷ rs1 ∷ rs2 ∷ [])
    ∷ form (o ∷ r ∷ []) 0x1828000 (rd ∷ rs1 ∷ rs2 ∷ [])
    ∷ form (b ∷ c ∷ w ∷ []) 0x1830000 (rd ∷ rs1 ∷ [])
    ∷ form (m ∷ a ∷ x ∷ w ∷ s ∷ []) 0x1838000 (rd ∷ rs1 ∷ rs2 ∷ [])
    ∷ form (m ∷ i ∷ n ∷ w ∷ s ∷ []) 0x1840000 (rd ∷ rs1 ∷ rs2 ∷ [])
    ∷ form (m ∷ l ∷ h ∷ u ∷ []) 0x1848000 (rd ∷ rs1 ∷ rs2 ∷ [])
    ∷ form (m ∷ l ∷ h ∷ c ∷ u ∷ []) 0x1850000 (rd ∷ rs1 ∷ factor ∷ [])
    ∷ form (a ∷ n ∷ d ∷ []) 0x1858000 (rd ∷ rs1 ∷ rs2 ∷ [])
    ∷ form (c ∷ l ∷ z ∷ w ∷ []) 0x1860000 (rd ∷ rs1 ∷ [])
    ∷ form (r ∷ o ∷ t ∷ w ∷ []) 0x1868000 (rd ∷ rs1 ∷ rs2 ∷ [])
    ∷ form (s ∷ f ∷ w ∷ u ∷ []) 0x1870000 (rd ∷ rs1 ∷ rs2 ∷ [])
    ∷ form (s ∷ f ∷ h ∷ s ∷ []) 0x1878000 (rd ∷ rs1 ∷ rs2 ∷ [])
    ∷ []

-- ---- any word

-- "`.word`, a space and seven upper-case hex digits"; "for every word below 2^25": its one operand is the whole word
abbrev pub word_form : Form
word_form = record { name = dot ∷ w ∷ o ∷ r ∷ d ∷ []; word = 0; operands = operand (2 ^ 25) 0 ∷ []; notation = seven_hex }

-- behind the others
abbrev pub every_form : List Form
every_form = forms ++ word_form ∷ []

-- ---- a form by its row

-- the first row that passes a test, from 0, or the number of rows where none does
unfoldable pub first_row : (Form → Bool) → List Form → ℕ
first_row test [] = 0
first_row test (f ∷ fs) = cond (test f) 0 (suc (first_row test fs))

-- that row; beyond the last one a form of nothing, which no answer shows
abbrev pub form_at : ℕ → Form
form_at row = get_or every_form row (form [] 0 [])

-- whether two texts have the same bytes
abbrev pub same_bytes : List ℕ → List ℕ → Bool
same_bytes [] [] = true
same_bytes [] (y ∷ ys) = false
same_bytes (x ∷ xs) [] = false
same_bytes (x ∷ xs) (y ∷ ys) = eqb x y && same_bytes xs ys

-- the row that has this name
abbrev pub row_named : List ℕ → ℕ
row_named name = first_row (λ (f : Form). same_bytes name f.name) every_form
