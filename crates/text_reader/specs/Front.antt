-- What is read at the front of a text.
-- Assumes nothing.
use Rattle.std.specs.Prelude.{ℕ, ◌+◌, ◌≡◌, cond, Option, Some, None, List, eqb, length, take, drop}
use Rattle.text_rules.specs.Line.{name_in}
use Rattle.text_rules.specs.Number.{Notation, base_of, digits_in, number_of, says_below}
use Rattle.text_rules.specs.Number.Notation.{decimal, seven_hex}
use Rattle.text_table.specs.Table.{key_of}
use Rattle.text_reader.specs.declared.name.Name.{Name}
use Rattle.text_reader.specs.declared.number.Number.{Number}

-- ---- a name

-- one byte more than any name of the table has
abbrev pub longest_name : ℕ
longest_name = 7

-- the name, or so many bytes of it: its key and its size
pub record NameRead (r : Name) (l : List ℕ) : Type 0 where
  pub key : r.key ≡ key_of (take longest_name (name_in l))
  pub size : r.size ≡ length (take longest_name (name_in l))

-- ---- a number

-- the notation of a base, since the code has the base alone: it is 10 or 16 where it is that of its notation
abbrev pub notation_of : ℕ → Notation
notation_of base = cond (eqb base 16) seven_hex decimal

-- the number that all digits make, and how many they are
pub record DigitsRead (base : ℕ) (l : List ℕ) (number count : ℕ) : Type 0 where
  pub value : number ≡ number_of base (digits_in base l)
  pub size : count ≡ length (digits_in base l)

-- that number and where the digits end, where those at a place say a number below the limit
unfoldable pub number_at : Notation → ℕ → ℕ → List ℕ → Option Number
number_at notation limit at text =
    let digits : List ℕ = digits_in (base_of notation) (drop at text) in
    cond (says_below notation limit digits) (Some (record { value = number_of (base_of notation) digits; end = at + length digits })) None
