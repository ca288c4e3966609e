-- The lines of a text, and the words of a line, with single spaces between them.
-- Assumes nothing.
use Rattle.std.specs.Prelude.{ℕ, ◌+◌, Bool, cond, not, Option, Some, None, List, ltb, eqb, length, take, drop}
use Rattle.text_rules.specs.Front.{front_while}
use Rattle.text_rules.specs.Line.{SPACE, NEWLINE}

-- any byte but this one
abbrev pub is_other : ℕ → ℕ → Bool
is_other byte b = not (eqb b byte)

-- where the next such byte stands from a place on, or the text's end where none follows; of a place beyond the text, the text's end
unfoldable pub next_place : ℕ → ℕ → List ℕ → ℕ
next_place byte at text = cond (ltb (length text) at) (length text) (at + length (front_while (is_other byte) (drop at text)))

-- a line goes up to the next newline, a word up to the next space
abbrev pub line_end : ℕ → List ℕ → ℕ
line_end at text = next_place NEWLINE at text

abbrev pub word_end : ℕ → List ℕ → ℕ
word_end at line = next_place SPACE at line

-- a text in two at a place: what stands in front of it, and what stands behind the byte there, if there is one
abbrev pub apart_at : ℕ → List ℕ → List ℕ × Option (List ℕ)
apart_at end text = (take end text, cond (ltb end (length text)) (Some (drop (end + 1) text)) None)

-- the first line of a text and what follows its newline, and the first word of a line and what follows its space
abbrev pub first_line : List ℕ → List ℕ × Option (List ℕ)
first_line text = apart_at (line_end 0 text) text

abbrev pub first_word : List ℕ → List ℕ × Option (List ℕ)
first_word line = apart_at (word_end 0 line) line
