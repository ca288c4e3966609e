-- What reading a text answers, for every list of bytes.
-- Assumes nothing.
use Rattle.std.specs.Prelude.{ℕ, zero, suc, ◌+◌, not, Result, Ok, Err, List, [], ◌∷◌, ◌++◌, eqb, length, drop, replicate}
use Rattle.table.specs.Decided.{decided}
use Rattle.table.specs.declared.Count.{Count}
use Rattle.table.specs.Refusal.{LINES, number_of}
use Rattle.job_rules.specs.Read.{filled}
use Rattle.text_rules.specs.declared.Faulty.{Faulty}
use Rattle.text_rules.specs.declared.ReadWords.{ReadWords}
use Rattle.text_rules.specs.Line.{Line, line_of}

-- what reading a text answers: 0 and 0, its n words in front of 64; or the number that it is refused with, the number of the first faulty line, from 1, and no words
pub record ReadText : Type 0 where
  pub refusal : ℕ
  pub line : ℕ
  pub words : List ℕ
  pub n : Count

-- "The answer is the words and how many, by value": zeros beyond, and no faulty line
abbrev pub accepted_text : List ℕ → ReadText
accepted_text words = record { refusal = 0; line = 0; words = filled 64 0 words; n = record { 0 = length words } }

-- "or the number of the first faulty line, from 1", and no words
abbrev pub faulty_text : ℕ → ℕ → ReadText
faulty_text number line = record { refusal = number; line = line; words = replicate 64 0; n = record { 0 = 0 } }

-- behind so many good lines
abbrev pub refused_text : ℕ → ℕ → ReadText
refused_text number good = faulty_text number (good + 1)

-- what the call's answer says of it: for each case its number and its values
abbrev pub said_text : Result ReadWords Faulty → ReadText
said_text (Ok read) = record { refusal = 0; line = 0; words = read.words; n = read.n }
said_text (Err faulty) = faulty_text (number_of faulty.refusal) faulty.line

-- "line by line, in that order": behind lines that say `words`, where so many more may follow, and `l` is left of the text. "13 for a 65th line", whatever it holds
unfoldable pub read_from : ℕ → List ℕ → List ℕ → ReadText
read_from zero words l =
    decided
    ((eqb (length l) 0, accepted_text words) ∷ [])
    (refused_text LINES (length words))
read_from (suc left) words l =
    let line : Line = line_of l in
    decided
    ((eqb (length l) 0, accepted_text words)
    ∷ (not (eqb line.refusal 0), refused_text line.refusal (length words))
    ∷ [])
    (read_from left (words ++ line.word ∷ []) (drop line.size l))

-- "at most 64 instructions"; "An empty text is a program of no lines"
abbrev pub most_lines : ℕ
most_lines = 64

abbrev pub read_text_of : List ℕ → ReadText
read_text_of text = read_from most_lines [] text

-- so many bytes of a text decide its answer: 64 lines of 19 bytes, and one more
abbrev pub bytes_to_read : ℕ
bytes_to_read = 1217
