-- Listing a program: its words as lines, and what a writer of them answers, for every program and every buffer.
-- Assumes nothing.
use Rattle.std.specs.Prelude.{ℕ, ◌+◌, ◌*◌, ◌/◌, ◌%◌, ◌^◌, Bool, cond, not, ltb, eqb, length}
use mathlib.Core.List.{List, [], ◌∷◌, ◌++◌, map, flat_map}
use Rattle.buffer.specs.Front.{at_front}
use Rattle.table.specs.Decided.{decided}
use Rattle.table.specs.Refusal.{COUNT, WORD, ROOM, first_bad}
use Rattle.job_rules.specs.Read.{ReadJob, read_of}
use Rattle.job_rules.specs.Program.{lines_of}
use Rattle.job_rules.specs.Write.{Written, written_of}
use Rattle.text_rules.specs.Number.{Notation, digits_for}
use Rattle.text_rules.specs.Forms.{Operand, Form, every_form, first_row, form_at}
use Rattle.text_rules.specs.Line.{SPACE, NEWLINE}

-- ---- a line as it is written

-- "single spaces", "ended by a newline": a name, the numbers of its operands, each behind one space, and a newline
abbrev pub numbers_text : Notation → List ℕ → List ℕ
numbers_text notation numbers = flat_map (λ (v : ℕ). SPACE ∷ digits_for notation v) numbers

abbrev pub line_text : Form → List ℕ → List ℕ
line_text f numbers = f.name ++ numbers_text f.notation numbers ++ NEWLINE ∷ []

-- ---- the line of a word

-- the number that a word has for an operand
abbrev pub number_in : ℕ → Operand → ℕ
number_in w o = w / 2 ^ o.place % o.limit

abbrev pub numbers_in : ℕ → Form → List ℕ
numbers_in w f = map (number_in w) f.operands

-- a word with numbers put at their operands' places
abbrev pub put : ℕ → List Operand → List ℕ → ℕ
put word [] numbers = word
put word (o ∷ os) [] = word
put word (o ∷ os) (v ∷ numbers) = put (word + v * 2 ^ o.place) os numbers

abbrev pub word_with : Form → List ℕ → ℕ
word_with f numbers = put f.word f.operands numbers

-- whether a line of this form gives the word
abbrev pub gives : ℕ → Form → Bool
gives w f = eqb (word_with f (numbers_in w f)) w

-- "A word that no line of L1 gives, such as a NOP with operands or a code with bits 22..19 set, is written as `.word`": the first form that gives it, and `.word` is
-- the last one
abbrev pub row_giving : ℕ → ℕ
row_giving w = first_row (gives w) every_form

unfoldable pub line_of_word : ℕ → List ℕ
line_of_word w = let f : Form = form_at (row_giving w) in line_text f (numbers_in w f)

-- ---- the listing of a program

-- "the lines of L1 for any program", one behind another
unfoldable pub listing_of : List ℕ → List ℕ
listing_of words = flat_map line_of_word words

-- no listing is longer: 64 lines of 19 bytes
abbrev pub longest_listing : ℕ
longest_listing = 1216

-- "Refusals: 2, 6, then 9", in that order: the answer where the buffer has so many bytes
unfoldable pub listed_or_refusal : List ℕ → ℕ → Written
listed_or_refusal words room =
    let size : ℕ = length (listing_of words) in
    decided
    ((ltb 64 (length words), written_of COUNT 0 0)
    ∷ (ltb (first_bad words) (length words), written_of WORD (first_bad words) 0)
    ∷ (ltb room size, written_of ROOM 0 0)
    ∷ [])
    (written_of 0 0 size)

-- that answer, and the buffer afterwards: the lines "at a lent buffer's front, the rest kept"; refused, "with the buffer unaltered"
unfoldable pub list_of : List ℕ → List ℕ → Written × List ℕ
list_of words out =
    let answer : Written = listed_or_refusal words (length out) in
    (answer, cond (eqb answer.refusal 0) (at_front (listing_of words) out) out)

-- the same of a job file's program: a file that is refused is answered with its number and 6's place, "with the buffer unaltered"
unfoldable pub list_job_of : List ℕ → List ℕ → Written × List ℕ
list_job_of file out =
    let read : ReadJob = read_of file in
    decided
    ((not (eqb read.refusal 0), (written_of read.refusal read.place 0, out)) ∷ [])
    (list_of (lines_of read.job.program) out)
