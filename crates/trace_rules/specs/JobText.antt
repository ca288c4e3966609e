-- What the program `trace` prints for a job, and what the writer of it answers.
-- Assumes nothing.
use Rattle.std.specs.Prelude.{ℕ, zero, suc, ◌%◌, cond, List, [], ◌∷◌, ◌++◌, eqb, ltb, length, replicate}
use Rattle.buffer.specs.Front.{at_front}
use Rattle.table.specs.Decided.{decided}
use Rattle.std.specs.declared.result.Result.{Result}
use Rattle.table.specs.declared.refusal.Refusal.{Refusal}
use Rattle.table.specs.Refusal.{ROOM, number_in, value_in}
use Rattle.row_rules.specs.Text.{digit, two_digits, behind_space, newline, row_text}
use Rattle.unit_rules.specs.declared.Unit.{Unit}
use Rattle.unit_rules.specs.Answers.{Loaded}
use Rattle.unit_rules.specs.Cycle.{cycles_of}
use Rattle.unit_rules.specs.Calls.{fresh_of, load_of, go_of, ran_of}
use Rattle.trace_rules.specs.RowOfCycle.{shown_of}
use Rattle.trace_rules.specs.declared.WholeText.{WholeText}

-- "one row a cycle": the rows of so many cycles
unfoldable pub rows_of : ℕ → Unit → List ℕ
rows_of zero u = []
rows_of (suc c) u = rows_of c u ++ row_text (shown_of (cycles_of c u))

-- "a line of `END` and the cycle count in two digits"
unfoldable pub end_text : ℕ → List ℕ
end_text c = (69 ∷ 78 ∷ 68 ∷ []) ++ behind_space (two_digits c) ++ newline

-- "without leading zeros": one digit, or two
abbrev pub short_digits : ℕ → List ℕ
short_digits k = cond (ltb k 10) (digit (k % 10) ∷ []) (two_digits k)

-- "or only a line of `REFUSED` and the number"
unfoldable pub refused_text : ℕ → List ℕ
refused_text k = (82 ∷ 69 ∷ 70 ∷ 85 ∷ 83 ∷ 69 ∷ 68 ∷ []) ++ behind_space (short_digits k) ++ newline

-- "67 at most"
abbrev pub most_cycles : ℕ
most_cycles = 67

-- the cycles until a unit is drained
abbrev pub cycles_left : Unit → ℕ
cycles_left u = (ran_of u most_cycles).made

-- "prints one row a cycle and then a line of `END`"
unfoldable pub trace_text : Unit → List ℕ
trace_text u = rows_of (cycles_left u) u ++ end_text (cycles_left u)

-- of a load as it came out: the trace of the unit once it goes, or the refusal
abbrev pub text_for : Loaded → List ℕ
text_for s = cond (eqb s.refusal 0) (trace_text (go_of s.unit).unit) (refused_text s.refusal)

-- "reads a job from standard input, starts a fresh unit, prints ...": it loads on a fresh unit and goes
unfoldable pub job_text : List ℕ → List ℕ
job_text file = text_for (load_of file fresh_of)

-- how a text was put into a lent buffer: 0 and its size, or 9
pub record TextAnswer : Type 0 where
  pub refusal : ℕ
  pub size : ℕ

-- for each case of an answer its number and its size
abbrev pub said_put : Result ℕ Refusal → TextAnswer
said_put answer = record { refusal = number_in answer; size = value_in 0 answer }

-- a text at the front of a lent buffer: 9 where it has too few bytes
unfoldable pub put_of : List ℕ → List ℕ → TextAnswer × List ℕ
put_of text buffer =
    decided
    ((ltb (length buffer) (length text), (record { refusal = ROOM; size = 0 }, buffer)) ∷ [])
    (record { refusal = 0; size = length text }, at_front text buffer)

-- the answer, and the buffer afterwards
abbrev pub write_text_of : List ℕ → List ℕ → TextAnswer × List ℕ
write_text_of file buffer = put_of (job_text file) buffer

-- the bytes of the largest text: 67 rows and a line of END
abbrev pub largest_text : ℕ
largest_text = 5233

-- a text by value: at the front of so many zeros, with its size
abbrev pub whole_text_of : List ℕ → WholeText
whole_text_of file = record { bytes = at_front (job_text file) (replicate largest_text 0); size = length (job_text file) }
