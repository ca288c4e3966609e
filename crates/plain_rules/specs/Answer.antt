-- What plain execution answers: a refusal, a place and the file, and the marks.
-- Assumes nothing.
use Rattle.std.specs.Prelude.{ℕ, ◌^◌, Result, List, [], ◌∷◌, leb, ltb, length, replicate}
use Rattle.table.specs.declared.Edition.{Edition}
use Rattle.table.specs.declared.refusal.Refusal.{Refusal}
use Rattle.table.specs.Refusal.{COUNT, WORD, number_in, place_in, value_in, first_bad}
use Rattle.table.specs.Decided.{decided}
use Rattle.plain_rules.specs.declared.Executed.{Executed}
use Rattle.plain_rules.specs.Machine.{outcome_rows, step_rows, cleared_rows, executed_rows}

-- what plain execution answers of any program: 0, or the number it is refused with, with 6 the place of the first bad word; and the file
pub record Answer : Type 0 where
  pub refusal : ℕ
  pub place : ℕ
  pub file : List (List ℕ)

-- what a lone word answers: that, and its mark
pub record ExecutedWord : Type 0 where
  pub executed : Answer
  pub mark : ℕ

-- what a program answers: that, and the marks of its lines, zero beyond them
pub record ExecutedProgram : Type 0 where
  pub executed : Answer
  pub marks : List ℕ

abbrev pub answer_of : ℕ → ℕ → List (List ℕ) → Answer
answer_of n k f = record { refusal = n; place = k; file = f }

-- what the call's answer says of it, beside a file: 0, or for each refusal its number and its place
abbrev pub said_of : {M : Type 0} → Result M Refusal → List (List ℕ) → Answer
said_of answer f = answer_of (number_in answer) (place_in answer) f

abbrev pub said_word : Executed ℕ → ExecutedWord
said_word e = record { executed = said_of e.answer e.file; mark = value_in 0 e.answer }

-- "a lone word refuses with 6 at place 0"; the file "comes back as it was given"
unfoldable pub execute_of : Edition → ℕ → List (List ℕ) → ExecutedWord
execute_of edition w f =
    let cleared : List (List ℕ) = cleared_rows edition f in
    decided
    ((leb (2 ^ 25) w, record { executed = answer_of WORD 0 f; mark = 0 }) ∷ [])
    (record { executed = answer_of 0 0 (step_rows edition w cleared); mark = (outcome_rows w cleared).mark })

-- "Every refusal returns its number and zeros elsewhere": the marks of no line
abbrev pub no_marks : List ℕ
no_marks = replicate 64 0

abbrev pub said_program : Executed (List ℕ) → ExecutedProgram
said_program e = record { executed = said_of e.answer e.file; marks = value_in no_marks e.answer }

-- "Plain execution of a program tests 2, then 6"
unfoldable pub execute_all_of : Edition → List ℕ → List (List ℕ) → ExecutedProgram
execute_all_of edition p f =
    let left : List (List ℕ) × List ℕ = executed_rows edition p f no_marks in
    decided
    ((ltb 64 (length p), record { executed = answer_of COUNT 0 f; marks = no_marks })
    ∷ (ltb (first_bad p) (length p), record { executed = answer_of WORD (first_bad p) f; marks = no_marks })
    ∷ [])
    (record { executed = answer_of 0 0 left.0; marks = left.1 })
