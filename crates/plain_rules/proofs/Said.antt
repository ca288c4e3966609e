-- What an answer of plain execution says, undone: two answers that say the same are the same. Carried by `one_answer`.
-- Assumes nothing.
use Prim.Native.Nat.{ℕ}
use mathlib.Core.Path.{◌≡◌, ap}
use mathlib.Core.List.{List}
use Rattle.table.specs.Refusal.{value_in}
use Rattle.table.proofs.Told.{one_answer}
use Rattle.plain_rules.specs.declared.Executed.{Executed}
use Rattle.plain_rules.specs.Answer.{Answer, ExecutedWord, ExecutedProgram, no_marks, said_of, said_word, said_program}

-- an answer is known by its number, its place and its marks
whole : {M : Type 0} (none : M) (x y : Executed M) → said_of x.answer x.file ≡ said_of y.answer y.file → value_in none x.answer ≡ value_in none y.answer → x ≡ y
whole none x y e m =
    let answer = one_answer none x.answer y.answer (ap (λ (v : Answer). v.refusal) e) (ap (λ (v : Answer). v.place) e) m in
    let file = ap (λ (v : Answer). v.file) e in
    λ i. record { answer = answer i; file = file i }

pub unsaid_word : (x y : Executed ℕ) → said_word x ≡ said_word y → x ≡ y
unsaid_word x y e = whole 0 x y (ap (λ (v : ExecutedWord). v.executed) e) (ap (λ (v : ExecutedWord). v.mark) e)

pub unsaid_program : (x y : Executed (List ℕ)) → said_program x ≡ said_program y → x ≡ y
unsaid_program x y e = whole no_marks x y (ap (λ (v : ExecutedProgram). v.executed) e) (ap (λ (v : ExecutedProgram). v.marks) e)
