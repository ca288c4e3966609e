-- The rows of a file as registers, and registers as rows: a list filled from front to back with what a function makes of another's entries, and the plain machine in
-- between. Carried by `take-suc`, the first entries and one more, and by `registers_as_rows`.
-- Assumes nothing.
use Prim.Native.Nat.{ℕ, ◌+◌, ◌<◌}
use mathlib.Core.Path.{◌≡◌, refl, sym, ap, ap₂, ◌∙◌}
use mathlib.Core.List.{List, [], ◌∷◌, ◌++◌, map}
use native.Mathlib.Numerals.{add-one}
use native.Mathlib.Omega.{arith}
use lib.ListN.{length, take, get_or, set, length-map, get_or-map}
use lib.Seq.{take-suc, take-suc-set}
use mir.Val.{Val}
use denote.Array.{Array, each}
use denote.Builtin as builtin
use denote.Laws.{Is}
use denote.Shadow.{shadow}
use Rattle.std.specs.Prelude.{Result, Ok, Err, MatchResult, IsOkAnd}
use Rattle.register.specs.declared.Register.{Register}
use Rattle.register.specs.Layout.{zero_register, row_of, of_row}
use Rattle.register.proofs.Theorems.{from_row_and_back}
use Rattle.table.specs.declared.Edition.{Edition}
use Rattle.table.specs.declared.refusal.Refusal.{Refusal}
use Rattle.plain_rules.specs.Machine.{cleared_for, executed_registers, plain_rows, marks_rows, cleared_rows, executed_rows}
use Rattle.plain_rules.specs.Answer.{ExecutedProgram, answer_of, said_word, said_program}
use Rattle.plain_rules.proofs.Theorems.{cleared_converted, registers_as_rows, marks_of_registers}

-- the list l, of n entries, filled up to i with h of those of f
module _ {A B : Type 0} (h : A → B) (none : A) (f : List A) (l : List B) (i n : ℕ) (whole : length f ≡ n) (room : length l ≡ n)
    (so_far : take i l ≡ take i (map h f)) where
  pub next_filled : i < n → {b : B} → b ≡ h (get_or f i none) → take (i + 1) (set l i b) ≡ take (i + 1) (map h f)
  next_filled k e =
      rw add-one
      (take-suc-set l i _ (omega arith)
      ∙ ap₂ (λ (q : List B) (y : B). q ++ (y ∷ [])) so_far (e ∙ sym (get_or-map h f i none))
      ∙ sym (take-suc (map h f) i (h none) (omega (arith, length-map f h))))

-- every row that a function is handed has four words, so that it is the row of its register
rows_again : (xs : List (List ℕ)) (us : List Val) → shadow (each (List ℕ) (Array builtin.u32 4).own_val xs us) → map row_of (map of_row xs) ≡ xs
rows_again [] us s = refl
rows_again (x ∷ xs) [] s = absurd s
rows_again (x ∷ xs) (u ∷ us) s = λ i. from_row_and_back x s.0.1.0.1 i ∷ rows_again xs us s.1 i

-- rows read as registers, cleared for the edition, the program on these, and what it leaves as rows again; its marks are the same
pub on_registers : (edition : Edition) (p : List ℕ) (rows : List (List ℕ)) (m : List ℕ) {vs : List Val} {f g : List Register} {r : List (List ℕ)} {n : List ℕ} → Is (Array (Array builtin.u32 4) 32) rows vs
    → f ≡ cleared_for edition zero_register (map of_row rows) → (g, n) ≡ executed_registers edition p f m → r ≡ map row_of g → (r, n) ≡ executed_rows edition p rows m
on_registers edition p rows m is before after written =
    let ran = after ∙ ap (λ (l : List Register). executed_registers edition p l m) before in
    let rows-cleared : map row_of (cleared_for edition zero_register (map of_row rows)) ≡ cleared_rows edition rows
    = cleared_converted (λ r. r) (λ r. r) zero_register of_row row_of [] row_of (λ x. refl) (λ v. refl) refl edition zero_register (map of_row rows)
    ∙ ap (cleared_rows edition) (rows_again rows is.0 is.1.1) in
    let left = written ∙ ap (λ (x : List Register × List ℕ). map row_of x.0) ran
    ∙ registers_as_rows edition p (cleared_for edition zero_register (map of_row rows)) ∙ ap (plain_rows edition p) rows-cleared in
    let laid = ap (λ (x : List Register × List ℕ). x.1) ran
    ∙ sym (marks_of_registers edition p (cleared_for edition zero_register (map of_row rows)) m) ∙ ap (λ (l : List (List ℕ)). marks_rows edition p l m) rows-cleared in
    λ j. (left j, laid j)

-- and these as the answer of a program that is not refused
pub answered : {r x : List (List ℕ)} {n y : List ℕ} → ◌≡◌ {A = List (List ℕ) × List ℕ} (r, n) (x, y)
    → ◌≡◌ {A = ExecutedProgram} (record { executed = answer_of 0 0 r; marks = n }) (record { executed = answer_of 0 0 x; marks = y })
answered ran = λ j. record { executed = answer_of 0 0 (ran j).0; marks = (ran j).1 }

-- a lone word's answer, from that of the program of one line
pub first_said : {Post : List ℕ → ℕ → Type 0} (first : (x : List ℕ) (r : ℕ) → Post x r → r ≡ get_or x 0 0) (a : Result (List ℕ) Refusal) (b : Result ℕ Refusal) (f : List (List ℕ))
    → MatchResult a (λ x. IsOkAnd b (Post x)) (λ e. b ≡ Err e)
    → said_word (record { answer = b; file = f }) ≡ (let all = said_program (record { answer = a; file = f }) in record { executed = all.executed; mark = get_or all.marks 0 0 })
first_said first (Ok x) (Ok r) f h = ap (λ (m : ℕ). record { executed = answer_of 0 0 f; mark = m }) (first x r h)
first_said first (Ok x) (Err why) f h = absurd h
first_said first (Err why) b f h = ap (λ (r : Result ℕ Refusal). said_word (record { answer = r; file = f })) h
