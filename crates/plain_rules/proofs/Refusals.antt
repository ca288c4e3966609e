-- What no test refuses is executed, what one refuses leaves the file as it was given, and a lone word is a program of one line. Carried by the laws of
-- decisions.
-- Assumes nothing.
use Prim.Native.Nat.{ℕ, ◌≤◌, ◌^◌}
use mathlib.Core.Path.{◌≡◌, refl, sym}
use mathlib.Core.Bool.{Bool, true, false}
use mathlib.Core.List.{List, [], ◌∷◌}
use borrow.Author.Tests.{ltb-true, ltb-false, le-leb, lt-leb}
use lib.Dec.{ltb}
use lib.ListN.{length, replicate}
use Rattle.table.specs.declared.Edition.{Edition}
use Rattle.table.specs.Decided.{decided}
use Rattle.table.specs.Refusal.{WORD, first_bad}
use Rattle.table.proofs.Decided.{each, deciding}
use Rattle.plain_rules.specs.Machine.{plain_on, marks_on, executed_rows}
use Rattle.plain_rules.specs.Answer.{ExecutedProgram, answer_of, no_marks, execute_of, execute_all_of}

pub executed : (edition : Edition) (p : List ℕ) (f : List (List ℕ)) → length p ≤ 64 → length p ≤ first_bad p
    → execute_all_of edition p f ≡ (let left = executed_rows edition p f no_marks in record { executed = answer_of 0 0 left.0; marks = left.1 })
unfolding execute_all_of
executed edition p f few good = sym (search deciding)

-- a "register file passed by value comes back as it was given", by a refusal
pub refused_unaltered : (edition : Edition) (p : List ℕ) (f : List (List ℕ)) → ((execute_all_of edition p f).executed.refusal ≡ 0 → ⊥) → (execute_all_of edition p f).executed.file ≡ f
unfolding execute_all_of
refused_unaltered edition p f =
    each (λ (e : ExecutedProgram). (e.executed.refusal ≡ 0 → ⊥) → e.executed.file ≡ f) _ _ (λ _. refl, (λ _. refl, tt)) (λ h. absurd (h refl))

-- "zeros elsewhere but for 6's place": where the number is not 6 the place is 0, and where it is not 0 no line has a mark
pub place_executed : (edition : Edition) (p : List ℕ) (f : List (List ℕ)) → ((execute_all_of edition p f).executed.refusal ≡ WORD → ⊥) → (execute_all_of edition p f).executed.place ≡ 0
unfolding execute_all_of
place_executed edition p f =
    each (λ (e : ExecutedProgram). (e.executed.refusal ≡ WORD → ⊥) → e.executed.place ≡ 0) _ _ (λ _. refl, (λ h. absurd (h refl), tt)) (λ _. refl)

pub refused_unmarked : (edition : Edition) (p : List ℕ) (f : List (List ℕ)) → ((execute_all_of edition p f).executed.refusal ≡ 0 → ⊥) → (execute_all_of edition p f).marks ≡ replicate 64 0
unfolding execute_all_of
refused_unmarked edition p f =
    each (λ (e : ExecutedProgram). (e.executed.refusal ≡ 0 → ⊥) → e.marks ≡ replicate 64 0) _ _ (λ _. refl, (λ _. refl, tt)) (λ h. absurd (h refl))

-- a program of one line answers as the lone word does
pub one_line_lem : (edition : Edition) (w : ℕ) (f : List (List ℕ)) → execute_all_of edition (w ∷ []) f ≡ record { executed = (execute_of edition w f).executed; marks = (execute_of edition w f).mark ∷ replicate 63 0 }
unfolding execute_all_of execute_of decided first_bad plain_on marks_on
one_line_lem edition w f = go (ltb w (2 ^ 25)) refl
  where
    go : (t : Bool) → ltb w (2 ^ 25) ≡ t → execute_all_of edition (w ∷ []) f ≡ record { executed = (execute_of edition w f).executed; marks = (execute_of edition w f).mark ∷ replicate 63 0 }
    go true e = rw (e, lt-leb _ _ (ltb-true w (2 ^ 25) e))
    go false e = rw (e, le-leb _ _ (ltb-false w (2 ^ 25) e))
