-- The marks of a program's lines: that of line k is the mark of what its word gives on what the lines before it leave. Carried by induction over the lines.
-- Assumes nothing.
use Prim.Native.Nat.{ℕ, zero, suc, ◌<◌, ◌≤◌}
use mathlib.Core.Path.{◌≡◌, refl, ap, ◌∙◌}
use mathlib.Core.List.{List, [], ◌∷◌}
use native.Mathlib.Omega.{arith}
use lib.ListN.{length, get_or, set, take}
use Rattle.register.specs.declared.Register.{Register}
use Rattle.register.specs.Layout.{row_of, of_row}
use Rattle.table.specs.declared.Edition.{Edition}
use Rattle.table.specs.Refusal.{first_bad}
use Rattle.table.proofs.Rows.{all_alike}
use Rattle.plain_rules.specs.Machine.{outcome_on, step_on, plain_on, marks_on, outcome_rows, plain_rows, cleared_rows, executed_rows}
use Rattle.plain_rules.specs.Answer.{ExecutedProgram, no_marks, execute_all_of}
use Rattle.plain_rules.proofs.Refusals.{executed}

module _ {A : Type 0} (read : A → Register) (make : Register → A) (none : A) (edition : Edition) where
  pub mark_of_line : (p : List ℕ) (k : ℕ) (f : List A) (l : List ℕ) → k < length p → k < length l
      → get_or (marks_on read make none edition p f l) k 0 ≡ (outcome_on read make none (get_or p k 0) (plain_on read make none edition (take k p) f)).mark
  unfolding marks_on plain_on
  mark_of_line [] k f l h m = absurd (omega arith)
  mark_of_line (w ∷ p) k f [] h m = absurd (omega arith)
  mark_of_line (w ∷ p) zero f (x ∷ l) h m = refl
  mark_of_line (w ∷ p) (suc k) f (x ∷ l) h m = mark_of_line p k (step_on read make none edition w f) l (omega arith) (omega arith)

  -- what stands beyond the lines stays
  beyond_the_lines : (p : List ℕ) (k : ℕ) (f : List A) (l : List ℕ) → length p ≤ k → get_or (marks_on read make none edition p f l) k 0 ≡ get_or l k 0
  unfolding marks_on
  beyond_the_lines [] k f l h = refl
  beyond_the_lines (w ∷ p) k f [] h = refl
  beyond_the_lines (w ∷ p) zero f (x ∷ l) h = absurd (omega arith)
  beyond_the_lines (w ∷ p) (suc k) f (x ∷ l) h = beyond_the_lines p k (step_on read make none edition w f) l (omega arith)

  pub as_many : (p : List ℕ) (f : List A) (l : List ℕ) → length (marks_on read make none edition p f l) ≡ length l
  unfolding marks_on
  as_many [] f l = refl
  as_many (w ∷ p) f [] = refl
  as_many (w ∷ p) f (x ∷ l) = ap suc (as_many p (step_on read make none edition w f) l)

  -- a program's first lines and one line more
  pub one_more_mark : (p : List ℕ) (k : ℕ) (f : List A) (l : List ℕ) → k < length p
      → marks_on read make none edition (take (suc k) p) f l
      ≡ set (marks_on read make none edition (take k p) f l) k (outcome_on read make none (get_or p k 0) (plain_on read make none edition (take k p) f)).mark
  unfolding marks_on plain_on
  one_more_mark [] k f l h = absurd (omega arith)
  one_more_mark (w ∷ p) zero f [] h = refl
  one_more_mark (w ∷ p) zero f (x ∷ l) h = refl
  one_more_mark (w ∷ p) (suc k) f [] h = refl
  one_more_mark (w ∷ p) (suc k) f (x ∷ l) h =
      ap (λ (q : List ℕ). (outcome_on read make none w f).mark ∷ q) (one_more_mark p k (step_on read make none edition w f) l (omega arith))

-- of an accepted program: line k is marked as that word alone is, on what the lines before it leave of the file as it was cleared; beyond the lines there are zeros
module _ (edition : Edition) (p : List ℕ) (f : List (List ℕ)) (k : ℕ) (few : length p ≤ 64) (good : length p ≤ first_bad p) where
  answered : get_or (execute_all_of edition p f).marks k 0 ≡ get_or (executed_rows edition p f no_marks).1 k 0
  answered = ap (λ (e : ExecutedProgram). get_or e.marks k 0) (executed edition p f few good)

  pub line_marked : k < length p
      → get_or (execute_all_of edition p f).marks k 0 ≡ (outcome_rows (get_or p k 0) (plain_rows edition (take k p) (cleared_rows edition f))).mark
  line_marked h = answered ∙ mark_of_line of_row row_of [] edition p k (cleared_rows edition f) no_marks h (omega arith)

  pub unmarked_beyond : length p ≤ k → get_or (execute_all_of edition p f).marks k 0 ≡ 0
  unmarked_beyond h = answered ∙ beyond_the_lines of_row row_of [] edition p k (cleared_rows edition f) no_marks h ∙ all_alike 0 64 k
