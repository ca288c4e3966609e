-- "the plain machine that executes one instruction after another", of either edition of the card
-- Assumes nothing.
use Rattle.table.specs.declared.Pointer.{Pointer}
use Rattle.std.specs.Prelude.{ℕ, cond, List, [], ◌∷◌, get_or, set}
use Rattle.register.specs.declared.Register.{Register}
use Rattle.register.specs.Layout.{zero_register, row_of, of_row}
use Rattle.table.specs.declared.Edition.{Edition}
use Rattle.std.specs.declared.option.Option.{Option}
use Rattle.std.specs.declared.option.Option.TheVariants.{None, Some}
use Rattle.table.specs.Fields.{first_of, rs2_of, rs3_of}
use Rattle.table.specs.Operation.{is_wired, target_of}
use Rattle.alu_rules.specs.declared.Outcome.{Outcome}
use Rattle.alu_rules.specs.Result.{outcome_of}

-- the file with v in the register that is written, if any
abbrev pub stored : {A : Type 0} → Option Pointer → A → List A → List A
stored None v f = f
stored (Some p) v f = set f p.0 v

-- "in edition 2 the latter clears register 0 first": the file with zero in register 0, where the edition wires it
abbrev pub cleared_for : {A : Type 0} → Edition → A → List A → List A
cleared_for edition zero f = cond (is_wired edition (record { 0 = 0 })) (set f 0 zero) f

-- on a file of any kind of entry that is read as a register and made from one; `none` is read where there is no such entry
module _ {A : Type 0} (read : A → Register) (make : Register → A) (none : A) where
  -- what a word gives from a file
  abbrev pub outcome_on : ℕ → List A → Outcome
  outcome_on w f = outcome_of w (read (get_or f (first_of w).0 none)) (read (get_or f (rs2_of w).0 none)) (read (get_or f (rs3_of w).0 none))

  -- one instruction of a card of this edition
  unfoldable pub step_on : Edition → ℕ → List A → List A
  step_on edition w f = stored (target_of edition w) (make (outcome_on w f).value) f

  -- one instruction after another
  unfoldable pub plain_on : Edition → List ℕ → List A → List A
  plain_on edition [] f = f
  plain_on edition (w ∷ ws) f = plain_on edition ws (step_on edition w f)

  -- the marks of the lines of a program, each of what its word gives, laid over a list so far as it reaches; the rest of the list stays
  unfoldable pub marks_on : Edition → List ℕ → List A → List ℕ → List ℕ
  marks_on edition [] f l = l
  marks_on edition (w ∷ ws) f [] = []
  marks_on edition (w ∷ ws) f (x ∷ l) = (outcome_on w f).mark ∷ marks_on edition ws (step_on edition w f) l

-- the machine on a list of registers
abbrev pub step : Edition → ℕ → List Register → List Register
step = step_on (λ (r : Register). r) (λ (r : Register). r) zero_register

abbrev pub plain : Edition → List ℕ → List Register → List Register
plain = plain_on (λ (r : Register). r) (λ (r : Register). r) zero_register

abbrev pub marks : Edition → List ℕ → List Register → List ℕ → List ℕ
marks = marks_on (λ (r : Register). r) (λ (r : Register). r) zero_register

-- both: what a program leaves of the registers, and its marks
abbrev pub executed_registers : Edition → List ℕ → List Register → List ℕ → List Register × List ℕ
executed_registers edition p f l = (plain edition p f, marks edition p f l)

-- "The register file is 32 rows of four words": the machine on rows
abbrev pub outcome_rows : ℕ → List (List ℕ) → Outcome
outcome_rows = outcome_on of_row row_of []

abbrev pub step_rows : Edition → ℕ → List (List ℕ) → List (List ℕ)
step_rows = step_on of_row row_of []

abbrev pub plain_rows : Edition → List ℕ → List (List ℕ) → List (List ℕ)
plain_rows = plain_on of_row row_of []

abbrev pub marks_rows : Edition → List ℕ → List (List ℕ) → List ℕ → List ℕ
marks_rows = marks_on of_row row_of []

abbrev pub cleared_rows : Edition → List (List ℕ) → List (List ℕ)
cleared_rows edition f = cleared_for edition (row_of zero_register) f

abbrev pub executed_rows : Edition → List ℕ → List (List ℕ) → List ℕ → List (List ℕ) × List ℕ
executed_rows edition p f l = (plain_rows edition p (cleared_rows edition f), marks_rows edition p (cleared_rows edition f) l)
