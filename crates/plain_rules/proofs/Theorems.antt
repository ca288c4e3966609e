-- For the reader of specs/: a program is its words one after another, and the machine on rows and the machine on registers agree.
-- Assumes nothing.
use Rattle.table.specs.declared.Pointer.{Pointer}
use Prim.Native.Nat.{ℕ, zero, suc, ◌<◌}
use mathlib.Core.Path.{◌≡◌, refl, sym, ap, ap₂, ◌∙◌}
use mathlib.Core.Bool.{Bool, true, false, cond}
use mathlib.Core.List.{List, [], ◌∷◌, ◌++◌, map}
use lib.ListN.{get_or, set, take, length}
use lib.Seq.{take-suc}
use Rattle.register.specs.declared.Register.{Register}
use Rattle.register.specs.Layout.{zero_register, row_of, of_row}
use Rattle.table.specs.declared.Edition.{Edition}
use Rattle.std.specs.declared.option.Option.{Option}
use Rattle.std.specs.declared.option.Option.TheVariants.{None, Some}
use Rattle.table.specs.Fields.{first_of, rs2_of, rs3_of}
use Rattle.table.specs.Operation.{is_wired, target_of}
use Rattle.alu_rules.specs.declared.Outcome.{Outcome}
use Rattle.alu_rules.specs.Result.{outcome_of}
use Rattle.plain_rules.specs.Machine.{stored, cleared_for, outcome_on, step_on, plain_on, marks_on, step, plain, marks, plain_rows, marks_rows}

-- ---- one word after another

module _ {A : Type 0} (read : A → Register) (make : Register → A) (none : A) (edition : Edition) where
  -- a program and then another is the two in one
  pub one_after_another : (p q : List ℕ) (f : List A) → plain_on read make none edition (p ++ q) f ≡ plain_on read make none edition q (plain_on read make none edition p f)
  unfolding plain_on
  one_after_another [] q f = refl
  one_after_another (w ∷ p) q f = one_after_another p q (step_on read make none edition w f)

  -- a program of one word is that word
  pub lone_word : (w : ℕ) (f : List A) → plain_on read make none edition (w ∷ []) f ≡ step_on read make none edition w f
  unfolding plain_on
  lone_word w f = refl

-- a program's first words and one word more
pub one_more : (edition : Edition) (l : List ℕ) (k : ℕ) (f : List Register) → k < length l
    → plain edition (take (suc k) l) f ≡ step edition (get_or l k 0) (plain edition (take k l) f)
one_more edition l k f h =
    ap (λ (q : List ℕ). plain edition q f) (take-suc l k 0 h)
    ∙ one_after_another (λ r. r) (λ r. r) zero_register edition (take k l) (get_or l k 0 ∷ []) f
    ∙ lone_word (λ r. r) (λ r. r) zero_register edition (get_or l k 0) (plain edition (take k l) f)

-- ---- the same machine on another kind of entry

module _ {A B : Type 0} (read : A → Register) (make : Register → A) (none : A) (read' : B → Register) (make' : Register → B) (none' : B)
    (h : A → B) (reads : (x : A) → read' (h x) ≡ read x) (makes : (v : Register) → h (make v) ≡ make' v) (nones : read' none' ≡ read none) (edition : Edition) where
  read_at_lem : (f : List A) (i : ℕ) → read' (get_or (map h f) i none') ≡ read (get_or f i none)
  read_at_lem [] i = nones
  read_at_lem (x ∷ f) zero = reads x
  read_at_lem (x ∷ f) (suc i) = read_at_lem f i

  set_map : (f : List A) (i : ℕ) (y : A) → map h (set f i y) ≡ set (map h f) i (h y)
  set_map [] i y = refl
  set_map (x ∷ f) zero y = refl
  set_map (x ∷ f) (suc i) y = ap (λ (l : List B). h x ∷ l) (set_map f i y)

  stored_map : (t : Option Pointer) (y : A) (f : List A) → map h (stored t y f) ≡ stored t (h y) (map h f)
  stored_map None y f = refl
  stored_map (Some p) y f = set_map f p.0 y

  pub cleared_converted : (z : A) (f : List A) → map h (cleared_for edition z f) ≡ cleared_for edition (h z) (map h f)
  cleared_converted z f = go (is_wired edition (record { 0 = 0 }))
    where
      go : (t : Bool) → map h (cond t (set f 0 z) f) ≡ cond t (set (map h f) 0 (h z)) (map h f)
      go true = set_map f 0 z
      go false = refl

  outcome_converted : (w : ℕ) (f : List A) → outcome_on read' make' none' w (map h f) ≡ outcome_on read make none w f
  outcome_converted w f = λ j. outcome_of w (read_at_lem f (first_of w).0 j) (read_at_lem f (rs2_of w).0 j) (read_at_lem f (rs3_of w).0 j)

  step_converted : (w : ℕ) (f : List A) → map h (step_on read make none edition w f) ≡ step_on read' make' none' edition w (map h f)
  unfolding step_on
  step_converted w f =
      stored_map (target_of edition w) (make (outcome_on read make none w f).value) f
      ∙ ap (λ (y : B). stored (target_of edition w) y (map h f))
      (makes _ ∙ sym (λ j. make' (outcome_converted w f j).value))

  pub plain_converted : (p : List ℕ) (f : List A) → map h (plain_on read make none edition p f) ≡ plain_on read' make' none' edition p (map h f)
  unfolding plain_on
  plain_converted [] f = refl
  plain_converted (w ∷ p) f = plain_converted p (step_on read make none edition w f) ∙ ap (plain_on read' make' none' edition p) (step_converted w f)

  pub marks_converted : (p : List ℕ) (f : List A) (l : List ℕ) → marks_on read' make' none' edition p (map h f) l ≡ marks_on read make none edition p f l
  unfolding marks_on
  marks_converted [] f l = refl
  marks_converted (w ∷ p) f [] = refl
  marks_converted (w ∷ p) f (x ∷ l) =
      ap₂ (λ (m : ℕ) (q : List ℕ). m ∷ q) (ap (λ (o : Outcome). o.mark) (outcome_converted w f))
      (ap (λ (g : List B). marks_on read' make' none' edition p g l) (sym (step_converted w f)) ∙ marks_converted p (step_on read make none edition w f) l)

-- rows as registers, and registers as rows
pub rows_as_registers : (edition : Edition) (p : List ℕ) (f : List (List ℕ)) → map of_row (plain_rows edition p f) ≡ plain edition p (map of_row f)
rows_as_registers = plain_converted of_row row_of [] (λ r. r) (λ r. r) zero_register of_row (λ x. refl) (λ v. refl) refl

pub registers_as_rows : (edition : Edition) (p : List ℕ) (f : List Register) → map row_of (plain edition p f) ≡ plain_rows edition p (map row_of f)
registers_as_rows = plain_converted (λ r. r) (λ r. r) zero_register of_row row_of [] row_of (λ x. refl) (λ v. refl) refl

-- the marks of a program on rows are those on their registers, and the other way round
pub marks_of_rows : (edition : Edition) (p : List ℕ) (f : List (List ℕ)) (l : List ℕ) → marks_rows edition p f l ≡ marks edition p (map of_row f) l
marks_of_rows edition p f l = sym (marks_converted of_row row_of [] (λ r. r) (λ r. r) zero_register of_row (λ x. refl) (λ v. refl) refl edition p f l)

pub marks_of_registers : (edition : Edition) (p : List ℕ) (f : List Register) (l : List ℕ) → marks_rows edition p (map row_of f) l ≡ marks edition p f l
marks_of_registers = marks_converted (λ r. r) (λ r. r) zero_register of_row row_of [] row_of (λ x. refl) (λ v. refl) refl
