-- The rows of the table. Carried by the tests that the code makes, and by computation at each of the eight rows of the multiply family.
-- Assumes nothing.
use Prim.Native.Nat.{ℕ, zero, suc}
use mathlib.Core.Path.{◌≡◌, refl, sym, ap, ◌∙◌}
use mathlib.Core.Bool.{Bool, true, false}
use lib.ListN.{get_or, replicate}
use Rattle.table.specs.declared.Reads.{Reads}
use Rattle.table.specs.Fields.{is_li, is_multiply, is_long, is_subtract, is_high, code_of}
use Rattle.table.specs.Operation.{operation_of, multiply_row, short_rows, reads_of}
use Rattle.table.specs.Operation.Operation.{li, nop}

-- ---- the rows

-- a claim about three bits holds if it holds at each of the eight choices
pub each_choice : (P : Bool → Bool → Bool → Type 0)
    → P false false false → P false false true → P false true false → P false true true
    → P true false false → P true false true → P true true false → P true true true → (x y z : Bool) → P x y z
each_choice P a b c d e f g h false false false = a
each_choice P a b c d e f g h false false true = b
each_choice P a b c d e f g h false true false = c
each_choice P a b c d e f g h false true true = d
each_choice P a b c d e f g h true false false = e
each_choice P a b c d e f g h true false true = f
each_choice P a b c d e f g h true true false = g
each_choice P a b c d e f g h true true true = h

-- the three bits choose a row that reads all three
row_reads : (long subtract high : Bool) → reads_of (multiply_row long subtract high) ≡ Reads.Rs1Rs2Rs3
row_reads = each_choice (λ x y z. reads_of (multiply_row x y z) ≡ Reads.Rs1Rs2Rs3) refl refl refl refl refl refl refl refl

-- every place of a list of one element, and every place beyond it
pub all_alike : {A : Type 0} (x : A) (n i : ℕ) → get_or (replicate n x) i x ≡ x
all_alike x zero i = refl
all_alike x (suc n) zero = refl
all_alike x (suc n) (suc i) = all_alike x n i

-- ---- the row of a word, by the tests that the code makes: l and m are their answers, r is what the code answers

module _ (w : ℕ) {l : Bool} (is-li : l ≡ is_li w) where
  module _ (yes : l ≡ true) where
    pub li_word_lem : operation_of w ≡ li
    unfolding operation_of
    li_word_lem = rw (sym is-li ∙ yes)

    pub li_reads : Reads.Rd ≡ reads_of (operation_of w)
    li_reads = sym (ap reads_of li_word_lem)

  module _ {m : Bool} (other : l ≡ false) (is-multiply : m ≡ is_multiply w) where
    module _ (yes : m ≡ true) where
      pub multiply_word_lem : operation_of w ≡ multiply_row (is_long w) (is_subtract w) (is_high w)
      unfolding operation_of
      multiply_word_lem = rw (sym is-li ∙ other, sym is-multiply ∙ yes)

      pub multiply_reads : Reads.Rs1Rs2Rs3 ≡ reads_of (operation_of w)
      multiply_reads = sym (ap reads_of multiply_word_lem ∙ row_reads (is_long w) (is_subtract w) (is_high w))

    module _ (no : m ≡ false) where
      pub short_word_lem : operation_of w ≡ get_or short_rows (code_of w) nop
      unfolding operation_of
      short_word_lem = rw (sym is-li ∙ other, sym is-multiply ∙ no)

      pub short_reads : {c : ℕ} {r : Reads} → c ≡ code_of w → r ≡ reads_of (get_or short_rows c nop) → r ≡ reads_of (operation_of w)
      short_reads e f = f ∙ ap (λ (k : ℕ). reads_of (get_or short_rows k nop)) e ∙ sym (ap reads_of short_word_lem)
