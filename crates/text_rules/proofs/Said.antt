-- What the answer of the call says, undone: two answers that say the same of one text are the same. Carried by `told_apart`, since no text is refused with 6,
-- the one number that tells a place.
-- Assumes nothing.
use Prim.Native.Nat.{ℕ, zero, suc}
use mathlib.Core.Path.{◌≡◌, sym, ap, ◌∙◌}
use mathlib.Core.Bool.{not}
use mathlib.Core.List.{List, [], ◌∷◌, ◌++◌}
use native.Mathlib.Omega.{arith}
use lib.Dec.{eqb, leb}
use lib.ListN.{length, drop}
use Rattle.std.specs.Prelude.{Result, Ok, Err}
use Rattle.table.specs.Refusal.{NAME, OPERANDS, LINES, WORD, place_of}
use Rattle.table.proofs.Decided.{each}
use Rattle.table.proofs.Told.{told_apart}
use Rattle.table.proofs.Told.{never_0, placeless}
use Rattle.text_rules.specs.declared.Faulty.{Faulty}
use Rattle.text_rules.specs.declared.ReadWords.{ReadWords}
use Rattle.text_rules.specs.Forms.{every_form, form_at, row_named}
use Rattle.text_rules.specs.Line.{Line, name_in, behind_name, refused_line, accepted_line, line_of}
use Rattle.text_rules.specs.Text.{ReadText, accepted_text, refused_text, said_text, read_from, read_text_of}

-- ---- no text is refused with 6

abbrev NoWord : ℕ → Type 0
NoWord number = number ≡ WORD → ⊥

line_no_word : (l : List ℕ) → NoWord (line_of l).refusal
unfolding line_of
line_no_word l =
    let said = behind_name (form_at (row_named (name_in l))) (name_in l) l in
    each (λ (r : Line). NoWord r.refusal)
    ((leb (length every_form) (row_named (name_in l)), refused_line NAME) ∷ (not said.stated, refused_line OPERANDS) ∷ [])
    (accepted_line said.word said.size)
    ((λ e. omega arith), ((λ e. omega arith), tt)) (λ e. omega arith)

from_no_word : (left : ℕ) (words l : List ℕ) → NoWord (read_from left words l).refusal
unfolding read_from
from_no_word zero words l =
    each (λ (r : ReadText). NoWord r.refusal) ((eqb (length l) 0, accepted_text words) ∷ []) (refused_text LINES (length words))
    ((λ e. omega arith), tt) (λ e. omega arith)
from_no_word (suc left) words l =
    let line = line_of l in
    each (λ (r : ReadText). NoWord r.refusal)
    ((eqb (length l) 0, accepted_text words) ∷ (not (eqb line.refusal 0), refused_text line.refusal (length words)) ∷ [])
    (read_from left (words ++ line.word ∷ []) (drop line.size l))
    ((λ e. omega arith), (line_no_word l, tt)) (from_no_word left (words ++ line.word ∷ []) (drop line.size l))

-- so no place is told
no_place : (text : List ℕ) (x : Faulty) → said_text (Err x) ≡ read_text_of text → place_of x.refusal ≡ 0
no_place text x p = placeless x.refusal (λ e. from_no_word 64 [] text (ap (λ (r : ReadText). r.refusal) (sym p) ∙ e))

-- ---- two answers

module _ (text : List ℕ) where
  pub unsaid_text : (x y : Result ReadWords Faulty) → said_text x ≡ read_text_of text → said_text y ≡ read_text_of text → x ≡ y
  unsaid_text (Ok a) (Ok b) p q = ap (λ (r : ReadText). Ok (record { words = r.words; n = r.n })) (p ∙ sym q)
  unsaid_text (Ok a) (Err y) p q = absurd (never_0 y.refusal (ap (λ (r : ReadText). r.refusal) (q ∙ sym p)))
  unsaid_text (Err x) (Ok b) p q = absurd (never_0 x.refusal (ap (λ (r : ReadText). r.refusal) (p ∙ sym q)))
  unsaid_text (Err x) (Err y) p q =
      let same : x.refusal ≡ y.refusal = told_apart (ap (λ (r : ReadText). r.refusal) (p ∙ sym q)) (no_place text x p ∙ sym (no_place text y q)) in
      let lines : x.line ≡ y.line = ap (λ (r : ReadText). r.line) (p ∙ sym q) in
      λ i. Err (record { refusal = same i; line = lines i })
