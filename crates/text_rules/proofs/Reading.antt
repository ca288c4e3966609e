-- What reading answers by the line in front: the end of the text, a line too many, a line that is refused, and one that is accepted, behind which it goes on.
-- Carried by the laws of decisions.
-- Assumes nothing.
use Prim.Native.Nat.{ℕ, zero, suc, ◌<◌}
use mathlib.Core.Path.{◌≡◌, refl, sym}
use mathlib.Core.Bool.{Bool, true, false, cond}
use mathlib.Core.List.{List, [], ◌∷◌, ◌++◌}
use native.Mathlib.Omega.{arith}
use borrow.Author.Tests.{eq-eqb, ne_eqb, eqb-true, eqb-false}
use lib.Dec.{eqb, leb}
use lib.ListN.{length, drop}
use Rattle.table.specs.Decided.{decided}
use Rattle.table.specs.Refusal.{NAME, OPERANDS, LINES}
use Rattle.table.proofs.Decided.{stops, passes, ends, denied, not_denied}
use Rattle.text_rules.specs.Forms.{row_named}
use Rattle.text_rules.specs.Line.{name_in, accepted_line, refused_line, line_of}
use Rattle.text_rules.specs.Text.{accepted_text, refused_text, read_from}
use Rattle.text_rules.proofs.Fits.{line_fits}

-- ---- by the line in front

-- at the end of the text the words are the answer
pub at_end : (left : ℕ) (words : List ℕ) → read_from left words [] ≡ accepted_text words
unfolding read_from decided
at_end zero words = refl
at_end (suc left) words = refl

-- a line too many, whatever it holds
pub one_too_many : (words l : List ℕ) → 0 < length l → read_from zero words l ≡ refused_text LINES (length words)
unfolding read_from
one_too_many words l some = sym (passes _ _ _ (ne_eqb (length l) 0 (λ none. omega arith)) ends)

-- a line that is refused
pub refused_there : (left : ℕ) (words l : List ℕ) → 0 < length l → ((line_of l).refusal ≡ 0 → ⊥)
    → read_from (suc left) words l ≡ refused_text (line_of l).refusal (length words)
unfolding read_from
refused_there left words l some isnt =
    sym (passes _ _ _ (ne_eqb (length l) 0 (λ none. omega arith)) (stops _ _ (denied (ne_eqb (line_of l).refusal 0 isnt))))

-- a line that is accepted
pub goes_on_lem : (left : ℕ) (words l : List ℕ) → (line_of l).refusal ≡ 0
    → read_from (suc left) words l ≡ read_from left (words ++ (line_of l).word ∷ []) (drop (line_of l).size l)
unfolding read_from
goes_on_lem left words l e =
    let fits = line_fits l e in
    sym (passes _ _ _ (ne_eqb (length l) 0 (λ none. omega arith)) (passes _ _ _ (not_denied (eq-eqb (line_of l).refusal 0 e)) ends))

-- ---- a line that is refused

-- a line is accepted or it is not
pub either : {P : Type 0} (l : List ℕ) → ((line_of l).refusal ≡ 0 → P) → (((line_of l).refusal ≡ 0 → ⊥) → P) → P
either {P} l holds isnt = by (eqb (line_of l).refusal 0) refl
  where
    by : (t : Bool) → eqb (line_of l).refusal 0 ≡ t → P
    by true e = holds (eqb-true (line_of l).refusal 0 e)
    by false e = isnt (eqb-false (line_of l).refusal 0 e)

refused_by : (s t : Bool) (word size : ℕ)
    → ((decided ((s, refused_line NAME) ∷ (t, refused_line OPERANDS) ∷ []) (accepted_line word size)).refusal ≡ 0 → ⊥)
    → decided ((s, refused_line NAME) ∷ (t, refused_line OPERANDS) ∷ []) (accepted_line word size) ≡ refused_line (cond s NAME OPERANDS)
unfolding decided
refused_by true t word size isnt = refl
refused_by false true word size isnt = refl
refused_by false false word size isnt = absurd (isnt refl)

-- is refused for its name where that is no row's, and else for what stands behind it
pub refused_line_lem : (l : List ℕ) → ((line_of l).refusal ≡ 0 → ⊥) → line_of l ≡ refused_line (cond (leb 26 (row_named (name_in l))) NAME OPERANDS)
unfolding line_of
refused_line_lem l isnt = refused_by _ _ _ _ isnt
