-- A line that is accepted is some of the text, and no more than there is of it. Carried by induction on the operands, each of which is taken from what is left.
-- Assumes nothing.
use Prim.Native.Nat.{ℕ, suc, ◌+◌, ◌*◌, ◌^◌, ◌≤◌, ◌<◌}
use mathlib.Core.Path.{◌≡◌, refl, sym, ap, ◌∙◌}
use mathlib.Core.Bool.{Bool, true, false, cond, false≢true}
use mathlib.Core.List.{List, [], ◌∷◌}
use native.Mathlib.Omega.{arith}
use borrow.Author.Tests.{eqb-true, leb-false, not-false}
use lib.ListN.{length, drop, length-drop}
use Rattle.table.proofs.Decided.{none_refused, passes, ends}
use Rattle.text_rules.specs.Forms.{Operand, form_at, row_named}
use Rattle.text_rules.specs.Number.{Notation, base_of, is_digit, digits_in, number_of, says_below}
use Rattle.text_rules.specs.Line.{Line, Operands, SPACE, NEWLINE, begins_with, in_name, name_in, not_stated, operands_in, behind_name, accepted_line, line_of}
use Rattle.text_rules.proofs.Fronts.{front_fits}
use Rattle.text_rules.proofs.Rows.{both}

-- a text that begins with a byte
pub begun : (b : ℕ) (l : List ℕ) → begins_with b l ≡ true → l ≡ b ∷ drop 1 l
begun b [] e = absurd (false≢true e)
begun b (x ∷ l) e = ap (λ (y : ℕ). y ∷ l) (eqb-true x b e)

-- ---- operands that are as stated

stated_by : (t : Bool) (x : Operands) → (cond t x not_stated).stated ≡ true → (t ≡ true) × (cond t x not_stated ≡ x)
stated_by true x e = (refl, refl)
stated_by false x e = absurd (false≢true e)

-- behind the last one is a newline
pub last_stated : (notation : Notation) (word size : ℕ) (l : List ℕ) → (operands_in notation [] word size l).stated ≡ true
    → (l ≡ NEWLINE ∷ drop 1 l) × (operands_in notation [] word size l ≡ record { stated = true; word = word; size = size + 1 })
unfolding operands_in
last_stated notation word size l e = let s = stated_by _ _ e in (begun NEWLINE l s.0, s.1)

-- the first one is a space and digits that say a number below its limit, and the others stand behind them
pub record FirstStated (notation : Notation) (o : Operand) (os : List Operand) (word size : ℕ) (l : List ℕ) : Type 0 where
  pub spaced : l ≡ SPACE ∷ drop 1 l
  pub says : says_below notation o.limit (digits_in (base_of notation) (drop 1 l)) ≡ true
  pub others : (let digits = digits_in (base_of notation) (drop 1 l) in
      operands_in notation (o ∷ os) word size l
      ≡ operands_in notation os (word + number_of (base_of notation) digits * 2 ^ o.place) (size + 1 + length digits) (drop (1 + length digits) l))

-- which is so wherever they are as stated
pub first_stated : (notation : Notation) (o : Operand) (os : List Operand) (word size : ℕ) (l : List ℕ) → (operands_in notation (o ∷ os) word size l).stated ≡ true
    → FirstStated notation o os word size l
unfolding operands_in
first_stated notation o os word size l e =
    let s = stated_by _ _ e in
    let two = both (begins_with SPACE l) (says_below notation o.limit (digits_in (base_of notation) (drop 1 l))) s.0 in
    record { spaced = begun SPACE l two.0; says = two.1; others = s.1 }

operands_fit : (notation : Notation) (os : List Operand) (word size : ℕ) (l : List ℕ) → (operands_in notation os word size l).stated ≡ true
    → (size < (operands_in notation os word size l).size) × ((operands_in notation os word size l).size ≤ size + length l)
operands_fit notation [] word size l e =
    let s = last_stated notation word size l e in
    let some : length l ≡ suc (length (drop 1 l)) = ap length s.0 in
    let end : (operands_in notation [] word size l).size ≡ size + 1 = ap (λ (o : Operands). o.size) s.1 in
    (omega arith, omega arith)
operands_fit notation (o ∷ os) word size l e =
    let s = first_stated notation o os word size l e in
    let base : ℕ = base_of notation in
    let digits : List ℕ = digits_in base (drop 1 l) in
    let some : length l ≡ suc (length (drop 1 l)) = ap length s.spaced in
    let rest = operands_fit notation os (word + number_of base digits * 2 ^ o.place) (size + 1 + length digits) (drop (1 + length digits) l)
    (sym (ap (λ (o : Operands). o.stated) s.others) ∙ e) in
    let end = ap (λ (o : Operands). o.size) s.others in
    (omega (arith, rest.0, end), omega (arith, rest.1, end, front_fits (is_digit base) (drop 1 l), length-drop (1 + length digits) l))

-- ---- a line that is accepted

-- its name is a row's, what stands behind it is as stated, and that is its answer
pub record Taken (l : List ℕ) : Type 0 where
  pub named : row_named (name_in l) < 26
  pub stated : (behind_name (form_at (row_named (name_in l))) (name_in l) l).stated ≡ true
  pub answer : (let said = behind_name (form_at (row_named (name_in l))) (name_in l) l in line_of l ≡ accepted_line said.word said.size)

-- which is so wherever the line is not refused
pub taken : (l : List ℕ) → (line_of l).refusal ≡ 0 → Taken l
unfolding line_of
taken l e =
    let passed = none_refused _ _ (λ (x : Line). x.refusal) refl e in
    record {
      named = leb-false 26 _ passed.0;
      stated = not-false _ passed.1.0;
      answer = sym (passes _ _ _ passed.0 (passes _ _ _ passed.1.0 ends));
    }

-- an accepted line has a size, and the text is at least so long
pub line_fits : (l : List ℕ) → (line_of l).refusal ≡ 0 → (0 < (line_of l).size) × ((line_of l).size ≤ length l)
line_fits l e =
    let t = taken l e in
    let name = name_in l in
    let f = form_at (row_named name) in
    let fit = operands_fit f.notation f.operands f.word (length name) (drop (length name) l) t.stated in
    let size = ap (λ (x : Line). x.size) t.answer in
    (omega (arith, fit.0, size), omega (arith, fit.1, size, front_fits in_name l, length-drop (length name) l))
