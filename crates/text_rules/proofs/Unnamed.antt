-- For the reader of specs/: exactly which words are listed as `.word`. Carried by the leading bits of a word, which tell its form, and by what that form's fields leave out.
-- Assumes nothing.
use Prim.Native.Nat.{ℕ, ◌+◌, ◌*◌, ◌/◌, ◌%◌, ◌^◌, ◌≤◌, ◌<◌}
use mathlib.Core.Path.{◌≡◌, refl, sym, ap, ◌∙◌}
use mathlib.Core.Bool.{Bool, true, false, cond, not, ◌||◌, true≢false}
use mathlib.Core.List.{List, [], ◌∷◌, map}
use native.Mathlib.Omega.{arith}
use native.Mathlib.Nat.{div-div-eq-div-mul}
use borrow.Author.Tests.{ltb-true, ltb-false, leb-false, lt-leb, eqb-true, eq-eqb, ne_eqb, not-false}
use lib.Dec.{ltb, leb, eqb}
use Rattle.table.specs.Fields.{bits_of, constant_of}
use Rattle.text_rules.specs.Forms.{Operand, rd, rs1, rs2, places, form_at}
use Rattle.text_rules.specs.Listing.{number_in, put, gives, row_giving}
use Rattle.text_rules.specs.Unnamed.{leaves_out, unnamed}
use Rattle.text_rules.proofs.Rows.{agree}
use Rattle.text_rules.proofs.Words.{multiply_base, multiply_operands, short_base, four}
use Rattle.text_rules.proofs.Giving.{row_by_bits, by_bits_li, by_bits_multiply, by_bits_above, row_small, row_giving_lem}

-- ---- a word in its fields

-- three of five bits from the lowest bit on
low_fields : (w : ℕ) → w % 0x8000 ≡ w / 2 ^ 10 % 32 * 2 ^ 10 + w / 2 ^ 5 % 32 * 2 ^ 5 + w / 2 ^ 0 % 32 * 2 ^ 0
low_fields w = let a = div-div-eq-div-mul w 32 32 in let b = div-div-eq-div-mul w 0x400 32 in omega arith

-- above them the code of four bits, and bits 22..19
short_fields : (w : ℕ) → 0x1800000 ≤ w → w < 2 ^ 25 → w ≡ 0x1800000 + w / 2 ^ 19 % 16 * 2 ^ 19 + w / 0x8000 % 16 * 0x8000 + w % 0x8000
short_fields w l u = let a = div-div-eq-div-mul w 0x8000 16 in let b = div-div-eq-div-mul w (2 ^ 19) 16 in omega arith

-- or a fourth one of five, and the three bits that choose a row
four_fields : (w : ℕ) → 0x1000000 ≤ w → w < 0x1800000
    → w ≡ 0x1000000 + w / 0x100000 % 8 * 0x100000 + w / 2 ^ 15 % 32 * 2 ^ 15 + w % 0x8000
four_fields w l u = let a = div-div-eq-div-mul w 0x8000 32 in let b = div-div-eq-div-mul w 0x100000 8 in omega arith

-- ---- over plain numbers: a word of a short code is what its line names exactly where the rest is zero

module _ (w high code third second first low : ℕ) (whole : w ≡ 0x1800000 + high * 2 ^ 19 + code * 0x8000 + low)
    (fields : low ≡ third * 2 ^ 10 + second * 2 ^ 5 + first * 2 ^ 0) where
  none_named : (0x1800000 + code * 0x8000 ≡ w → (high ≡ 0) × (low ≡ 0)) × (high ≡ 0 → low ≡ 0 → 0x1800000 + code * 0x8000 ≡ w)
  none_named = (λ e. (omega arith, omega arith), λ a b. omega arith)

  two_named : (0x1800000 + code * 0x8000 + first * 2 ^ 0 + second * 2 ^ 5 ≡ w → (high ≡ 0) × (third ≡ 0))
      × (high ≡ 0 → third ≡ 0 → 0x1800000 + code * 0x8000 + first * 2 ^ 0 + second * 2 ^ 5 ≡ w)
  two_named = (λ e. (omega arith, omega arith), λ a b. omega arith)

  three_named : (0x1800000 + code * 0x8000 + first * 2 ^ 0 + second * 2 ^ 5 + third * 2 ^ 10 ≡ w → high ≡ 0)
      × (high ≡ 0 → 0x1800000 + code * 0x8000 + first * 2 ^ 0 + second * 2 ^ 5 + third * 2 ^ 10 ≡ w)
  three_named = (λ e. omega arith, λ a. omega arith)

  -- of the third field only what is left over 16
  some_named : (left : ℕ) → left ≡ third % 16
      → (0x1800000 + code * 0x8000 + first * 2 ^ 0 + second * 2 ^ 5 + left * 2 ^ 10 ≡ w → (high ≡ 0) × (third < 16))
      × (high ≡ 0 → third < 16 → 0x1800000 + code * 0x8000 + first * 2 ^ 0 + second * 2 ^ 5 + left * 2 ^ 10 ≡ w)
  some_named left is = (λ e. (omega arith, omega arith), λ a b. omega arith)

-- ---- the sixteen short codes

-- the operands of each
abbrev named : ℕ → List Operand
named code =
    cond (eqb code 0) []
    (cond (eqb code 1) (rd ∷ rs1 ∷ places ∷ [])
    (cond (eqb code 3 || eqb code 6 || eqb code 12) (rd ∷ rs1 ∷ [])
    (rd ∷ rs1 ∷ rs2 ∷ [])))

short_operands : (code : ℕ) → code < 16 → (form_at (9 + code)).operands ≡ named code
short_operands = agree 16 (λ (code : ℕ). (form_at (9 + code)).operands) named refl

-- what these operands of a word make of the code's word
abbrev made : ℕ → List Operand → ℕ → ℕ
made code os w = put (0x1800000 + code * 0x8000) os (map (number_in w) os)

-- two tests that hold together
same_tests : (s t : Bool) → (s ≡ true → t ≡ true) → (t ≡ true → s ≡ true) → s ≡ t
same_tests true t f g = sym (f refl)
same_tests false true f g = g refl
same_tests false false f g = refl

either_fails : (s t : Bool) → not (not s || t) ≡ true → (s ≡ true) × (t ≡ false)
either_fails true true e = absurd (true≢false (sym e))
either_fails true false e = (refl, refl)
either_fails false t e = absurd (true≢false (sym e))

module _ (w code : ℕ) (above : 0x1800000 ≤ w) (below : w < 2 ^ 25) (is : w / 0x8000 % 16 ≡ code) where
  -- where the word is made again exactly when bits 22..19 and what is left out are zero
  by_rest : (os : List Operand) (t : Bool) → (made code os w ≡ w → (w / 2 ^ 19 % 16 ≡ 0) × (t ≡ false)) → (w / 2 ^ 19 % 16 ≡ 0 → t ≡ false → made code os w ≡ w)
      → eqb (made code os w) w ≡ not (not (eqb (bits_of 22 19 w) 0) || t)
  by_rest os t f g =
      same_tests (eqb (made code os w) w) (not (not (eqb (bits_of 22 19 w) 0) || t))
      (λ e. let two = f (eqb-true _ _ e) in simp (eq-eqb (bits_of 22 19 w) 0 two.0, two.1) refl)
      (λ e. let two = either_fails (eqb (bits_of 22 19 w) 0) t e in eq-eqb _ _ (g (eqb-true _ _ two.0) two.1))

  whole : w ≡ 0x1800000 + w / 2 ^ 19 % 16 * 2 ^ 19 + code * 0x8000 + w % 0x8000
  whole = short_fields w above below ∙ ap (λ (c : ℕ). 0x1800000 + w / 2 ^ 19 % 16 * 2 ^ 19 + c * 0x8000 + w % 0x8000) is

  no_operands : eqb (made code [] w) w ≡ not (not (eqb (bits_of 22 19 w) 0) || not (eqb (bits_of 14 0 w) 0))
  no_operands =
      let n = none_named w _ code _ _ _ (w % 0x8000) whole (low_fields w) in
      let low : bits_of 14 0 w ≡ w % 0x8000 = omega arith in
      by_rest [] (not (eqb (bits_of 14 0 w) 0))
      (λ e. let two = n.0 e in (two.0, ap not (eq-eqb (bits_of 14 0 w) 0 (low ∙ two.1))))
      (λ z e. n.1 z (sym low ∙ eqb-true (bits_of 14 0 w) 0 (not-false _ e)))

  two_operands : eqb (made code (rd ∷ rs1 ∷ []) w) w ≡ not (not (eqb (bits_of 22 19 w) 0) || not (eqb (constant_of w) 0))
  two_operands =
      let n = two_named w _ code _ _ _ (w % 0x8000) whole (low_fields w) in
      by_rest (rd ∷ rs1 ∷ []) (not (eqb (constant_of w) 0))
      (λ e. let two = n.0 e in (two.0, ap not (eq-eqb (constant_of w) 0 two.1)))
      (λ z e. n.1 z (eqb-true (constant_of w) 0 (not-false _ e)))

  three_operands : eqb (made code (rd ∷ rs1 ∷ rs2 ∷ []) w) w ≡ not (not (eqb (bits_of 22 19 w) 0) || false)
  three_operands =
      let n = three_named w _ code _ _ _ (w % 0x8000) whole (low_fields w) in
      by_rest (rd ∷ rs1 ∷ rs2 ∷ []) false (λ e. (n.0 e, refl)) (λ z e. n.1 z)

  few_places : eqb (made code (rd ∷ rs1 ∷ places ∷ []) w) w ≡ not (not (eqb (bits_of 22 19 w) 0) || leb 16 (constant_of w))
  few_places =
      let left : w / 2 ^ 10 % 16 ≡ w / 2 ^ 10 % 32 % 16 = omega arith in
      let n = some_named w _ code _ _ _ (w % 0x8000) whole (low_fields w) (w / 2 ^ 10 % 16) left in
      by_rest (rd ∷ rs1 ∷ places ∷ []) (leb 16 (constant_of w))
      (λ e. let two = n.0 e in (two.0, lt-leb 16 (constant_of w) two.1))
      (λ z e. n.1 z (leb-false 16 (constant_of w) e))

  each_code : eqb (made code (named code) w) w ≡ not (not (eqb (bits_of 22 19 w) 0) || leaves_out code w)
  each_code = by (eqb code 0) (eqb code 1) (eqb code 3 || eqb code 6 || eqb code 12)
    where
      by : (nop shrhi two : Bool)
          → eqb (made code (cond nop [] (cond shrhi (rd ∷ rs1 ∷ places ∷ []) (cond two (rd ∷ rs1 ∷ []) (rd ∷ rs1 ∷ rs2 ∷ [])))) w) w
          ≡ not (not (eqb (bits_of 22 19 w) 0) || cond nop (not (eqb (bits_of 14 0 w) 0)) (cond shrhi (leb 16 (constant_of w)) (cond two (not (eqb (constant_of w) 0)) false)))
      by true shrhi two = no_operands
      by false true two = few_places
      by false false true = two_operands
      by false false false = three_operands

-- ---- every word

-- a word of the multiply family is what its line names
all_named : (w k fourth third second first low : ℕ) → w ≡ 0x1000000 + k * 0x100000 + fourth * 2 ^ 15 + low → low ≡ third * 2 ^ 10 + second * 2 ^ 5 + first * 2 ^ 0
    → 0x1000000 + k * 0x100000 + first * 2 ^ 0 + second * 2 ^ 5 + third * 2 ^ 10 + fourth * 2 ^ 15 ≡ w
all_named w k fourth third second first low e f = omega arith

-- the form of a word's leading bits gives it exactly where it has a name
abbrev Given : ℕ → Type 0
Given w = gives w (form_at (row_by_bits w)) ≡ not (unnamed w)

li_given : (w : ℕ) → w < 0x1000000 → Given w
li_given w h =
    let same : put 0 (form_at 0).operands (map (number_in w) (form_at 0).operands) ≡ w = omega arith in
    ap (λ (row : ℕ). gives w (form_at row)) (by_bits_li w h) ∙ eq-eqb _ _ same
    ∙ sym (simp (ne_eqb (bits_of 24 23 w) 3 (λ z. omega arith)) refl)

multiply_given : (w : ℕ) → 0x1000000 ≤ w → w < 0x1800000 → Given w
multiply_given w l u =
    let k = w / 0x100000 % 8 in
    let small : k < 8 = omega arith in
    let same : put (0x1000000 + k * 0x100000) four (map (number_in w) four) ≡ w = all_named w k _ _ _ _ (w % 0x8000) (four_fields w l u) (low_fields w) in
    ap (λ (row : ℕ). gives w (form_at row)) (by_bits_multiply w k small (omega arith) (omega arith))
    ∙ ap (λ (word : ℕ). eqb (put word (form_at (1 + k)).operands (map (number_in w) (form_at (1 + k)).operands)) w) (multiply_base k small)
    ∙ ap (λ (os : List Operand). eqb (put (0x1000000 + k * 0x100000) os (map (number_in w) os)) w) (multiply_operands k small)
    ∙ eq-eqb _ _ same
    ∙ sym (simp (ne_eqb (bits_of 24 23 w) 3 (λ z. omega arith)) refl)

short_given : (w : ℕ) → 0x1800000 ≤ w → w < 2 ^ 25 → Given w
short_given w l u =
    let code = w / 0x8000 % 16 in
    let small : code < 16 = omega arith in
    ap (λ (row : ℕ). gives w (form_at row)) (by_bits_above w l)
    ∙ ap (λ (word : ℕ). eqb (put word (form_at (9 + code)).operands (map (number_in w) (form_at (9 + code)).operands)) w) (short_base code small)
    ∙ ap (λ (os : List Operand). eqb (made code os w) w) (short_operands code small)
    ∙ each_code w code l u refl
    ∙ sym (simp (eq-eqb (bits_of 24 23 w) 3 (omega arith)) refl)

-- Exactly these words are listed as `.word`.
pub unnamed_exactly : (w : ℕ) → w < 2 ^ 25 → eqb (row_giving w) 25 ≡ unnamed w
unnamed_exactly w h =
    ap (λ (row : ℕ). eqb row 25) (row_giving_lem w h) ∙ by (gives w (form_at (row_by_bits w))) (unnamed w) given
  where
    given : Given w
    given = at (ltb w 0x1000000) (ltb w 0x1800000) refl refl
      where
        at : (s t : Bool) → ltb w 0x1000000 ≡ s → ltb w 0x1800000 ≡ t → Given w
        at true t e f = li_given w (ltb-true w 0x1000000 e)
        at false true e f = multiply_given w (ltb-false w 0x1000000 e) (ltb-true w 0x1800000 f)
        at false false e f = short_given w (ltb-false w 0x1800000 f) h

    by : (s t : Bool) → s ≡ not t → eqb (cond s (row_by_bits w) 25) 25 ≡ t
    by true true e = absurd (true≢false e)
    by true false e = let small = row_small w in ne_eqb (row_by_bits w) 25 (λ z. omega arith)
    by false true e = refl
    by false false e = absurd (true≢false (sym e))
