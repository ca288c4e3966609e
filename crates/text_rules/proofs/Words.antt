-- For the reader of the table of forms, beside the instruction table: the word of a line is of the row that its name says, each number that is named stands in the
-- field that the table reads for it, and the other fields are zero. Carried by tests computed over the rows, and by one law on numbers in fields of five bits.
-- Assumes nothing.
use Prim.Native.Nat.{ℕ, zero, suc, ◌+◌, ◌-◌, ◌*◌, ◌/◌, ◌%◌, ◌^◌, ◌≤◌, ◌<◌}
use mathlib.Core.Path.{◌≡◌, refl, sym, ap, subst, ◌∙◌}
use mathlib.Core.Bool.{Bool, true, false, not, ◌&&◌, ◌||◌}
use mathlib.Core.List.{List, [], ◌∷◌, map}
use native.Mathlib.Omega.{arith}
use native.Mathlib.Nat.{add-zero, zero-mul, add-mul, mul_assoc, mul_comm}
use native.Mathlib.Numerals.{one-add}
use borrow.Author.Tests.{eqb-true, leb-true, ltb-true, ltb-false}
use lib.Dec.{eqb, leb, ltb}
use lib.ListN.{length, get_or, drop}
use lib.Seq.{get_or-drop}
use lib.Pow.{pow-add}
use Rattle.table.specs.Fields.{bits_of, rd_of, rs1_of, rs2_of, rs3_of, index_of, immediate_of, constant_of}
use Rattle.table.specs.Operation.{Operation, multiply_row, short_rows, operation_of, reads_of, takes_first, takes_second, takes_third}
use Rattle.table.specs.Operation.Operation.{li, simal, simah, simsl, simsh, slmal, slmah, slmsl, slmsh, nop}
use Rattle.table.proofs.Rows.{li_word_lem, multiply_word_lem, short_word_lem}
use Rattle.table.proofs.Theorems.{nop?}
use Rattle.table.proofs.Assembled.{together, li_word, li_fields, multiply_word, multiply_fields, short_word, short_fields}
use Rattle.text_rules.specs.Forms.{Operand, rd, index, immediate, rs1, rs2, rs3, form_at}
use Rattle.text_rules.specs.Listing.{put}
use Rattle.text_rules.proofs.Written.{Below, word_of}
use Rattle.text_rules.proofs.Rows.{both, every, agree}

-- ---- li

pub record IsLi (w d i m : ℕ) : Type 0 where
  pub operation : operation_of w ≡ li
  pub in_rd : (rd_of w).0 ≡ d
  pub in_index : index_of w ≡ i
  pub in_immediate : immediate_of w ≡ m

-- `li rd index immediate` is a word of li, with its numbers in li's fields.
pub li_words : (d i m : ℕ) → d < 32 → i < 8 → m < 65536 → IsLi (word_of 0 (d ∷ i ∷ m ∷ [])) d i m
li_words d i m hd hi hm =
    let e : together (li_word i m d hi hm hd) ≡ word_of 0 (d ∷ i ∷ m ∷ []) = omega arith in
    let f = li_fields i m d hi hm hd in
    subst (λ (w : ℕ). IsLi w d i m) e (record { operation = li_word_lem _ refl f.0; in_rd = f.3; in_index = f.1; in_immediate = f.2 })

-- ---- the multiply family

-- the words of its eight rows, in the order of their bits, and the operands that all of them have
pub multiply_base : (k : ℕ) → k < 8 → (form_at (1 + k)).word ≡ 0x1000000 + k * 0x100000
multiply_base = agree 8 (λ (k : ℕ). (form_at (1 + k)).word) (λ (k : ℕ). 0x1000000 + k * 0x100000) refl

abbrev pub four : List Operand
four = rd ∷ rs1 ∷ rs2 ∷ rs3 ∷ []

pub multiply_operands : (k : ℕ) → k < 8 → (form_at (1 + k)).operands ≡ four
multiply_operands = agree 8 (λ (k : ℕ). (form_at (1 + k)).operands) (λ (_ : ℕ). four) refl

pub record IsMultiply (w long subtract high d s1 s2 s3 : ℕ) : Type 0 where
  pub operation : operation_of w ≡ multiply_row (eqb long 1) (eqb subtract 1) (eqb high 1)
  pub in_rd : (rd_of w).0 ≡ d
  pub in_rs1 : (rs1_of w).0 ≡ s1
  pub in_rs2 : (rs2_of w).0 ≡ s2
  pub in_rs3 : (rs3_of w).0 ≡ s3

module _ (long subtract high d s1 s2 s3 : ℕ) (hl : long < 2) (hs : subtract < 2) (hh : high < 2)
    (hd : d < 32) (h1 : s1 < 32) (h2 : s2 < 32) (h3 : s3 < 32) where
  -- "Bit 22 long, bit 21 subtract, bit 20 high": a line of the multiply family is a word of its row, with its numbers in rd, rs1, rs2 and rs3.
  pub multiply_words : IsMultiply (word_of (1 + (4 * long + 2 * subtract + high)) (d ∷ s1 ∷ s2 ∷ s3 ∷ [])) long subtract high d s1 s2 s3
  multiply_words =
      let k = 4 * long + 2 * subtract + high in
      let vs = d ∷ s1 ∷ s2 ∷ s3 ∷ [] in
      let small : k < 8 = omega arith in
      let e : together (multiply_word long subtract high s3 s2 s1 d hl hs hh h3 h2 h1 hd) ≡ put (0x1000000 + k * 0x100000) four vs = omega arith in
      let f = multiply_fields long subtract high s3 s2 s1 d hl hs hh h3 h2 h1 hd in
      subst (λ (w : ℕ). IsMultiply w long subtract high d s1 s2 s3) (e ∙ sym (λ i. put (multiply_base k small i) (multiply_operands k small i) vs)) (record {
        operation = multiply_word_lem _ refl f.0 refl f.1 ∙ (λ i. multiply_row (f.2 i) (f.3 i) (f.4 i));
        in_rd = f.8;
        in_rs1 = f.7;
        in_rs2 = f.6;
        in_rs3 = f.5;
      })

-- ---- numbers side by side in fields of five bits

abbrev pub packed : List ℕ → ℕ
packed [] = 0
packed (v ∷ vs) = packed vs * 2 ^ 5 + v

-- operands with a field of five bits each, the first one at this place
abbrev pub in_fields : ℕ → List Operand → Bool
in_fields place [] = true
in_fields place (o ∷ os) = eqb o.place place && leb o.limit (2 ^ 5) && in_fields (place + 5) os

at_its_place : (word v p x : ℕ) → word + v * p + x * (p * 2 ^ 5) ≡ word + (x * 2 ^ 5 + v) * p
at_its_place word v p x = omega (arith, add-mul (x * 2 ^ 5) v p, mul_assoc x p (2 ^ 5), mul_assoc x (2 ^ 5) p, mul_comm p (2 ^ 5))

pub first_field : (o : Operand) (os : List Operand) (place : ℕ) → in_fields place (o ∷ os) ≡ true
    → (o.place ≡ place) × (o.limit ≤ 2 ^ 5) × (in_fields (place + 5) os ≡ true)
first_field o os place f =
    let s = both (eqb o.place place && leb o.limit (2 ^ 5)) (in_fields (place + 5) os) f in
    let t = both (eqb o.place place) (leb o.limit (2 ^ 5)) s.0 in
    (eqb-true _ _ t.0, leb-true _ _ t.1, s.1)

-- so the numbers are added to the word side by side
pub put_packed : (os : List Operand) (place word : ℕ) (vs : List ℕ) → in_fields place os ≡ true → Below os vs → put word os vs ≡ word + packed vs * 2 ^ place
put_packed [] place word [] f b = sym (ap (λ (n : ℕ). word + n) (zero-mul (2 ^ place)) ∙ add-zero word)
put_packed [] place word (v ∷ vs) f b = absurd b
put_packed (o ∷ os) place word [] f b = absurd b
put_packed (o ∷ os) place word (v ∷ vs) f b =
    let s = first_field o os place f in
    ap (λ (p : ℕ). put (word + v * 2 ^ p) os vs) s.0
    ∙ put_packed os (place + 5) (word + v * 2 ^ place) vs s.2 b.1
    ∙ ap (λ (p : ℕ). word + v * 2 ^ place + packed vs * p) (pow-add 2 place 5)
    ∙ at_its_place word v (2 ^ place) (packed vs)

-- and each of them fits its field; where none is named the field is zero
fits_field : (os : List Operand) (place : ℕ) (vs : List ℕ) → in_fields place os ≡ true → Below os vs → (i : ℕ) → get_or vs i 0 < 2 ^ 5
fits_field [] place [] f b i = omega arith
fits_field [] place (v ∷ vs) f b i = absurd b
fits_field (o ∷ os) place [] f b i = absurd b
fits_field (o ∷ os) place (v ∷ vs) f b zero = omega (arith, b.0, (first_field o os place f).1)
fits_field (o ∷ os) place (v ∷ vs) f b (suc i) = fits_field os (place + 5) vs (first_field o os place f).2 b.1 i

one_each : (os : List Operand) (vs : List ℕ) → Below os vs → length vs ≡ length os
one_each [] [] b = refl
one_each [] (v ∷ vs) b = absurd b
one_each (o ∷ os) [] b = absurd b
one_each (o ∷ os) (v ∷ vs) b = ap suc (one_each os vs b.1)

-- ---- the sixteen short codes

-- the word of each; and its operands, at most three, are in rd, rs1 and rs2
pub short_base : (code : ℕ) → code < 16 → (form_at (9 + code)).word ≡ 0x1800000 + code * 0x8000
short_base = agree 16 (λ (code : ℕ). (form_at (9 + code)).word) (λ (code : ℕ). 0x1800000 + code * 0x8000) refl

short_in_fields : (code : ℕ) → code < 16 → in_fields 0 (form_at (9 + code)).operands ≡ true
short_in_fields = agree 16 (λ (code : ℕ). in_fields 0 (form_at (9 + code)).operands) (λ (_ : ℕ). true) refl

pub short_few : (code : ℕ) → code < 16 → leb (length (form_at (9 + code)).operands) 3 ≡ true
short_few = agree 16 (λ (code : ℕ). leb (length (form_at (9 + code)).operands) 3) (λ (_ : ℕ). true) refl

up_to_three : (vs : List ℕ) → length vs ≤ 3 → packed vs ≡ packed (get_or vs 0 0 ∷ get_or vs 1 0 ∷ get_or vs 2 0 ∷ [])
up_to_three [] h = refl
up_to_three (a ∷ []) h = refl
up_to_three (a ∷ b ∷ []) h = refl
up_to_three (a ∷ b ∷ c ∷ []) h = refl
up_to_three (a ∷ b ∷ c ∷ d ∷ vs) h = absurd (omega arith)

pub record IsShort (w code d s1 s2 : ℕ) : Type 0 where
  pub operation : operation_of w ≡ get_or short_rows code nop
  pub in_rd : (rd_of w).0 ≡ d
  pub in_rs1 : (rs1_of w).0 ≡ s1
  pub in_rs2 : (rs2_of w).0 ≡ s2
  pub in_constant : constant_of w ≡ s2
  pub unused : bits_of 22 19 w ≡ 0

assembled_short : (code d s1 s2 : ℕ) → code < 16 → d < 2 ^ 5 → s1 < 2 ^ 5 → s2 < 2 ^ 5
    → IsShort (0x1800000 + code * 0x8000 + packed (d ∷ s1 ∷ s2 ∷ []) * 2 ^ 0) code d s1 s2
assembled_short code d s1 s2 hc hd h1 h2 =
    let e : together (short_word 0 code s2 s1 d (omega arith) hc h2 h1 hd) ≡ 0x1800000 + code * 0x8000 + packed (d ∷ s1 ∷ s2 ∷ []) * 2 ^ 0 = omega arith in
    let f = short_fields 0 code s2 s1 d (omega arith) hc h2 h1 hd in
    subst (λ (w : ℕ). IsShort w code d s1 s2) e (record {
      operation = short_word_lem _ refl f.0 refl f.1 ∙ ap (λ (k : ℕ). get_or short_rows k nop) f.2;
      in_rd = f.6;
      in_rs1 = f.5;
      in_rs2 = f.3;
      in_constant = f.4;
      unused = omega arith;
    })

-- A line of the sixteen short codes is a word of its row: its numbers are rd, rs1 and the rs2 field, in that order; fields not named are zero, bits 22..19 too.
pub short_words : (code : ℕ) (vs : List ℕ) → code < 16 → Below (form_at (9 + code)).operands vs
    → IsShort (word_of (9 + code) vs) code (get_or vs 0 0) (get_or vs 1 0) (get_or vs 2 0)
short_words code vs h b =
    let f = form_at (9 + code) in
    let few : length vs ≤ 3 = omega (arith, leb-true (length f.operands) 3 (short_few code h), one_each f.operands vs b) in
    let fields = short_in_fields code h in
    let at = fits_field f.operands 0 vs fields b in
    let e : word_of (9 + code) vs ≡ 0x1800000 + code * 0x8000 + packed (get_or vs 0 0 ∷ get_or vs 1 0 ∷ get_or vs 2 0 ∷ []) * 2 ^ 0
    = put_packed f.operands 0 f.word vs fields b ∙ (λ i. short_base code h i + up_to_three vs few i * 2 ^ 0) in
    subst (λ (w : ℕ). IsShort w code (get_or vs 0 0) (get_or vs 1 0) (get_or vs 2 0)) (sym e)
    (assembled_short code (get_or vs 0 0) (get_or vs 1 0) (get_or vs 2 0) h (at 0) (at 1) (at 2))

-- ---- every row

-- the 25 operations in the order of the rows
abbrev pub rows : List Operation
rows = li ∷ simal ∷ simah ∷ simsl ∷ simsh ∷ slmal ∷ slmah ∷ slmsl ∷ slmsh ∷ short_rows

bits_choose : (k : ℕ) → k < 8 → multiply_row (eqb (k / 4) 1) (eqb (k / 2 % 2) 1) (eqb (k % 2) 1) ≡ get_or rows (1 + k) nop
bits_choose = agree 8 (λ (k : ℕ). multiply_row (eqb (k / 4) 1) (eqb (k / 2 % 2) 1) (eqb (k % 2) 1)) (λ (k : ℕ). get_or rows (1 + k) nop) refl

-- numbers one after another, as many as there are operands
abbrev pub listed : List Operand → List ℕ → List ℕ
listed [] vs = []
listed (o ∷ os) vs = get_or vs 0 0 ∷ listed os (drop 1 vs)

all_listed : (os : List Operand) (vs : List ℕ) → Below os vs → listed os vs ≡ vs
all_listed [] [] b = refl
all_listed [] (v ∷ vs) b = absurd b
all_listed (o ∷ os) [] b = absurd b
all_listed (o ∷ os) (v ∷ vs) b = ap (λ (l : List ℕ). v ∷ l) (all_listed os vs b.1)

-- so that a claim about all numbers below their limits can be shown of these
pub for_listed : (os : List Operand) (P : List ℕ → Type 0) → ((vs : List ℕ) → Below os (listed os vs) → P (listed os vs)) → (vs : List ℕ) → Below os vs → P vs
for_listed os P each vs b = let e = all_listed os vs b in subst P e (each vs (subst (Below os) (sym e) b))

-- a row is li's, one of the multiply family or a short code's
pub of_three_kinds : (P : ℕ → Type 0) → P 0 → ((k : ℕ) → k < 8 → P (1 + k)) → ((code : ℕ) → code < 16 → P (9 + code)) → (row : ℕ) → row < 25 → P row
of_three_kinds P first multiply short zero h = first
of_three_kinds P first multiply short (suc k) h = go (ltb k 8) refl
  where
    go : (t : Bool) → ltb k 8 ≡ t → P (suc k)
    go true e = subst P (one-add k) (multiply k (ltb-true k 8 e))
    go false e =
        let more = ltb-false k 8 e in
        let at : 9 + (k - 8) ≡ suc k = omega arith in
        subst P at (short (k - 8) (omega arith))

abbrev pub OfItsRow : ℕ → Type 0
OfItsRow row = (vs : List ℕ) → Below (form_at row).operands vs → operation_of (word_of row vs) ≡ get_or rows row nop

multiply_row_lem : (k : ℕ) → k < 8 → OfItsRow (1 + k)
multiply_row_lem k h vs b =
    let e : 4 * (k / 4) + 2 * (k / 2 % 2) + k % 2 ≡ k = omega arith in
    for_listed four (λ (vs : List ℕ). operation_of (word_of (1 + k) vs) ≡ get_or rows (1 + k) nop) (λ vs b.
    ap (λ (j : ℕ). operation_of (word_of (1 + j) (listed four vs))) (sym e)
    ∙ (multiply_words (k / 4) (k / 2 % 2) (k % 2) _ _ _ _ (omega arith) (omega arith) (omega arith) b.0 b.1.0 b.1.1.0 b.1.1.1.0).operation
    ∙ bits_choose k h) vs (subst (λ (os : List Operand). Below os vs) (multiply_operands k h) b)

-- The word of every line is of the operation that stands in its row.
pub word_of_its_row : (row : ℕ) → row < 25 → OfItsRow row
word_of_its_row =
    of_three_kinds OfItsRow
    (for_listed (rd ∷ index ∷ immediate ∷ []) (λ (vs : List ℕ). operation_of (word_of 0 vs) ≡ li) (λ vs b. (li_words _ _ _ b.0 b.1.0 b.1.1.0).operation))
    multiply_row_lem
    (λ code h vs b. (short_words code vs h b).operation ∙ get_or-drop 9 rows code nop)

-- ---- what a row names

-- whether an operand of a row stands at this place
abbrev pub names : ℕ → ℕ → Bool
names row place = not (every (λ (o : Operand). not (eqb o.place place)) (form_at row).operands)

-- whether it names rd, rs1, the rs2 field and rs3
abbrev pub named : ℕ → List Bool
named row = map (names row) (0 ∷ 5 ∷ 10 ∷ 15 ∷ [])

-- what the instruction table writes and reads; the rs2 field is a number for SHRHI and MLHCU, rows 10 and 19
abbrev pub used : ℕ → List Bool
used row =
    let o = get_or rows row nop in
    not (nop? o) ∷ takes_first (reads_of o) ∷ (takes_second (reads_of o) || eqb row 10 || eqb row 19) ∷ takes_third (reads_of o) ∷ []

-- Every row but li names exactly the fields that the instruction table uses.
pub names_what_is_used : (k : ℕ) → k < 24 → named (1 + k) ≡ used (1 + k)
names_what_is_used = agree 24 (λ (k : ℕ). named (1 + k)) (λ (k : ℕ). used (1 + k)) refl
