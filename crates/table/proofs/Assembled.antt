-- For the reader of specs/Fields.antt: a word put together from its fields, as document 01 lines them up, has these fields. Carried by one law over fields of any
-- widths, side by side.
-- Assumes nothing.
use Prim.Native.Nat.{ℕ, zero, suc, ◌+◌, ◌*◌, ◌/◌, ◌%◌, ◌^◌, ◌<◌}
use mathlib.Core.Path.{◌≡◌, refl, ap, sym, ◌∙◌}
use mathlib.Core.Bool.{true, false}
use mathlib.Core.List.{List, [], ◌∷◌}
use native.Mathlib.Omega.{arith}
use native.Mathlib.Nat.{div-one}
use borrow.Author.Tests.{eq-eqb, ne_eqb}
use lib.Dec.{eqb}
use lib.Pow as pow
use Rattle.table.specs.Fields.{bits_of, is_li, index_of, immediate_of, rd_of, is_multiply, is_long, is_subtract, is_high, rs3_of, rs2_of, rs1_of, code_of, constant_of}

-- ---- fields side by side, the lowest first: of each its width and its value

pub record Field : Type 0 where
  pub width : ℕ
  pub value : ℕ

abbrev pub field : ℕ → ℕ → Field
field width value = record { width = width; value = value }

abbrev pub together : List Field → ℕ
together [] = 0
together (f ∷ fs) = together fs * 2 ^ f.width + f.value

abbrev pub Fit : List Field → Type 0
Fit [] = Unit {0}
Fit (f ∷ fs) = (f.value < 2 ^ f.width) × Fit fs

-- field i, and where it begins
abbrev nth : ℕ → List Field → Field
nth i [] = field 0 0
nth zero (f ∷ fs) = f
nth (suc i) (f ∷ fs) = nth i fs

abbrev from : ℕ → List Field → ℕ
from i [] = 0
from zero (f ∷ fs) = 0
from (suc i) (f ∷ fs) = f.width + from i fs

field_at : (i : ℕ) (fs : List Field) → Fit fs → together fs / 2 ^ from i fs % 2 ^ (nth i fs).width ≡ (nth i fs).value
field_at i [] h = refl
field_at zero (f ∷ fs) h = ap (λ (n : ℕ). n % 2 ^ f.width) (div-one _) ∙ pow.low (together fs) f.width h.0
field_at (suc i) (f ∷ fs) h =
    ap (λ (n : ℕ). n % 2 ^ (nth i fs).width)
    (sym (pow.shr-shr _ f.width (from i fs)) ∙ ap (λ (n : ℕ). n / 2 ^ from i fs) (pow.high (together fs) f.width h.0))
    ∙ field_at i fs h.1

-- ---- the three kinds of words

-- bit 24 is the higher of bits 24..23
top_bit : (w top : ℕ) → bits_of 24 23 w ≡ top → 1 < top → is_li w ≡ false
top_bit w top e h = ne_eqb (bits_of 24 24 w) 0 (λ none. omega arith)

-- "Bit 24 = 0: li. Bits 23..21 index, 20..5 immediate, 4..0 rd"
module _ (index immediate rd : ℕ) (hi : index < 2 ^ 3) (hm : immediate < 2 ^ 16) (hd : rd < 2 ^ 5) where
  abbrev pub li_word : List Field
  li_word = field 5 rd ∷ field 16 immediate ∷ field 3 index ∷ field 1 0 ∷ []

  pub li_fields : (let w = together li_word in (is_li w ≡ true) × (index_of w ≡ index) × (immediate_of w ≡ immediate) × ((rd_of w).0 ≡ rd))
  li_fields =
      let at : (i : ℕ) → together li_word / 2 ^ from i li_word % 2 ^ (nth i li_word).width ≡ (nth i li_word).value
      = λ i. field_at i li_word (hd, (hm, (hi, (omega arith, tt)))) in
      (eq-eqb (bits_of 24 24 (together li_word)) 0 (at 3), at 2, at 1, at 0)

-- "Bits 24..23 = 10: multiply-add or subtract. Bit 22 long, bit 21 subtract, bit 20 high; then rs3 (19..15), rs2 (14..10), rs1 (9..5), rd (4..0)"
module _ (long subtract high rs3 rs2 rs1 rd : ℕ) (hl : long < 2 ^ 1) (hs : subtract < 2 ^ 1) (hh : high < 2 ^ 1)
    (h3 : rs3 < 2 ^ 5) (h2 : rs2 < 2 ^ 5) (h1 : rs1 < 2 ^ 5) (hd : rd < 2 ^ 5) where
  abbrev pub multiply_word : List Field
  multiply_word = field 5 rd ∷ field 5 rs1 ∷ field 5 rs2 ∷ field 5 rs3 ∷ field 1 high ∷ field 1 subtract ∷ field 1 long ∷ field 2 2 ∷ []

  pub multiply_fields : (let w = together multiply_word in
      (is_li w ≡ false) × (is_multiply w ≡ true) × (is_long w ≡ eqb long 1) × (is_subtract w ≡ eqb subtract 1) × (is_high w ≡ eqb high 1)
      × ((rs3_of w).0 ≡ rs3) × ((rs2_of w).0 ≡ rs2) × ((rs1_of w).0 ≡ rs1) × ((rd_of w).0 ≡ rd))
  multiply_fields =
      let w = together multiply_word in
      let at : (i : ℕ) → w / 2 ^ from i multiply_word % 2 ^ (nth i multiply_word).width ≡ (nth i multiply_word).value
      = λ i. field_at i multiply_word (hd, (h1, (h2, (h3, (hh, (hs, (hl, (omega arith, tt)))))))) in (
        top_bit w 2 (at 7) (omega arith),
        eq-eqb (bits_of 24 23 w) 2 (at 7),
        ap (λ (x : ℕ). eqb x 1) (at 6),
        ap (λ (x : ℕ). eqb x 1) (at 5),
        ap (λ (x : ℕ). eqb x 1) (at 4),
        at 3,
        at 2,
        at 1,
        at 0,
      )

-- "Bits 24..23 = 11: bits 18..15 choose, bits 22..19 have no effect, then rs2, rs1, rd": the rs2 field is a number for SHRHI and MLHCU
module _ (unused code rs2 rs1 rd : ℕ) (hu : unused < 2 ^ 4) (hc : code < 2 ^ 4) (h2 : rs2 < 2 ^ 5) (h1 : rs1 < 2 ^ 5) (hd : rd < 2 ^ 5) where
  abbrev pub short_word : List Field
  short_word = field 5 rd ∷ field 5 rs1 ∷ field 5 rs2 ∷ field 4 code ∷ field 4 unused ∷ field 2 3 ∷ []

  pub short_fields : (let w = together short_word in
      (is_li w ≡ false) × (is_multiply w ≡ false) × (code_of w ≡ code) × ((rs2_of w).0 ≡ rs2) × (constant_of w ≡ rs2) × ((rs1_of w).0 ≡ rs1) × ((rd_of w).0 ≡ rd))
  short_fields =
      let w = together short_word in
      let at : (i : ℕ) → w / 2 ^ from i short_word % 2 ^ (nth i short_word).width ≡ (nth i short_word).value
      = λ i. field_at i short_word (hd, (h1, (h2, (hc, (hu, (omega arith, tt)))))) in (
        top_bit w 3 (at 5) (omega arith),
        ne_eqb (bits_of 24 23 w) 2 (λ e. omega (arith, at 5)),
        at 3,
        at 2,
        at 2,
        at 1,
        at 0,
      )
