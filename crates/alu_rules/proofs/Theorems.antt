-- For the reader of specs/: "word 3 of rs1 in all four words"; "bits 22..19 have no effect": two words of short codes that agree in bits 18 to 0 are the same
-- instruction, take the same operands, and give the same value and mark to the same register; and what a word gives from its operands does not go by its rd.
-- Assumes nothing.
use Prim.Native.Nat.{ℕ, ◌+◌, ◌/◌, ◌%◌, ◌^◌}
use mathlib.Core.Path.{◌≡◌, refl, sym, ap, ◌∙◌}
use mathlib.Core.Bool.{Bool, true, false}
use mathlib.Core.List.{[], ◌∷◌, map}
use native.Mathlib.Omega.{arith}
use lib.Dec.{eqb}
use lib.ListN.{get_or, get_or-map}
use lib.Pow.{shr-shr}
use Rattle.register.specs.declared.Register.{Register}
use Rattle.register.specs.Layout.{zero_register, row_of, with_halfword}
use Rattle.table.specs.Fields.{bits_of, is_li, is_multiply, rs2_of, code_of, constant_of, first_of}
use Rattle.table.specs.declared.Edition.{Edition}
use Rattle.table.specs.Operation.{Operation, operation_of, short_rows, target_of}
use Rattle.table.specs.Operation.Operation.{nop, bcw}
use Rattle.alu_rules.specs.declared.Outcome.{Outcome}
use Rattle.alu_rules.specs.Across.{unmarked, multiplied}
use Rattle.alu_rules.specs.Result.{result_of, outcome_of}
use Rattle.alu_rules.proofs.Rows.{li_result, multiply_result, short_result}

pub broadcast : (w : ℕ) (rs1 rs2 rs3 : Register) {word : ℕ} → get_or (row_of rs1) 3 0 ≡ word → row_of (result_of bcw w rs1 rs2 rs3).value ≡ word ∷ word ∷ word ∷ word ∷ []
unfolding result_of
broadcast w rs1 rs2 rs3 e = rw e

-- of the short codes only SHRHI and MLHCU look at the word, and at its constant
short_alike : (w v : ℕ) → code_of w ≡ code_of v → constant_of w ≡ constant_of v → (a b : Register)
    → result_of (get_or short_rows (code_of w) nop) w a b zero_register ≡ result_of (get_or short_rows (code_of v) nop) v a b zero_register
unfolding result_of
short_alike w v same_code same-constant a b =
    let rows : ℕ → Operation → Outcome = λ x o. result_of o x a b zero_register in
    let alike : map (rows w) short_rows ≡ map (rows v) short_rows = rw same-constant in
    sym (get_or-map (rows w) short_rows (code_of w) nop)
    ∙ (λ i. get_or (alike i) (same_code i) (unmarked zero_register))
    ∙ get_or-map (rows v) short_rows (code_of v) nop

module _ (w v : ℕ) (w-no-li : is_li w ≡ false) (w-short : is_multiply w ≡ false) (v-no-li : is_li v ≡ false) (v-short : is_multiply v ≡ false)
    (alike : bits_of 18 0 w ≡ bits_of 18 0 v) where
  same_code : code_of w ≡ code_of v
  same_code = omega (arith, alike)

  pub same_operation : operation_of w ≡ operation_of v
  unfolding operation_of
  same_operation = rw (w-no-li, w-short, v-no-li, v-short, same_code)

  pub same_operands : (first_of w ≡ first_of v) × (rs2_of w ≡ rs2_of v)
  unfolding first_of
  same_operands =
      let rs1 : bits_of 9 5 w ≡ bits_of 9 5 v = omega (arith, alike) in
      let rs2 : bits_of 14 10 w ≡ bits_of 14 10 v = omega (arith, alike) in
      (rw (w-no-li, v-no-li) (λ i. record { 0 = rs1 i }), λ i. record { 0 = rs2 i })

  pub same_target_lem : (edition : Edition) → target_of edition w ≡ target_of edition v
  unfolding target_of
  same_target_lem edition =
      let rd : bits_of 4 0 w ≡ bits_of 4 0 v = omega (arith, alike) in
      rw (w-no-li, w-short, v-no-li, v-short, same_code, rd)

  pub same_result : (a b c d : Register) → outcome_of w a b c ≡ outcome_of v a b d
  same_result a b c d =
      let same-constant : constant_of w ≡ constant_of v = omega (arith, alike) in
      sym (short_result w refl w-no-li refl w-short a b c refl)
      ∙ short_alike w v same_code same-constant a b
      ∙ short_result v refl v-no-li refl v-short a b d refl

-- two words that agree in all bits above rd give the same value and mark from the same operands: neither belongs to where it is written
module _ (w v : ℕ) (above-rd : w / 2 ^ 5 ≡ v / 2 ^ 5) (a b c : Register) where
  -- n bits from bit 5 + k on
  same_bits : (k n : ℕ) → w / 2 ^ (5 + k) % n ≡ v / 2 ^ (5 + k) % n
  same_bits k n = ap (λ (x : ℕ). x % n) (sym (shr-shr w 5 k) ∙ ap (λ (x : ℕ). x / 2 ^ k) above-rd ∙ shr-shr v 5 k)

  pub whatever_rd : outcome_of w a b c ≡ outcome_of v a b c
  whatever_rd = by_kind (is_li w) refl (is_multiply w) refl
    where
      same_li : is_li w ≡ is_li v
      same_li = ap (λ (x : ℕ). eqb x 0) (same_bits 19 (2 ^ 1))

      same_multiply : is_multiply w ≡ is_multiply v
      same_multiply = ap (λ (x : ℕ). eqb x 2) (same_bits 18 (2 ^ 2))

      one_bit : (k : ℕ) → eqb (w / 2 ^ (5 + k) % 2 ^ 1) 1 ≡ eqb (v / 2 ^ (5 + k) % 2 ^ 1) 1
      one_bit k = ap (λ (x : ℕ). eqb x 1) (same_bits k (2 ^ 1))

      by_kind : (l : Bool) → is_li w ≡ l → (m : Bool) → is_multiply w ≡ m → outcome_of w a b c ≡ outcome_of v a b c
      by_kind true e m f =
          sym (li_result w refl e a b c refl)
          ∙ (λ i. unmarked (with_halfword (same_bits 16 (2 ^ 3) i) (same_bits 0 (2 ^ 16) i) a))
          ∙ li_result v refl (sym same_li ∙ e) a b c refl
      by_kind false e true f =
          sym (multiply_result w refl e refl f a b c refl)
          ∙ (λ i. multiplied (one_bit 17 i) (one_bit 16 i) (one_bit 15 i) a b c)
          ∙ multiply_result v refl (sym same_li ∙ e) refl (sym same_multiply ∙ f) a b c refl
      by_kind false e false f =
          sym (short_result w refl e refl f a b c refl)
          ∙ short_alike w v (same_bits 10 (2 ^ 4)) (same_bits 5 (2 ^ 5)) a b
          ∙ short_result v refl (sym same_li ∙ e) refl (sym same_multiply ∙ f) a b c refl
