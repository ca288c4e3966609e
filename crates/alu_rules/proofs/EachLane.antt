-- What each of the 25 instructions gives at each lane, by the operands' lanes, as document 01 numbers them: a table of a line for each row, and one
-- theorem, that the definitions keep to it. Carried by `at_words`, `at_halfwords` and `at_longs`, and by the laws of bits.
-- Assumes nothing.
use Prim.Native.Nat.{ℕ, ◌+◌, ◌*◌, ◌/◌, ◌%◌, ◌^◌, ◌<◌, min, max}
use mathlib.Core.Path.{◌≡◌, sym, ap, ap₂, ◌∙◌}
use mathlib.Core.Bool.{Bool, true, false, cond}
use mathlib.Core.Logic.{◌⊎◌, inl, inr}
use native.Mathlib.Omega.{arith}
use native.Mathlib.Nat.{lt_of_le_of_lt, two-mul}
use lib.Bits.{or_lt, and_lt}
use lib.Count.{ones_in, leading_le}
use lib.Dec.{eqb, lit<}
use lib.IntN.{ℤ, ◌+ℤ◌, ◌-ℤ◌, ◌*ℤ◌}
use lib.Pow.{mod-mod-pow, shr_le}
use Rattle.register.specs.Halves.{half, halves}
use Rattle.register.specs.declared.Register.{Register}
use Rattle.register.specs.Layout.{lane}
use Rattle.register.proofs.WordBounds.{Held}
use Rattle.register.proofs.Lanes.{word_lane, low_lane, high_lane}
use Rattle.register.proofs.Theorems.{at_halfword}
use Rattle.table.specs.Fields.{bits_of, index_of, immediate_of, constant_of}
use Rattle.table.specs.Operation.{Operation}
use Rattle.table.specs.Operation.Operation.{li, simal, simah, simsl, simsh, slmal, slmah, slmsl, slmsh}
use Rattle.table.specs.Operation.Operation.{nop, shrhi, au, cntih, ahs, or, bcw, maxws, minws, mlhu, mlhcu, and, clzw, rotw, sfwu, sfhs}
use Rattle.alu_rules.specs.Width.{signed, clamped, difference_modulo}
use Rattle.alu_rules.specs.Lane.{AU, AHS, OR, MAXWS, MINWS, MLHU, MLHCU, AND, CLZW, ROTW, SFWU, SFHS}
use Rattle.alu_rules.specs.Across.{words₁, words₂, words₃, halfwords₂, longs₃, multiply_lane}
use Rattle.alu_rules.specs.Result.{result_of}
use Rattle.alu_rules.proofs.Across.{at_words, at_halfwords, at_longs}
use Rattle.alu_rules.proofs.Bits.{bit, total, lane_lt, bit_of_lane, ones_in_le, ones_by_bits, rotated_lt}
use Rattle.alu_rules.proofs.Clamped.{clamped_lt}
use Rattle.alu_rules.proofs.Operations.{or_by_bits, and_by_bits, rotated_by_bits, larger, smaller, product_of_low_halves, product_with_field}

-- ---- the table

-- what stands at lane i: a number, or an exact result that is clamped
pub data Standing : Type 0 where
  stands : (ℕ → ℕ) → Standing
  clamps : (ℕ → ℤ) → Standing

-- lanes of how many bits, and what stands at them
pub record Lanes : Type 0 where
  pub width : ℕ
  pub at : Standing

-- as numbers of k bits
abbrev number_in : ℕ → Standing → ℕ → ℕ
number_in k (Standing.stands f) i = f i
number_in k (Standing.clamps z) i = clamped k (z i)

abbrev pub number_at : Lanes → ℕ → ℕ
number_at l i = number_in l.width l.at i

abbrev each : ℕ → (ℕ → ℕ) → Lanes
each k f = record { width = k; at = Standing.stands f }

-- "The exact result is clamped"
abbrev each_exact : ℕ → (ℕ → ℤ) → Lanes
each_exact k z = record { width = k; at = Standing.clamps z }

-- lane j of k bits "of rs3 and of rs2 are multiplied as signed numbers": in word or long i, lane 2i is the low half and lane 2i+1 the high half
abbrev product : ℕ → ℕ → Register → Register → ℤ
product k j rs2 rs3 = signed k (lane k j rs3) *ℤ signed k (lane k j rs2)

-- What MAXWS, MINWS, CLZW and a difference modulo 2^32 mean is said in Operations.antt, what `clamped` and `signed` mean in Clamped.antt.
unfoldable pub lanes_of : Operation → ℕ → Register → Register → Register → Lanes
-- "The halfword of rd with that index becomes the immediate; the other seven keep their newest value": rs1 is the old rd
lanes_of li w rs1 rs2 rs3 = each 16 (λ (i : ℕ). cond (eqb i (index_of w)) (immediate_of w) (lane 16 i rs1))
-- "In each word (long: each long) the low or high half of rs3 and of rs2 are multiplied as signed numbers, and the product is added to, or taken
-- from, rs1. The exact result is clamped"; so are those of AHS and SFHS below
lanes_of simal w rs1 rs2 rs3 = each_exact 32 (λ (i : ℕ). signed 32 (lane 32 i rs1) +ℤ product 16 (2 * i) rs2 rs3)
lanes_of simah w rs1 rs2 rs3 = each_exact 32 (λ (i : ℕ). signed 32 (lane 32 i rs1) +ℤ product 16 (2 * i + 1) rs2 rs3)
lanes_of simsl w rs1 rs2 rs3 = each_exact 32 (λ (i : ℕ). signed 32 (lane 32 i rs1) -ℤ product 16 (2 * i) rs2 rs3)
lanes_of simsh w rs1 rs2 rs3 = each_exact 32 (λ (i : ℕ). signed 32 (lane 32 i rs1) -ℤ product 16 (2 * i + 1) rs2 rs3)
lanes_of slmal w rs1 rs2 rs3 = each_exact 64 (λ (i : ℕ). signed 64 (lane 64 i rs1) +ℤ product 32 (2 * i) rs2 rs3)
lanes_of slmah w rs1 rs2 rs3 = each_exact 64 (λ (i : ℕ). signed 64 (lane 64 i rs1) +ℤ product 32 (2 * i + 1) rs2 rs3)
lanes_of slmsl w rs1 rs2 rs3 = each_exact 64 (λ (i : ℕ). signed 64 (lane 64 i rs1) -ℤ product 32 (2 * i) rs2 rs3)
lanes_of slmsh w rs1 rs2 rs3 = each_exact 64 (λ (i : ℕ). signed 64 (lane 64 i rs1) -ℤ product 32 (2 * i + 1) rs2 rs3)
-- "writes nothing": what it would write is 0
lanes_of nop w rs1 rs2 rs3 = each 32 (λ (i : ℕ). 0)
-- "by the low 4 bits of the rs2 field": bits 13..10 of the word
lanes_of shrhi w rs1 rs2 rs3 = each 16 (λ (i : ℕ). lane 16 i rs1 / 2 ^ bits_of 13 10 w)
-- "words added modulo 2^32"
lanes_of au w rs1 rs2 rs3 = each 32 (λ (i : ℕ). (lane 32 i rs1 + lane 32 i rs2) % 2 ^ 32)
-- "ones in each halfword": the sum of its sixteen bits
lanes_of cntih w rs1 rs2 rs3 = each 16 (λ (i : ℕ). total 16 (λ (j : ℕ). bit j (lane 16 i rs1)))
-- "signed halfwords added, clamped to -32768 .. 32767"
lanes_of ahs w rs1 rs2 rs3 = each_exact 16 (λ (i : ℕ). signed 16 (lane 16 i rs1) +ℤ signed 16 (lane 16 i rs2))
-- "bitwise": the larger of the two bits is set where either is
lanes_of or w rs1 rs2 rs3 = each 1 (λ (i : ℕ). max (lane 1 i rs1) (lane 1 i rs2))
-- "word 3 of rs1 in all four words"
lanes_of bcw w rs1 rs2 rs3 = each 32 (λ (i : ℕ). lane 32 3 rs1)
-- "larger signed word", "smaller signed word"
lanes_of maxws w rs1 rs2 rs3 = each 32 (λ (i : ℕ). MAXWS (lane 32 i rs1) (lane 32 i rs2))
lanes_of minws w rs1 rs2 rs3 = each 32 (λ (i : ℕ). MINWS (lane 32 i rs1) (lane 32 i rs2))
-- "low halves of words multiplied, unsigned", and "times the 5-bit rs2 field": halfword 2i is the low half of word i
lanes_of mlhu w rs1 rs2 rs3 = each 32 (λ (i : ℕ). lane 16 (2 * i) rs1 * lane 16 (2 * i) rs2)
lanes_of mlhcu w rs1 rs2 rs3 = each 32 (λ (i : ℕ). lane 16 (2 * i) rs1 * bits_of 14 10 w)
-- "bitwise": the smaller of the two bits is set where both are
lanes_of and w rs1 rs2 rs3 = each 1 (λ (i : ℕ). min (lane 1 i rs1) (lane 1 i rs2))
-- "leading zeros of each word; 32 for zero"
lanes_of clzw w rs1 rs2 rs3 = each 32 (λ (i : ℕ). CLZW (lane 32 i rs1))
-- "words rotated right by the low 5 bits of rs2's word": bit i is in word i / 32, and comes from so many places to its left, round that word
lanes_of rotw w rs1 rs2 rs3 = each 1 (λ (i : ℕ). bit ((i + lane 32 (i / 32) rs2) % 32) (lane 32 (i / 32) rs1))
-- "rs2 - rs1, words, modulo 2^32", and "signed halfwords, clamped"
lanes_of sfwu w rs1 rs2 rs3 = each 32 (λ (i : ℕ). difference_modulo 32 (lane 32 i rs2) (lane 32 i rs1))
lanes_of sfhs w rs1 rs2 rs3 = each_exact 16 (λ (i : ℕ). signed 16 (lane 16 i rs2) -ℤ signed 16 (lane 16 i rs1))

-- ---- halves

-- the lane of the half of lane i
abbrev place : Bool → ℕ → ℕ
place true i = 2 * i + 1
place false i = 2 * i

half_at : (k : ℕ) (is_high : Bool) (i : ℕ) (r : Register) → half k is_high (lane (k + k) i r) ≡ lane k (place is_high i) r
half_at k true i r = sym (ap (λ (n : ℕ). lane k (n + 1) r) (two-mul i) ∙ high_lane k i r)
half_at k false i r = sym (ap (λ (n : ℕ). lane k n r) (two-mul i) ∙ low_lane k i r)

-- ---- the multiply family, once over the width k of a half: s says whether it subtracts, h whether it takes the high half

module _ (rs1 rs2 rs3 : Register) (i : ℕ) (s h : Bool) where
  abbrev pub exact_result : ℕ → ℤ
  exact_result k =
      let x = signed (k + k) (lane (k + k) i rs1) in
      let p = product k (place h i) rs2 rs3 in
      cond s (x -ℤ p) (x +ℤ p)

  of_halves_lem : (k : ℕ) → multiply_lane k s h (lane (k + k) i rs1) (lane (k + k) i rs2) (lane (k + k) i rs3) ≡ exact_result k
  of_halves_lem k =
      let x = signed (k + k) (lane (k + k) i rs1) in
      ap₂ (λ (m n : ℕ). (let p = signed k m *ℤ signed k n in cond s (x -ℤ p) (x +ℤ p)))
      (half_at k h i rs3) (half_at k h i rs2)

-- ---- what fits

one_fits : {m x y : ℕ} → (m ≡ x) ⊎ (m ≡ y) → x < 2 ^ 32 → y < 2 ^ 32 → m < 2 ^ 32
one_fits (inl e) h l = omega arith
one_fits (inr e) h l = omega arith

-- ---- the theorem

module _ (w : ℕ) (rs1 rs2 rs3 : Register) (h1 : Held rs1) (h2 : Held rs2) (h3 : Held rs3) (i : ℕ) where
  word₁ : (f : ℕ → ℕ) → ((x : ℕ) → x < 2 ^ 32 → f x < 2 ^ 32) → 32 * i < 128 → lane 32 i (words₁ f rs1) ≡ f (lane 32 i rs1)
  word₁ f fits l = at_words (λ (x y z : ℕ). f x) (λ x y z hx hy hz. fits x hx) rs1 rs1 rs1 h1 h1 h1 i (omega arith)

  word₂ : (f : ℕ → ℕ → ℕ) → ((x y : ℕ) → x < 2 ^ 32 → y < 2 ^ 32 → f x y < 2 ^ 32)
      → (j : ℕ) → 32 * j < 128 → lane 32 j (words₂ f rs1 rs2) ≡ f (lane 32 j rs1) (lane 32 j rs2)
  word₂ f fits j l = at_words (λ (x y z : ℕ). f x y) (λ x y z hx hy hz. fits x y hx hy) rs1 rs2 rs2 h1 h2 h2 j (omega arith)

  halfword₁ : (f : ℕ → ℕ) → ((x : ℕ) → x < 2 ^ 16 → f x < 2 ^ 16) → 16 * i < 128 → lane 16 i (words₁ (halves 16 f) rs1) ≡ f (lane 16 i rs1)
  halfword₁ f fits l = at_halfwords (λ (x y : ℕ). f x) (λ x y hx hy. fits x hx) rs1 rs1 h1 h1 i (omega arith)

  -- bit i of a register is bit i % 32 of its word i / 32
  in_word : (r : Register) → lane 1 i r ≡ bit (i % 32) (lane 32 (i / 32) r)
  in_word r = bit_of_lane 32 i r (lit< tt)

  bit₂ : (f : ℕ → ℕ → ℕ) → ((x y : ℕ) → x < 2 ^ 32 → y < 2 ^ 32 → f x y < 2 ^ 32) → 1 * i < 128
      → lane 1 i (words₂ f rs1 rs2) ≡ bit (i % 32) (f (lane 32 (i / 32) rs1) (lane 32 (i / 32) rs2))
  bit₂ f fits l = in_word (words₂ f rs1 rs2) ∙ ap (bit (i % 32)) (word₂ f fits (i / 32) (omega arith))

  -- g of the exact result, where it has the lane's bits
  pub exact_halfword : (f : ℕ → ℕ → ℤ) (g : ℤ → ℕ) → ((z : ℤ) → g z < 2 ^ 16) → 16 * i < 128
      → lane 16 i (halfwords₂ (λ (x y : ℕ). g (f x y)) rs1 rs2) ≡ g (f (lane 16 i rs1) (lane 16 i rs2))
  exact_halfword f g fits l = at_halfwords (λ (x y : ℕ). g (f x y)) (λ x y hx hy. fits _) rs1 rs2 h1 h2 i (omega arith)

  pub exact_word : (s h : Bool) (g : ℤ → ℕ) → ((z : ℤ) → g z < 2 ^ 32) → 32 * i < 128
      → lane 32 i (words₃ (λ (x y z : ℕ). g (multiply_lane 16 s h x y z)) rs1 rs2 rs3) ≡ g (exact_result rs1 rs2 rs3 i s h 16)
  exact_word s h g fits l =
      at_words (λ (x y z : ℕ). g (multiply_lane 16 s h x y z)) (λ x y z hx hy hz. fits _) rs1 rs2 rs3 h1 h2 h3 i (omega arith)
      ∙ ap g (of_halves_lem rs1 rs2 rs3 i s h 16)

  pub exact_long : (s h : Bool) (g : ℤ → ℕ) → ((z : ℤ) → g z < 2 ^ 64) → 64 * i < 128
      → lane 64 i (longs₃ (λ (x y z : ℕ). g (multiply_lane 32 s h x y z)) rs1 rs2 rs3) ≡ g (exact_result rs1 rs2 rs3 i s h 32)
  exact_long s h g fits l =
      at_longs (λ (x y z : ℕ). g (multiply_lane 32 s h x y z)) (λ x y z hx hy hz. fits _) rs1 rs2 rs3 h1 h2 h3 i (omega arith)
      ∙ ap g (of_halves_lem rs1 rs2 rs3 i s h 32)

  -- every row, at every lane of the 128 bits
  pub at_each_lane : (o : Operation)
      → (let row = lanes_of o w rs1 rs2 rs3 in row.width * i < 128 → lane row.width i (result_of o w rs1 rs2 rs3).value ≡ number_at row i)
  unfolding result_of lanes_of
  at_each_lane li l = at_halfword (index_of w) (immediate_of w) (omega arith) rs1 h1 i (omega arith)
  at_each_lane simal l = exact_word false false (clamped 32) (clamped_lt 32 (lit< tt)) l
  at_each_lane simah l = exact_word false true (clamped 32) (clamped_lt 32 (lit< tt)) l
  at_each_lane simsl l = exact_word true false (clamped 32) (clamped_lt 32 (lit< tt)) l
  at_each_lane simsh l = exact_word true true (clamped 32) (clamped_lt 32 (lit< tt)) l
  at_each_lane slmal l = exact_long false false (clamped 64) (clamped_lt 64 (lit< tt)) l
  at_each_lane slmah l = exact_long false true (clamped 64) (clamped_lt 64 (lit< tt)) l
  at_each_lane slmsl l = exact_long true false (clamped 64) (clamped_lt 64 (lit< tt)) l
  at_each_lane slmsh l = exact_long true true (clamped 64) (clamped_lt 64 (lit< tt)) l
  at_each_lane nop l = word₁ (λ (x : ℕ). 0) (λ x h. lit< tt) l
  at_each_lane shrhi l =
      halfword₁ (λ (x : ℕ). x / 2 ^ (constant_of w % 2 ^ 4)) (λ x h. lt_of_le_of_lt (shr_le x _) h) l
      ∙ ap (λ (n : ℕ). lane 16 i rs1 / 2 ^ n) (mod-mod-pow (w / 2 ^ 10) 1 4)
  at_each_lane au l = word₂ AU (λ x y hx hy. omega arith) i l
  at_each_lane cntih l = halfword₁ (ones_in 16) (λ x h. lt_of_le_of_lt (ones_in_le 16 x) (lit< tt)) l ∙ ones_by_bits 16 (lane 16 i rs1)
  at_each_lane ahs l = exact_halfword AHS (clamped 16) (clamped_lt 16 (lit< tt)) l
  at_each_lane or l = bit₂ OR (or_lt 32) l ∙ or_by_bits (i % 32) _ _ ∙ sym (ap₂ max (in_word rs1) (in_word rs2))
  at_each_lane bcw l = word₁ (λ (x : ℕ). rs1.w3) (λ x h. h1.w3_fits) l ∙ sym (word_lane 3 rs1 h1)
  at_each_lane maxws l = word₂ MAXWS (λ x y hx hy. one_fits (larger x y).0 hx hy) i l
  at_each_lane minws l = word₂ MINWS (λ x y hx hy. one_fits (smaller x y).0 hx hy) i l
  at_each_lane mlhu l = word₂ MLHU (λ x y hx hy. (product_of_low_halves x y).1) i l ∙ ap₂ ◌*◌ (half_at 16 false i rs1) (half_at 16 false i rs2)
  at_each_lane mlhcu l =
      word₁ (λ (x : ℕ). MLHCU x (constant_of w)) (λ x h. (product_with_field x (constant_of w)).1) l
      ∙ ap₂ ◌*◌ (half_at 16 false i rs1) (mod-mod-pow (w / 2 ^ 10) 0 5)
  at_each_lane and l = bit₂ AND (and_lt 32) l ∙ and_by_bits (i % 32) _ _ ∙ sym (ap₂ min (in_word rs1) (in_word rs2))
  at_each_lane clzw l = word₁ CLZW (λ x h. lt_of_le_of_lt (leading_le 32 x) (lit< tt)) l
  at_each_lane rotw l =
      bit₂ ROTW (λ x y hx hy. rotated_lt 32 (y % 2 ^ 5) x (omega arith) hx) l ∙ rotated_by_bits (i % 32) _ _ (lane_lt 32 (i / 32) rs1) (omega arith)
      ∙ ap (λ (n : ℕ). bit n (lane 32 (i / 32) rs1)) (omega arith)
  at_each_lane sfwu l = word₂ SFWU (λ x y hx hy. omega arith) i l
  at_each_lane sfhs l = exact_halfword SFHS (clamped 16) (clamped_lt 16 (lit< tt)) l
