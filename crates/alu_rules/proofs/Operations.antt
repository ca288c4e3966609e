-- For the reader of specs/Lane.antt: what the operations mean, said in another way than they are defined. Carried by the laws of bits, and by the
-- cases of a test.
-- Assumes nothing.
use Prim.Native.Nat.{ℕ, suc, ◌+◌, ◌-◌, ◌*◌, ◌%◌, ◌^◌, ◌≤◌, ◌<◌, min, max}
use mathlib.Core.Path.{◌≡◌, refl, sym, ap, ◌∙◌, subst}
use mathlib.Core.Bool.{Bool, true, false, not, cond}
use mathlib.Core.Logic.{◌⊎◌, inl, inr}
use native.Mathlib.Omega.{arith}
use native.Mathlib.Nat.{le_of_lt, lt_of_le_of_lt, min-le_left, max-le, add-mod-mod}
use borrow.Author.Tests.{ltb-true}
use lib.Bits.{bit_and, bit_or, and_step, and_shr, or_step, or_shr}
use lib.Count.{leading_of_zero, leading_top}
use lib.Dec.{T, le→leb, lit<}
use lib.IntN.{ℤ, pos, negsuc}
use lib.Pow.{low}
use lib.Signed.{lt_z, ◌≤ℤ◌, ≤ℤ_refl, le_z_yes, lt_z_no}
use Rattle.register.proofs.Joined.{product_fits}
use Rattle.alu_rules.specs.Width.{signed, sum_modulo, difference_modulo}
use Rattle.alu_rules.specs.Lane.{AU, OR, MAXWS, MINWS, MLHU, MLHCU, AND, CLZW, ROTW, SFWU}
use Rattle.alu_rules.proofs.Integers.{either}
use Rattle.alu_rules.proofs.Bits.{bit, bit_of_bitwise, bit_of_rotated}

-- ---- bits

-- "bitwise": a bit of OR is set where either operand's is, a bit of AND where both are
pub or_by_bits : (i a b : ℕ) → bit i (OR a b) ≡ max (bit i a) (bit i b)
or_by_bits = bit_of_bitwise bit_or max or_step or_shr (λ a b. lt_of_le_of_lt (max-le {k = 1} (omega arith) (omega arith)) (lit< tt))

pub and_by_bits : (i a b : ℕ) → bit i (AND a b) ≡ min (bit i a) (bit i b)
and_by_bits = bit_of_bitwise bit_and min and_step and_shr (λ a b. lt_of_le_of_lt (min-le_left (a % 2) (b % 2)) (omega arith))

-- "rotated right by the low 5 bits": bit i is the one that stood so many places to its left, round the word
pub rotated_by_bits : (i a b : ℕ) → a < 2 ^ 32 → i < 32 → bit i (ROTW a b) ≡ bit ((i + b) % 32) a
rotated_by_bits i a b h l = bit_of_rotated 32 (b % 2 ^ 5) a (omega arith) h i l ∙ ap (λ (n : ℕ). bit n a) (add-mod-mod i b 32)

-- ---- the larger and the smaller

less_or_equal : (x y : ℤ) → lt_z x y ≡ true → x ≤ℤ y
less_or_equal (pos a) (pos b) e = le_z_yes (le→leb a b (le_of_lt (ltb-true a b e)))
less_or_equal (pos a) (negsuc b) e = absurd (subst T (sym e) tt)
less_or_equal (negsuc a) (pos b) e = le_z_yes tt
less_or_equal (negsuc a) (negsuc b) e = le_z_yes (le→leb b a (le_of_lt (ltb-true b a e)))

-- what the test chooses, by its answer t; f is how a and b are read
module _ (f : ℕ → ℤ) (a b : ℕ) where
  no_less : (t : Bool) → lt_z (f a) (f b) ≡ t → ((cond t b a ≡ a) ⊎ (cond t b a ≡ b)) × (f a ≤ℤ f (cond t b a)) × (f b ≤ℤ f (cond t b a))
  no_less true e = (inr refl, less_or_equal _ _ e, ≤ℤ_refl _)
  no_less false e = (inl refl, ≤ℤ_refl _, lt_z_no (subst (λ (t : Bool). T (not t)) (sym e) tt))

  no_more : (t : Bool) → lt_z (f a) (f b) ≡ t → ((cond t a b ≡ a) ⊎ (cond t a b ≡ b)) × (f (cond t a b) ≤ℤ f a) × (f (cond t a b) ≤ℤ f b)
  no_more true e = (inl refl, ≤ℤ_refl _, less_or_equal _ _ e)
  no_more false e = (inr refl, lt_z_no (subst (λ (t : Bool). T (not t)) (sym e) tt), ≤ℤ_refl _)

-- "larger signed word": one of the two, and no less than either
pub larger : (a b : ℕ)
    → ((MAXWS a b ≡ a) ⊎ (MAXWS a b ≡ b)) × (signed 32 a ≤ℤ signed 32 (MAXWS a b)) × (signed 32 b ≤ℤ signed 32 (MAXWS a b))
larger a b = no_less (signed 32) a b (lt_z (signed 32 a) (signed 32 b)) refl

-- "smaller signed word": one of the two, and no more than either
pub smaller : (a b : ℕ)
    → ((MINWS a b ≡ a) ⊎ (MINWS a b ≡ b)) × (signed 32 (MINWS a b) ≤ℤ signed 32 a) × (signed 32 (MINWS a b) ≤ℤ signed 32 b)
smaller a b = no_more (signed 32) a b (lt_z (signed 32 a) (signed 32 b)) refl

-- ---- products

-- "low halves of words multiplied, unsigned": 32 bits hold the exact product, whatever the operands
pub product_of_low_halves : (a b : ℕ) → (MLHU a b ≡ a % 2 ^ 16 * (b % 2 ^ 16)) × (MLHU a b < 2 ^ 32)
product_of_low_halves a b = (refl, product_fits 16 {a = a % 2 ^ 16} (omega arith) (omega arith))

-- "low halves times the 5-bit rs2 field, unsigned"
pub product_with_field : (a field : ℕ) → (MLHCU a field ≡ a % 2 ^ 16 * (field % 2 ^ 5)) × (MLHCU a field < 2 ^ 32)
product_with_field a field = (refl, product_fits 16 {a = a % 2 ^ 16} (omega arith) (omega arith))

-- ---- differences

remainder : (k q r : ℕ) {n : ℕ} → n ≡ q * 2 ^ k + r → r < 2 ^ k → n % 2 ^ k ≡ r
remainder k q r e h = ap (λ (n : ℕ). n % 2 ^ k) e ∙ low q k h

-- a - b, with b added to it again, is a
pub difference_and_sum : (k a b : ℕ) → a < 2 ^ k → b < 2 ^ k → sum_modulo k (difference_modulo k a b) b ≡ a
difference_and_sum k a b h l =
    either a b
    (λ m. ap (λ (d : ℕ). sum_modulo k d b) (remainder k 0 (a + 2 ^ k - b) (omega arith) (omega arith)) ∙ remainder k 1 a (omega arith) h)
    (λ m. ap (λ (d : ℕ). sum_modulo k d b) (remainder k 1 (a - b) (omega arith) (omega arith)) ∙ remainder k 0 a (omega arith) h)

-- "rs2 - rs1, words, modulo 2^32": with rs1 added to it again it is rs2
pub subtracted_from : (a b : ℕ) → a < 2 ^ 32 → b < 2 ^ 32 → AU (SFWU a b) a ≡ b
subtracted_from a b h l = difference_and_sum 32 b a l h

-- ---- leading zeros

pub leading_zeros_of_zero : CLZW 0 ≡ 32
leading_zeros_of_zero = leading_of_zero 32

-- below the leading zeros stand the highest one, of weight 2^j, and j bits more
pub leading_zeros_end : (w : ℕ) → 0 < w → w < 2 ^ 32 → (j : ℕ) × (CLZW w + suc j ≡ 32) × (2 ^ j ≤ w) × (w < 2 ^ suc j)
leading_zeros_end w some fits = leading_top 32 w some fits
