-- Exact integers as differences of naturals, `sub_ℕ a b`: so a sum of integers is a sum of naturals, which omega reads.
-- Assumes nothing.
use Rattle.std.proofs.Common.{◌≡◌, ℕ, suc, ◌+◌, ◌-◌, pos, negsuc, ◌+ℤ◌, neg_ℤ, sym, ap, ◌∙◌, ap₂, arith}
use lib.IntN.{sub_ℕ, +ℤ_idl}
use Rattle.alu_rules.proofs.Integers.{either, sub_pos, sub_neg, pos_minus}

pub sub_same : (a b c d : ℕ) → a + d ≡ c + b → sub_ℕ a b ≡ sub_ℕ c d
sub_same a b c d e =
    either a b
    (λ h. sub_neg a b h ∙ ap negsuc (omega arith) ∙ sym (sub_neg c d (omega arith)))
    (λ h. sub_pos a b h ∙ ap pos (omega arith) ∙ sym (sub_pos c d (omega arith)))

-- n, and -n
pub pos_as : (n a b : ℕ) → n + b ≡ a → pos n ≡ sub_ℕ a b
pos_as n a b e = ap pos (omega arith) ∙ sym (sub_pos a b (omega arith))

neg_as : (n a b : ℕ) → a + n ≡ b → neg_ℤ (pos n) ≡ sub_ℕ a b
neg_as n a b e = sym (+ℤ_idl (neg_ℤ (pos n))) ∙ pos_minus 0 n ∙ sub_same 0 n a b (omega arith)

-- ---- sums and negation of differences

pub sub_sum : (a b c d : ℕ) → sub_ℕ a b +ℤ sub_ℕ c d ≡ sub_ℕ (a + c) (b + d)
sub_sum a b c d =
    either a b
    (λ h. either c d
    (λ l. ap₂ ◌+ℤ◌ (sub_neg a b h) (sub_neg c d l) ∙ ap negsuc (omega arith) ∙ sym (sub_neg (a + c) (b + d) (omega arith)))
    (λ l. ap₂ ◌+ℤ◌ (sub_neg a b h) (sub_pos c d l) ∙ sub_same (c - d) (suc (b - suc a)) (a + c) (b + d) (omega arith)))
    (λ h. either c d
    (λ l. ap₂ ◌+ℤ◌ (sub_pos a b h) (sub_neg c d l) ∙ sub_same (a - b) (suc (d - suc c)) (a + c) (b + d) (omega arith))
    (λ l. ap₂ ◌+ℤ◌ (sub_pos a b h) (sub_pos c d l) ∙ pos_as (a - b + (c - d)) (a + c) (b + d) (omega arith)))

pub sub_swap : (a b : ℕ) → neg_ℤ (sub_ℕ a b) ≡ sub_ℕ b a
sub_swap a b =
    either a b
    (λ h. ap neg_ℤ (sub_neg a b h) ∙ pos_as (suc (b - suc a)) b a (omega arith))
    (λ h. ap neg_ℤ (sub_pos a b h) ∙ neg_as (a - b) b a (omega arith))
