-- Exact integers as differences of naturals, `sub_ℕ a b`. Carried by the test whether a is below b.
-- Assumes nothing.
use Prim.Native.Nat.{ℕ, zero, suc, ◌-◌, ◌≤◌, ◌<◌}
use mathlib.Core.Path.{◌≡◌, refl, sym, ap, ◌∙◌}
use native.Mathlib.Omega.{arith}
use borrow.Author.Tests.{lt-ltb, le-ltb}
use Rattle.std.proofs.Common.{⊎_elim}
use Rattle.std.proofs.lemmas.Bool.{cases_lt}
use lib.IntN.{pos, negsuc, neg_ℤ, sub_ℕ, ◌-ℤ◌}

-- a is below b, or it is not
pub either : (a b : ℕ) {P : Type 0} → (a < b → P) → (b ≤ a → P) → P
either a b below above = ⊎_elim below above (cases_lt a b)

pub sub_pos : (a b : ℕ) → b ≤ a → sub_ℕ a b ≡ pos (a - b)
sub_pos a b h = rw (le-ltb a b h)

pub sub_neg : (a b : ℕ) → a < b → sub_ℕ a b ≡ negsuc (b - suc a)
sub_neg a b h = rw (lt-ltb a b h)

pub pos_minus : (a b : ℕ) → pos a -ℤ pos b ≡ sub_ℕ a b
pos_minus a zero = ap pos (omega arith) ∙ sym (sub_pos a 0 (omega arith))
pos_minus a (suc b) = refl

pub neg_pos : (n : ℕ) → 0 < n → neg_ℤ (pos n) ≡ negsuc (n - 1)
neg_pos zero h = absurd (omega arith)
neg_pos (suc n) h = ap negsuc (omega arith)
