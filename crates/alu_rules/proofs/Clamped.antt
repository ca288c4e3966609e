-- For the reader of specs/Width.antt, once over the width k: `bits` and `signed` undo each other, and a clamped result read back is the exact result
-- held between the bounds. Carried by the four cases of a clamp between -(t + 1) and t.
-- Assumes nothing.
use Prim.Native.Nat.{ℕ, zero, suc, ◌+◌, ◌-◌, ◌^◌, ◌<◌, ◌≤◌}
use mathlib.Core.Path.{◌≡◌, ap, ◌∙◌, sym, subst⁻¹}
use native.Mathlib.Omega.{arith}
use native.Mathlib.Nat.{pow-suc}
use borrow.Author.Tests.{lt-ltb, le-ltb}
use lib.IntN.{ℤ, pos, negsuc, sub_ℕ}
use lib.Pow.{pow_pos}
use Rattle.alu_rules.specs.Width.{signed, bits, least, greatest, within, clamped}
use Rattle.alu_rules.proofs.Integers.{either, sub_neg, pos_minus, neg_pos}

-- ---- the clamp between -(t + 1) and t

pub inside_pos : (t n : ℕ) → n ≤ t → within (negsuc t) (pos t) (pos n) ≡ pos n
unfolding within
inside_pos t n h = rw (le-ltb t n h)

pub above : (t n : ℕ) → t < n → within (negsuc t) (pos t) (pos n) ≡ pos t
unfolding within
above t n h = rw (lt-ltb t n h)

pub inside_neg : (t n : ℕ) → n ≤ t → within (negsuc t) (pos t) (negsuc n) ≡ negsuc n
unfolding within
inside_neg t n h = rw (le-ltb t n h)

pub beneath : (t n : ℕ) → t < n → within (negsuc t) (pos t) (negsuc n) ≡ negsuc t
unfolding within
beneath t n h = rw (lt-ltb t n h)

pub double : (k : ℕ) → 0 < k → 2 ^ k ≡ 2 ^ (k - 1) + 2 ^ (k - 1)
double zero h = absurd (omega arith)
double (suc k) h =
    let e : suc k - 1 ≡ k = omega arith in
    rw e (omega (arith, pow-suc 2 k))

module _ (k : ℕ) (some : 0 < k) where
  pub signed_low : (x : ℕ) → x < 2 ^ (k - 1) → signed k x ≡ pos x
  unfolding signed
  signed_low x h = rw (lt-ltb _ _ h)

  pub signed_high : (x : ℕ) → 2 ^ (k - 1) ≤ x → signed k x ≡ sub_ℕ x (2 ^ k)
  unfolding signed
  signed_high x h = rw (le-ltb _ _ h) (pos_minus x (2 ^ k))

  pub bounds : (z : ℤ) → within (least k) (greatest k) z ≡ within (negsuc (2 ^ (k - 1) - 1)) (pos (2 ^ (k - 1) - 1)) z
  bounds z = ap (λ (l : ℤ). within l (greatest k) z) (neg_pos (2 ^ (k - 1)) (pow_pos (k - 1)))

  -- y can be told from its k bits
  abbrev Fits : ℤ → Type 0
  Fits y = (signed k (bits k y) ≡ y) × (bits k y < 2 ^ k)

  fits_pos : (n : ℕ) → n < 2 ^ (k - 1) → Fits (pos n)
  unfolding bits
  fits_pos n h =
      let d = double k some in
      (signed_low n h, omega arith)

  fits_neg : (n : ℕ) → n < 2 ^ (k - 1) → Fits (negsuc n)
  unfolding bits
  fits_neg n h =
      let d = double k some in
      (signed_high (2 ^ k - suc n) (omega arith) ∙ sub_neg (2 ^ k - suc n) (2 ^ k) (omega arith) ∙ ap negsuc (omega arith), omega arith)

  within_fits : (z : ℤ) → Fits (within (least k) (greatest k) z)
  within_fits (pos n) =
      let q = pow_pos (k - 1) in
      either n (2 ^ (k - 1))
      (λ h. subst⁻¹ Fits (bounds (pos n) ∙ inside_pos _ n (omega arith)) (fits_pos n h))
      (λ h. subst⁻¹ Fits (bounds (pos n) ∙ above _ n (omega arith)) (fits_pos _ (omega arith)))
  within_fits (negsuc n) =
      let q = pow_pos (k - 1) in
      either n (2 ^ (k - 1))
      (λ h. subst⁻¹ Fits (bounds (negsuc n) ∙ inside_neg _ n (omega arith)) (fits_neg n h))
      (λ h. subst⁻¹ Fits (bounds (negsuc n) ∙ beneath _ n (omega arith)) (fits_neg _ (omega arith)))

  -- the signed number that x says has the bits of x
  pub bits_of_signed : (x : ℕ) → x < 2 ^ k → bits k (signed k x) ≡ x
  unfolding bits
  bits_of_signed x l =
      either x (2 ^ (k - 1))
      (λ h. ap (bits k) (signed_low x h))
      (λ h. ap (bits k) (signed_high x h ∙ sub_neg x _ l) ∙ omega arith)

  -- a clamped result, read, is the exact result held between the bounds
  pub signed_of_clamped : (z : ℤ) → signed k (clamped k z) ≡ within (least k) (greatest k) z
  signed_of_clamped z = (within_fits z).0

  -- so the bits of a signed number that is between the bounds already say that number
  pub signed_of_bits : (z : ℤ) → within (least k) (greatest k) z ≡ z → signed k (bits k z) ≡ z
  signed_of_bits z e = ap (λ (x : ℤ). signed k (bits k x)) (sym e) ∙ signed_of_clamped z ∙ e

  -- a clamped result has k bits
  pub clamped_lt : (z : ℤ) → clamped k z < 2 ^ k
  clamped_lt z = (within_fits z).1
