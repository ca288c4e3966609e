-- k bits rotated by two shifts, once over k.
-- Assumes nothing.
use Rattle.std.proofs.Common.{◌≡◌, ℕ, zero, suc, ◌+◌, ◌-◌, ◌*◌, ◌/◌, ◌%◌, ◌^◌, ◌<◌, ◌≤◌, ap, ◌∙◌, subst, ap₂, mod-eq_of_lt, mul-one, div-one, arith, shr_lt}
use native.Mathlib.Nat.{sub-zero, pow-zero, mod-one, mod_self, mul-mod_left}
use lib.Bits.{bit_or, or_self, or_shifted_r}
use lib.Pow.{mod-pow-add, shl-shr}
use Rattle.alu_rules.specs.Width.{rotated_right}

-- moved left by all but n of k places, x has its n low bits left
moved_left : (k n x : ℕ) → n ≤ k → x * 2 ^ (k - n) % 2 ^ k ≡ x % 2 ^ n * 2 ^ (k - n)
moved_left k n x h =
    let p = 2 ^ (k - n) in
    let t : k ≡ n + (k - n) = omega arith in
    ap (λ (j : ℕ). x * p % 2 ^ j) t ∙ mod-pow-add (x * p) n (k - n)
    ∙ ap₂ (λ (a b : ℕ). a % 2 ^ n * p + b) (shl-shr x (k - n)) (mul-mod_left x p) ∙ omega arith

-- by 0 places both shifts leave x as it is
pub rotated_by_shifts : (k n x : ℕ) → n < k → x < 2 ^ k → bit_or (x / 2 ^ n) (x * 2 ^ ((k - n) % k) % 2 ^ k) ≡ rotated_right k n x
rotated_by_shifts k zero x h l = simp (sub-zero, mod_self, pow-zero, mul-one, div-one, mod-one, mod-eq_of_lt l, or_self) (omega arith)
rotated_by_shifts k (suc n) x h l =
    let t : k ≡ k - suc n + suc n = omega arith in
    ap (λ (m : ℕ). bit_or (x / 2 ^ suc n) (x * 2 ^ m % 2 ^ k)) (mod-eq_of_lt (omega arith))
    ∙ ap (bit_or (x / 2 ^ suc n)) (moved_left k (suc n) x (omega arith))
    ∙ or_shifted_r (x % 2 ^ suc n) (k - suc n) (x / 2 ^ suc n) (shr_lt (k - suc n) (suc n) (subst (λ (j : ℕ). x < 2 ^ j) t l))
