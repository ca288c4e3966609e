-- Bit by bit, once over the width. Carried by one law: bits of a number are those of its k low bits, wherever they are below bit k.
-- Assumes nothing.
use Prim.Native.Nat.{ℕ, zero, suc, ◌+◌, ◌-◌, ◌*◌, ◌/◌, ◌%◌, ◌^◌, ◌≤◌, ◌<◌}
use mathlib.Core.Path.{◌≡◌, refl, sym, ap, ap₂, ◌∙◌, subst}
use native.Mathlib.Omega.{arith}
use native.Mathlib.Nat.{add_comm, one-mul, div-one, mod-lt, mod-eq_of_lt, div-add-mod}
use native.Mathlib.Numerals.{one-add}
use lib.Arith.{digits_lt, digits_mod}
use lib.Count.{ones_in}
use lib.Pow as pow
use Rattle.register.specs.declared.Register.{Register}
use Rattle.register.specs.Layout.{number, lane}
use Rattle.alu_rules.specs.Width.{rotated_right}
use Rattle.alu_rules.proofs.Integers.{either}

-- bit i of x: 0 or 1
abbrev pub bit : ℕ → ℕ → ℕ
bit i x = x / 2 ^ i % 2

-- d bits from bit n on, of a number and of its k low bits
pub field_of_low : (k n d x : ℕ) → n + d ≤ k → x % 2 ^ k / 2 ^ n % 2 ^ d ≡ x / 2 ^ n % 2 ^ d
field_of_low k n d x h =
    let m = k - (n + d) in
    let e : k ≡ m + d + n = omega arith in
    ap (λ (j : ℕ). x % 2 ^ j / 2 ^ n % 2 ^ d) e ∙ ap (λ (j : ℕ). j % 2 ^ d) (pow.field x (m + d) n) ∙ pow.mod-mod-pow (x / 2 ^ n) m d

pub bit_of_low : (k i x : ℕ) → i < k → bit i (x % 2 ^ k) ≡ bit i x
bit_of_low k i x h = field_of_low k i 1 x (omega arith)

pub lane_lt : (k i : ℕ) (r : Register) → lane k i r < 2 ^ k
unfolding lane
lane_lt k i r = mod-lt _ (pow.pow_pos k)

-- bit i of a register is bit i % k of lane i / k
pub bit_of_lane : (k i : ℕ) (r : Register) → 0 < k → lane 1 i r ≡ bit (i % k) (lane k (i / k) r)
unfolding lane
bit_of_lane k i r some =
    ap (λ (n : ℕ). number r / 2 ^ n % 2) (one-mul i ∙ sym (div-add-mod i k))
    ∙ ap (λ (n : ℕ). n % 2) (sym (pow.shr-shr (number r) (k * (i / k)) (i % k)))
    ∙ sym (bit_of_low k (i % k) _ (mod-lt i some))

-- an operation that goes by the digits, bit by bit
module _ (op digit : ℕ → ℕ → ℕ)
    (step : (a b : ℕ) → op a b ≡ op (a / 2) (b / 2) * 2 + digit (a % 2) (b % 2))
    (moved : (a b k : ℕ) → op a b / 2 ^ k ≡ op (a / 2 ^ k) (b / 2 ^ k))
    (digits : (a b : ℕ) → digit (a % 2) (b % 2) < 2) where
  pub bit_of_bitwise : (i a b : ℕ) → bit i (op a b) ≡ digit (bit i a) (bit i b)
  bit_of_bitwise i a b = ap (λ (n : ℕ). n % 2) (moved a b i ∙ step (a / 2 ^ i) (b / 2 ^ i)) ∙ digits_mod _ (digits (a / 2 ^ i) (b / 2 ^ i))

-- f 0 + f 1 + .. + f (n - 1)
unfoldable pub total : ℕ → (ℕ → ℕ) → ℕ
total zero f = 0
total (suc n) f = f 0 + total n (λ (j : ℕ). f (suc j))

pub ones_in_le : (k x : ℕ) → ones_in k x ≤ k
unfolding ones_in
ones_in_le zero x = omega arith
ones_in_le (suc k) x = omega (arith, ones_in_le k (x / 2))

pub ones_by_bits : (k x : ℕ) → ones_in k x ≡ total k (λ (j : ℕ). bit j x)
unfolding ones_in total
ones_by_bits zero x = refl
ones_by_bits (suc k) x = ap₂ ◌+◌ (ap (λ (n : ℕ). n % 2) (sym (div-one x))) (ones_by_bits k (x / 2) ∙ (λ i. total k (λ (j : ℕ). next j i)))
  where
    next : (j : ℕ) → bit j (x / 2) ≡ bit (suc j) x
    next j = ap (λ (n : ℕ). n % 2) (pow.shr-shr x 1 j ∙ ap (λ (n : ℕ). x / 2 ^ n) (one-add j))

-- ---- k bits rotated right by n places

module _ (k n x : ℕ) (h : n ≤ k) (l : x < 2 ^ k) where
  upper : x / 2 ^ n < 2 ^ (k - n)
  upper =
      let t : k ≡ k - n + n = omega arith in
      pow.shr_lt (k - n) n (subst (λ (j : ℕ). x < 2 ^ j) t l)

  -- each bit is the one that stood n places to its left, round the k bits
  pub bit_of_rotated : (i : ℕ) → i < k → bit i (rotated_right k n x) ≡ bit ((i + n) % k) x
  bit_of_rotated i m =
      either (i + n) k
      (λ a.
      sym (bit_of_low (k - n) i _ (omega arith)) ∙ ap (bit i) (pow.low _ (k - n) upper) ∙ ap (λ (y : ℕ). y % 2) (pow.shr-shr x n i)
      ∙ ap (λ (y : ℕ). bit y x) (add_comm n i ∙ sym (mod-eq_of_lt a)))
      (λ a.
      ap (λ (y : ℕ). bit y (rotated_right k n x)) (omega arith) ∙ ap (λ (y : ℕ). y % 2) (sym (pow.shr-shr _ (k - n) (i + n - k)))
      ∙ ap (bit (i + n - k)) (pow.high _ (k - n) upper) ∙ bit_of_low n (i + n - k) x (omega arith)
      ∙ ap (λ (y : ℕ). bit y x) (sym (ap (λ (y : ℕ). y % k) (omega arith) ∙ digits_mod 1 (omega arith))))

  pub rotated_lt : rotated_right k n x < 2 ^ k
  rotated_lt =
      let t : n + (k - n) ≡ k = omega arith in
      subst (λ (m : ℕ). rotated_right k n x < m) (sym (pow.pow-add 2 n (k - n)) ∙ ap (λ (j : ℕ). 2 ^ j) t) (digits_lt (mod-lt x (pow.pow_pos n)) upper)
