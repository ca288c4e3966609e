-- What two numbers of k bits make has at most k + k: joined as halves, and multiplied. Carried by `pow-add`.
-- Assumes nothing.
use Prim.Native.Nat.{ℕ, ◌+◌, ◌*◌, ◌^◌, ◌<◌}
use mathlib.Core.Path.{subst⁻¹}
use native.Mathlib.Nat.{le_of_lt, lt_of_le_of_lt, mul-le-mul_left, mul-lt-mul_of_pos_right}
use lib.Arith.{digits_lt}
use lib.Pow.{pow_pos, pow-add}
use Rattle.register.specs.Halves.{join}

-- two halves of k bits make a number of k + k
pub join_lt : (k : ℕ) {hi lo : ℕ} → hi < 2 ^ k → lo < 2 ^ k → join k hi lo < 2 ^ (k + k)
join_lt k {hi} {lo} h l = subst⁻¹ (λ (n : ℕ). hi * 2 ^ k + lo < n) (pow-add 2 k k) (digits_lt h l)

-- the product of two numbers of k bits has at most k + k
pub product_fits : (k : ℕ) {a b : ℕ} → a < 2 ^ k → b < 2 ^ k → a * b < 2 ^ (k + k)
product_fits k {a} {b} ha hb =
    subst⁻¹ (λ (n : ℕ). a * b < n) (pow-add 2 k k)
    (lt_of_le_of_lt (mul-le-mul_left a (le_of_lt hb)) (mul-lt-mul_of_pos_right ha (pow_pos k)))
