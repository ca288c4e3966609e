-- Numbers of any width k: the signed reading in exact integers, the clamp and its mark, sums and differences modulo 2^k, and rotated bits.
-- Assumes nothing.
use Rattle.std.specs.Prelude.{ℕ, suc, ◌+◌, ◌-◌, ◌*◌, ◌/◌, ◌%◌, ◌^◌, Bool, cond, ◌||◌, ltb, ℤ, pos, negsuc, neg_ℤ, ◌-ℤ◌}
use Rattle.std.specs.Int.Signed.{lt_z}

-- what the k bits of x say as a signed number: x, and 2^k less where the top bit is set
unfoldable pub signed : ℕ → ℕ → ℤ
signed k x = cond (ltb x (2 ^ (k - 1))) (pos x) (pos x -ℤ pos (2 ^ k))

-- the k bits that say z: z itself, and for -(n + 1) what is left of 2^k
unfoldable pub bits : ℕ → ℤ → ℕ
bits k (pos n) = n
bits k (negsuc n) = 2 ^ k - suc n

-- "-2^31 .. 2^31-1" at 32 bits: the least and the greatest signed number of k bits
abbrev pub least : ℕ → ℤ
least k = neg_ℤ (pos (2 ^ (k - 1)))

abbrev pub greatest : ℕ → ℤ
greatest k = pos (2 ^ (k - 1) - 1)

-- z, or the bound that it is beyond
unfoldable pub within : ℤ → ℤ → ℤ → ℤ
within lo hi z = cond (lt_z z lo) lo (cond (lt_z hi z) hi z)

-- "The exact result is clamped": the k bits of z, held between the bounds of k bits
abbrev pub clamped : ℕ → ℤ → ℕ
clamped k z = bits k (within (least k) (greatest k) z)

-- "which lanes were clamped": whether z is beyond a bound of k bits, so that the clamp changes it. "A lane that lands on the limit exactly has no mark."
abbrev pub is_marked : ℕ → ℤ → Bool
is_marked k z = lt_z z (least k) || lt_z (greatest k) z

-- a + b, modulo 2^k
abbrev pub sum_modulo : ℕ → ℕ → ℕ → ℕ
sum_modulo k a b = (a + b) % 2 ^ k

-- a - b, modulo 2^k: 2^k is added first, since a natural number less a larger one is 0
abbrev pub difference_modulo : ℕ → ℕ → ℕ → ℕ
difference_modulo k a b = (a + 2 ^ k - b) % 2 ^ k

-- the k bits of x, the lowest n of which leave on the right and come in on the left
abbrev pub rotated_right : ℕ → ℕ → ℕ → ℕ
rotated_right k n x = x % 2 ^ n * 2 ^ (k - n) + x / 2 ^ n
