-- What each lane operation of document 01's instruction table gives, in the table's order and by its names, on one lane or one word. Operands come in the
-- order rs1, rs2. (li, NOP and BCW move or leave whole parts of a register: they have no lane operation.) Of the multiply family, AHS and SFHS it is the exact
-- result, which is clamped across registers.
-- Assumes nothing.
use Rattle.std.specs.Prelude.{ℕ, ◌+◌, ◌*◌, ◌/◌, ◌%◌, ◌^◌, cond, ℤ, ◌+ℤ◌, ◌-ℤ◌, ◌*ℤ◌}
use Rattle.std.specs.Int.Bits.{bit_and, bit_or}
use Rattle.std.specs.Int.Count.{ones_in, count_leading_zeros}
use Rattle.std.specs.Int.Signed.{lt_z}
use Rattle.register.specs.Halves.{low, halves}
use Rattle.alu_rules.specs.Width.{signed, sum_modulo, difference_modulo, rotated_right}

-- "multiplied as signed numbers, and the product is added to, or taken from, rs1": halves of k bits, rs1 of k + k
abbrev pub multiply_add : ℕ → ℕ → ℕ → ℕ → ℤ
multiply_add k rs1 a b = signed (k + k) rs1 +ℤ signed k a *ℤ signed k b

abbrev pub multiply_subtract : ℕ → ℕ → ℕ → ℕ → ℤ
multiply_subtract k rs1 a b = signed (k + k) rs1 -ℤ signed k a *ℤ signed k b

-- 1 SHRHI: "halfwords shifted right, zeros in, by the low 4 bits of the rs2 field"
abbrev pub SHRHI : ℕ → ℕ → ℕ
SHRHI w field = halves 16 (λ (h : ℕ). h / 2 ^ (field % 2 ^ 4)) w

-- 2 AU: "words added modulo 2^32"
abbrev pub AU : ℕ → ℕ → ℕ
AU a b = sum_modulo 32 a b

-- 3 CNTIH: "ones in each halfword"; ones_in k x is the sum of the k lowest binary digits of x
abbrev pub CNTIH : ℕ → ℕ
CNTIH w = halves 16 (ones_in 16) w

-- 4 AHS: "signed halfwords added"
abbrev pub AHS : ℕ → ℕ → ℤ
AHS a b = signed 16 a +ℤ signed 16 b

-- 5 OR: "bitwise"
abbrev pub OR : ℕ → ℕ → ℕ
OR a b = bit_or a b

-- 7 MAXWS: "larger signed word"
abbrev pub MAXWS : ℕ → ℕ → ℕ
MAXWS a b = cond (lt_z (signed 32 a) (signed 32 b)) b a

-- 8 MINWS: "smaller signed word"
abbrev pub MINWS : ℕ → ℕ → ℕ
MINWS a b = cond (lt_z (signed 32 a) (signed 32 b)) a b

-- 9 MLHU: "low halves of words multiplied, unsigned"
abbrev pub MLHU : ℕ → ℕ → ℕ
MLHU a b = low 16 a * low 16 b

-- 10 MLHCU: "low halves times the 5-bit rs2 field, unsigned"
abbrev pub MLHCU : ℕ → ℕ → ℕ
MLHCU a field = low 16 a * (field % 2 ^ 5)

-- 11 AND: "bitwise"
abbrev pub AND : ℕ → ℕ → ℕ
AND a b = bit_and a b

-- 12 CLZW: "leading zeros of each word; 32 for zero"
abbrev pub CLZW : ℕ → ℕ
CLZW w = count_leading_zeros 32 w

-- 13 ROTW: "words rotated right by the low 5 bits of rs2's word"
abbrev pub ROTW : ℕ → ℕ → ℕ
ROTW w by = rotated_right 32 (by % 2 ^ 5) w

-- 14 SFWU: "rs2 - rs1, words, modulo 2^32"
abbrev pub SFWU : ℕ → ℕ → ℕ
SFWU a b = difference_modulo 32 b a

-- 15 SFHS: "rs2 - rs1, signed halfwords"
abbrev pub SFHS : ℕ → ℕ → ℤ
SFHS a b = signed 16 b -ℤ signed 16 a
