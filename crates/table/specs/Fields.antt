-- The fields of an instruction word, by the bits that document 01 names. Only bits 24 to 0 are looked at: whoever takes words from outside
-- refuses one of 2^25 or more.
-- Assumes nothing.
use Rattle.std.specs.Prelude.{ℕ, ◌+◌, ◌-◌, ◌/◌, ◌%◌, ◌^◌, Bool, cond, eqb}
use Rattle.table.specs.declared.Pointer.{Pointer}

-- bits hi .. lo of w, as a number
abbrev pub bits_of : ℕ → ℕ → ℕ → ℕ
bits_of hi lo w = w / 2 ^ lo % 2 ^ (hi + 1 - lo)

abbrev pub bit_of : ℕ → ℕ → Bool
bit_of k w = eqb (bits_of k k w) 1

-- "Bit 24 = 0: li. Bits 23..21 index, 20..5 immediate, 4..0 rd"
abbrev pub is_li : ℕ → Bool
is_li w = eqb (bits_of 24 24 w) 0

abbrev pub index_of : ℕ → ℕ
index_of w = bits_of 23 21 w

abbrev pub immediate_of : ℕ → ℕ
immediate_of w = bits_of 20 5 w

abbrev pub rd_of : ℕ → Pointer
rd_of w = record { 0 = bits_of 4 0 w }

-- "Bits 24..23 = 10: multiply-add or subtract. Bit 22 long, bit 21 subtract, bit 20 high; then rs3 (19..15), rs2 (14..10), rs1 (9..5), rd (4..0)"
abbrev pub is_multiply : ℕ → Bool
is_multiply w = eqb (bits_of 24 23 w) 2

abbrev pub is_long : ℕ → Bool
is_long w = bit_of 22 w

abbrev pub is_subtract : ℕ → Bool
is_subtract w = bit_of 21 w

abbrev pub is_high : ℕ → Bool
is_high w = bit_of 20 w

abbrev pub rs3_of : ℕ → Pointer
rs3_of w = record { 0 = bits_of 19 15 w }

abbrev pub rs2_of : ℕ → Pointer
rs2_of w = record { 0 = bits_of 14 10 w }

abbrev pub rs1_of : ℕ → Pointer
rs1_of w = record { 0 = bits_of 9 5 w }

-- "Bits 24..23 = 11: bits 18..15 choose, bits 22..19 have no effect, then rs2, rs1, rd"
abbrev pub code_of : ℕ → ℕ
code_of w = bits_of 18 15 w

-- the rs2 field where it is a number and no pointer: SHRHI's and MLHCU's
abbrev pub constant_of : ℕ → ℕ
constant_of w = bits_of 14 10 w

-- the register of the first operand: "li reads rd"
unfoldable pub first_of : ℕ → Pointer
first_of w = cond (is_li w) (rd_of w) (rs1_of w)
