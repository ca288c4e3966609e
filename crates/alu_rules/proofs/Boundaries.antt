-- Marks at their boundaries: the bit of each lane, lanes just beyond a limit and exactly on it, and the instructions that give none; and fields that are full of ones. Carried
-- by computing them.
-- Assumes nothing.
use Prim.Native.Nat.{ℕ, ◌-◌, ◌*◌, ◌/◌, ◌%◌, ◌^◌}
use mathlib.Core.Path.{◌≡◌, refl}
use mathlib.Core.List.{[], ◌∷◌, map}
use lib.Count.{ones_in}
use Rattle.register.specs.declared.Register.{Register}
use Rattle.register.specs.Layout.{zero_register}
use Rattle.table.specs.Operation.{Operation}
use Rattle.table.specs.Operation.Operation.{li, simal, simah, simsl, simsh, slmal, slmah, slmsl, slmsh}
use Rattle.table.specs.Operation.Operation.{nop, shrhi, au, cntih, ahs, or, bcw, maxws, minws, mlhu, mlhcu, and, clzw, rotw, sfwu, sfhs}
use Rattle.alu_rules.specs.Width.{signed}
use Rattle.alu_rules.specs.Result.{result_of}
use Rattle.alu_rules.specs.Ones.{in_fields, ones_by_step}

-- the register of these 128 bits
abbrev of_number : ℕ → Register
of_number n = record { w0 = n % 2 ^ 32; w1 = n / 2 ^ 32 % 2 ^ 32; w2 = n / 2 ^ 64 % 2 ^ 32; w3 = n / 2 ^ 96 % 2 ^ 32 }

-- v in lane i of k bits, and 0 in the others; v in every lane, since (2^128 - 1) / (2^k - 1) has a 1 in each
abbrev in_lane : ℕ → ℕ → ℕ → Register
in_lane k i v = of_number (v * 2 ^ (k * i))

abbrev pub in_every : ℕ → ℕ → Register
in_every k v = of_number (v * ((2 ^ 128 - 1) / (2 ^ k - 1)))

-- the mark of an instruction, of these operands in every lane of k bits
abbrev mark : Operation → ℕ → ℕ → ℕ → ℕ → ℕ
mark o k rs1 rs2 rs3 = (result_of o 0 (in_every k rs1) (in_every k rs2) (in_every k rs3)).mark

-- "bit i for halfword i, and for a wider lane the bit of its lowest halfword": one lane at a time is clamped, the greatest and 1
pub bit_of_each_halfword : map (λ (i : ℕ). (result_of ahs 0 (in_lane 16 i 0x7FFF) (in_lane 16 i 1) zero_register).mark) (0 ∷ 1 ∷ 2 ∷ 3 ∷ 4 ∷ 5 ∷ 6 ∷ 7 ∷ [])
    ≡ (2 ^ 0 ∷ 2 ^ 1 ∷ 2 ^ 2 ∷ 2 ^ 3 ∷ 2 ^ 4 ∷ 2 ^ 5 ∷ 2 ^ 6 ∷ 2 ^ 7 ∷ [])
unfolding result_of signed
bit_of_each_halfword = refl

pub bit_of_each_word : map (λ (i : ℕ). (result_of simal 0 (in_lane 32 i 0x7FFFFFFF) (in_lane 32 i 1) (in_lane 32 i 1)).mark) (0 ∷ 1 ∷ 2 ∷ 3 ∷ [])
    ≡ (2 ^ 0 ∷ 2 ^ 2 ∷ 2 ^ 4 ∷ 2 ^ 6 ∷ [])
unfolding result_of signed
bit_of_each_word = refl

pub bit_of_each_long : map (λ (i : ℕ). (result_of slmal 0 (in_lane 64 i 0x7FFFFFFFFFFFFFFF) (in_lane 64 i 1) (in_lane 64 i 1)).mark) (0 ∷ 1 ∷ [])
    ≡ (2 ^ 0 ∷ 2 ^ 4 ∷ [])
unfolding result_of signed
bit_of_each_long = refl

-- halfwords just beyond a limit and exactly on it, in turn, in every lane. AHS 7FFF + 0001, 7FFE + 0001, 8000 + FFFF, 8001 + FFFF;
-- SFHS 7FFF - FFFF, 7FFE - FFFF, 8000 - 0001, 8001 - 0001
pub halfwords_at_limits : (mark ahs 16 0x7FFF 1 0 ∷ mark ahs 16 0x7FFE 1 0 ∷ mark ahs 16 0x8000 0xFFFF 0 ∷ mark ahs 16 0x8001 0xFFFF 0
    ∷ mark sfhs 16 0xFFFF 0x7FFF 0 ∷ mark sfhs 16 0xFFFF 0x7FFE 0 ∷ mark sfhs 16 1 0x8000 0 ∷ mark sfhs 16 1 0x8001 0 ∷ [])
    ≡ (0xFF ∷ 0 ∷ 0xFF ∷ 0 ∷ 0xFF ∷ 0 ∷ 0xFF ∷ 0 ∷ [])
unfolding result_of signed
halfwords_at_limits = refl

-- words: SIMAL + 1 x 1 at the greatest, + FFFF x 1 at the least; SIMSL - FFFF x 1 at the greatest, - 1 x 1 at the least
pub words_at_limits : (mark simal 32 0x7FFFFFFF 1 1 ∷ mark simal 32 0x7FFFFFFE 1 1 ∷ mark simal 32 0x80000000 0xFFFF 1 ∷ mark simal 32 0x80000001 0xFFFF 1
    ∷ mark simsl 32 0x7FFFFFFF 0xFFFF 1 ∷ mark simsl 32 0x7FFFFFFE 0xFFFF 1 ∷ mark simsl 32 0x80000000 1 1 ∷ mark simsl 32 0x80000001 1 1 ∷ [])
    ≡ (0x55 ∷ 0 ∷ 0x55 ∷ 0 ∷ 0x55 ∷ 0 ∷ 0x55 ∷ 0 ∷ [])
unfolding result_of signed
words_at_limits = refl

-- longs: SLMAL 80000000 x 80000000 + 4000000000000000 and + 3FFFFFFFFFFFFFFF, and + FFFFFFFF x 1 at the least; SLMSL - FFFFFFFF x 1 at the greatest, and
-- BFFFFFFFFFFFFFFF - 80000000 x 80000000 and C000000000000000 - 80000000 x 80000000
pub longs_at_limits : (mark slmal 64 0x4000000000000000 0x80000000 0x80000000 ∷ mark slmal 64 0x3FFFFFFFFFFFFFFF 0x80000000 0x80000000
    ∷ mark slmal 64 0x8000000000000000 0xFFFFFFFF 1 ∷ mark slmal 64 0x8000000000000001 0xFFFFFFFF 1
    ∷ mark slmsl 64 0x7FFFFFFFFFFFFFFF 0xFFFFFFFF 1 ∷ mark slmsl 64 0x7FFFFFFFFFFFFFFE 0xFFFFFFFF 1
    ∷ mark slmsl 64 0xBFFFFFFFFFFFFFFF 0x80000000 0x80000000 ∷ mark slmsl 64 0xC000000000000000 0x80000000 0x80000000 ∷ [])
    ≡ (0x11 ∷ 0 ∷ 0x11 ∷ 0 ∷ 0x11 ∷ 0 ∷ 0x11 ∷ 0 ∷ [])
unfolding result_of signed
longs_at_limits = refl

-- a long beyond 32 bits and within 64 has no mark, at either side; nor have a word and a long whose halves in question are 0, though the other halves
-- would take them beyond a limit
pub within_limits : (mark slmal 64 0x7FFFFFFF 1 1 ∷ mark slmsl 64 0xFFFFFFFF80000000 1 1
    ∷ mark simal 32 0x7FFFFFFF 0x10000 0x10000 ∷ mark simah 32 0x7FFFFFFF 1 1 ∷ mark slmsl 64 0x8000000000000000 0x100000000 0x100000000
    ∷ mark slmsh 64 0x8000000000000000 1 1 ∷ [])
    ≡ (0 ∷ 0 ∷ 0 ∷ 0 ∷ 0 ∷ 0 ∷ [])
unfolding result_of signed
within_limits = refl

-- the four rows of high halves: just beyond a limit, and exactly on it
pub high_halves_at_limits : (mark simah 32 0x7FFFFFFF 0x10000 0x10000 ∷ mark simah 32 0x7FFFFFFE 0x10000 0x10000
    ∷ mark simsh 32 0x80000000 0x10000 0x10000 ∷ mark simsh 32 0x80000001 0x10000 0x10000
    ∷ mark slmah 64 0x7FFFFFFFFFFFFFFF 0x100000000 0x100000000 ∷ mark slmah 64 0x7FFFFFFFFFFFFFFE 0x100000000 0x100000000
    ∷ mark slmsh 64 0x8000000000000000 0x100000000 0x100000000 ∷ mark slmsh 64 0x8000000000000001 0x100000000 0x100000000 ∷ [])
    ≡ (0x55 ∷ 0 ∷ 0x55 ∷ 0 ∷ 0x11 ∷ 0 ∷ 0x11 ∷ 0 ∷ [])
unfolding result_of signed
high_halves_at_limits = refl

-- "Other instructions give zero": all fifteen, of FFFFFFFF and 00000001, where AU and SFWU wrap; and AU 7FFFFFFF + 00000001, SFWU 80000000 - 00000001
pub no_marks_lem : (map (λ (o : Operation). mark o 32 0xFFFFFFFF 1 0)
    (li ∷ nop ∷ shrhi ∷ au ∷ cntih ∷ or ∷ bcw ∷ maxws ∷ minws ∷ mlhu ∷ mlhcu ∷ and ∷ clzw ∷ rotw ∷ sfwu ∷ [])
    ∷ (mark au 32 0x7FFFFFFF 1 0 ∷ mark sfwu 32 1 0x80000000 0 ∷ []) ∷ [])
    ≡ ((0 ∷ 0 ∷ 0 ∷ 0 ∷ 0 ∷ 0 ∷ 0 ∷ 0 ∷ 0 ∷ 0 ∷ 0 ∷ 0 ∷ 0 ∷ 0 ∷ 0 ∷ []) ∷ (0 ∷ 0 ∷ []) ∷ [])
unfolding result_of
no_marks_lem = refl

-- every field full of ones, and then every second one: 2, 4, 8 and 16 to a field, and none to its neighbour
pub full_fields : (ones_by_step 0xFFFFFFFF ∷ ones_by_step 0x33333333 ∷ ones_by_step 0x0F0F0F0F ∷ ones_by_step 0x00FF00FF ∷ ones_by_step 0x0000FFFF ∷ [])
    ≡ ((0xAAAAAAAA ∷ 0x44444444 ∷ 0x08080808 ∷ 0x00100010 ∷ []) ∷ (0x22222222 ∷ 0x22222222 ∷ 0x04040404 ∷ 0x00080008 ∷ [])
    ∷ (0x0A0A0A0A ∷ 0x04040404 ∷ 0x04040404 ∷ 0x00080008 ∷ []) ∷ (0x00AA00AA ∷ 0x00440044 ∷ 0x00080008 ∷ 0x00080008 ∷ [])
    ∷ (0x0000AAAA ∷ 0x00004444 ∷ 0x00000808 ∷ 0x00000010 ∷ []) ∷ [])
unfolding in_fields ones_in
full_fields = refl
