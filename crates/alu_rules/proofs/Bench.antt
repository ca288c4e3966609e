-- Document 01's starred bench values, gathered into one table under one claim, which the checker computes: each word, with its code and its fields,
-- gives the expected register from its operands. The values stand in every lane.
-- Assumes nothing.
use Prim.Native.Nat.{ℕ, ◌+◌, ◌*◌, ◌^◌}
use mathlib.Core.Path.{◌≡◌, refl}
use mathlib.Core.List.{List, [], ◌∷◌, map}
use lib.Count.{count_leading_zeros}
use Rattle.alu_rules.specs.Width.{signed, bits, within}
use Rattle.register.specs.declared.Register.{Register}
use Rattle.table.specs.Operation.{operation_of}
use Rattle.alu_rules.specs.Result.{result_of, outcome_of}
use Rattle.alu_rules.proofs.Boundaries.{in_every}

pub record Line : Type 0 where
  pub word : ℕ
  pub rs1 : Register
  pub rs2 : Register
  pub rs3 : Register
  pub expected : Register

-- a word, a halfword and a long in every lane
abbrev words : ℕ → Register
words w = in_every 32 w

abbrev halfwords : ℕ → Register
halfwords h = in_every 16 h

abbrev longs : ℕ → Register
longs l = in_every 64 l

-- the words: bits 22..20 of the multiply family, and a short code with its rs2 field
abbrev multiply : ℕ → ℕ
multiply bits = 2 ^ 24 + bits * 2 ^ 20

abbrev short : ℕ → ℕ → ℕ
short code field = 2 ^ 24 + 2 ^ 23 + code * 2 ^ 15 + field * 2 ^ 10

abbrev line : ℕ → Register → Register → Register → Register → Line
line w a b c e = record { word = w; rs1 = a; rs2 = b; rs3 = c; expected = e }

abbrev pub bench : List Line
bench =
    -- SIMAL 8000 x 8000 + 7FFFFFFF; SIMSL 00000000 - 8000 x 8000
    line (multiply 0) (words 0x7FFFFFFF) (words 0x8000) (words 0x8000) (words 0x7FFFFFFF)
    ∷ line (multiply 2) (words 0) (words 0x8000) (words 0x8000) (words 0xC0000000)
    -- SLMAL 80000000 x 80000000 + 4000000000000000; SLMSL 0 - 00030004 x 00060005
    ∷ line (multiply 4) (longs 0x4000000000000000) (longs 0x80000000) (longs 0x80000000) (longs 0x7FFFFFFFFFFFFFFF)
    ∷ line (multiply 6) (longs 0) (longs 0x00060005) (longs 0x00030004) (longs 0xFFFFFFEDFFD8FFEC)
    -- AHS 7FFF + 0001, 7FFE + 0001, 8000 + FFFF
    ∷ line (short 4 0) (halfwords 0x7FFF) (halfwords 1) (words 0) (halfwords 0x7FFF)
    ∷ line (short 4 0) (halfwords 0x7FFE) (halfwords 1) (words 0) (halfwords 0x7FFF)
    ∷ line (short 4 0) (halfwords 0x8000) (halfwords 0xFFFF) (words 0) (halfwords 0x8000)
    -- SFHS rs1 8000, rs2 0000
    ∷ line (short 15 0) (halfwords 0x8000) (halfwords 0) (words 0) (halfwords 0x7FFF)
    -- AU FFFFFFFF + 00000001; SFWU rs1 1, rs2 0
    ∷ line (short 2 0) (words 0xFFFFFFFF) (words 1) (words 0) (words 0)
    ∷ line (short 14 0) (words 1) (words 0) (words 0) (words 0xFFFFFFFF)
    -- CLZW 00000000, 00000001
    ∷ line (short 12 0) (words 0) (words 0) (words 0) (words 0x20)
    ∷ line (short 12 0) (words 1) (words 0) (words 0) (words 0x1F)
    -- ROTW 80010004 by 16
    ∷ line (short 13 0) (words 0x80010004) (words 16) (words 0) (words 0x00048001)
    -- SHRHI F000, rs2 field 19
    ∷ line (short 1 19) (halfwords 0xF000) (words 0) (words 0) (halfwords 0x1E00)
    -- MLHCU FFFF x 31; MLHU FFFF x FFFF
    ∷ line (short 10 31) (words 0xFFFF) (words 0) (words 0) (words 0x001EFFE1)
    ∷ line (short 9 0) (words 0xFFFF) (words 0xFFFF) (words 0) (words 0xFFFE0001)
    ∷ []

pub bench_holds : map (λ (l : Line). (outcome_of l.word l.rs1 l.rs2 l.rs3).value) bench ≡ map (λ (l : Line). l.expected) bench
unfolding outcome_of result_of operation_of signed bits within count_leading_zeros
bench_holds = refl
