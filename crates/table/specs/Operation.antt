-- Which of the 25 instructions a word is, which fields it reads, and which register it writes.
-- Assumes nothing.
use Rattle.std.specs.Prelude.{ℕ, Bool, true, false, cond, ◌||◌, List, [], ◌∷◌, eqb, get_or}
use Rattle.table.specs.declared.Edition.{Edition}
use Rattle.table.specs.declared.Edition.TheVariants.{One, Two}
use Rattle.table.specs.declared.Pointer.{Pointer}
use Rattle.table.specs.declared.Reads.{Reads}
use Rattle.table.specs.declared.Reads.TheVariants.{Nothing, Rs1, Rs1Rs2, Rs1Rs2Rs3, Rd}
use Rattle.std.specs.declared.option.Option.{Option}
use Rattle.std.specs.declared.option.Option.TheVariants.{None, Some}
use Rattle.table.specs.Fields.{is_li, is_multiply, is_long, is_subtract, is_high, code_of, rd_of}

-- li; multiply-add and multiply-subtract of words and of longs, low and high; the sixteen short codes
pub data Operation : Type 0 where
  li : Operation
  simal simah simsl simsh slmal slmah slmsl slmsh : Operation
  nop shrhi au cntih ahs or bcw maxws minws mlhu mlhcu and clzw rotw sfwu sfhs : Operation

-- "Bit 22 long, bit 21 subtract, bit 20 high": the rows 000 to 111
abbrev pub multiply_row : Bool → Bool → Bool → Operation
multiply_row false false false = simal
multiply_row false false true = simah
multiply_row false true false = simsl
multiply_row false true true = simsh
multiply_row true false false = slmal
multiply_row true false true = slmah
multiply_row true true false = slmsl
multiply_row true true true = slmsh

-- "bits 18..15 choose": the rows 0 to 15
abbrev pub short_rows : List Operation
short_rows = nop ∷ shrhi ∷ au ∷ cntih ∷ ahs ∷ or ∷ bcw ∷ maxws ∷ minws ∷ mlhu ∷ mlhcu ∷ and ∷ clzw ∷ rotw ∷ sfwu ∷ sfhs ∷ []

-- every word is one of the 25
unfoldable pub operation_of : ℕ → Operation
operation_of w =
    cond (is_li w) li
    (cond (is_multiply w) (multiply_row (is_long w) (is_subtract w) (is_high w))
    (get_or short_rows (code_of w) nop))

-- the "reads" column; "Multiply-add and multiply-subtract read rs1, rs2 and rs3"; "li reads rd"
abbrev pub reads_of : Operation → Reads
reads_of li = Rd
reads_of simal = Rs1Rs2Rs3
reads_of simah = Rs1Rs2Rs3
reads_of simsl = Rs1Rs2Rs3
reads_of simsh = Rs1Rs2Rs3
reads_of slmal = Rs1Rs2Rs3
reads_of slmah = Rs1Rs2Rs3
reads_of slmsl = Rs1Rs2Rs3
reads_of slmsh = Rs1Rs2Rs3
reads_of nop = Nothing
reads_of shrhi = Rs1
reads_of au = Rs1Rs2
reads_of cntih = Rs1
reads_of ahs = Rs1Rs2
reads_of or = Rs1Rs2
reads_of bcw = Rs1
reads_of maxws = Rs1Rs2
reads_of minws = Rs1Rs2
reads_of mlhu = Rs1Rs2
reads_of mlhcu = Rs1
reads_of and = Rs1Rs2
reads_of clzw = Rs1
reads_of rotw = Rs1Rs2
reads_of sfwu = Rs1Rs2
reads_of sfhs = Rs1Rs2

-- whether the first, the second and the third operand is read; li's first operand is its rd
abbrev pub takes_first : Reads → Bool
takes_first Nothing = false
takes_first Rs1 = true
takes_first Rs1Rs2 = true
takes_first Rs1Rs2Rs3 = true
takes_first Rd = true

abbrev pub takes_second : Reads → Bool
takes_second Nothing = false
takes_second Rs1 = false
takes_second Rs1Rs2 = true
takes_second Rs1Rs2Rs3 = true
takes_second Rd = false

abbrev pub takes_third : Reads → Bool
takes_third Nothing = false
takes_third Rs1 = false
takes_third Rs1Rs2 = false
takes_third Rs1Rs2Rs3 = true
takes_third Rd = false

-- "Every word with code 0000 is a NOP, whatever its other fields"
abbrev pub is_nop : ℕ → Bool
is_nop w = cond (is_li w) false (cond (is_multiply w) false (eqb (code_of w) 0))

-- "The next boards wire register 0 to zero": those of the second edition, and no other register
abbrev pub is_wired : Edition → Pointer → Bool
is_wired One p = false
is_wired Two p = eqb p.0 0

-- the register that a word writes, or none: NOP "writes nothing", and a write to a register that is wired to zero "is dropped"
unfoldable pub target_of : Edition → ℕ → Option Pointer
target_of edition w = cond (is_nop w || is_wired edition (rd_of w)) None (Some (rd_of w))
