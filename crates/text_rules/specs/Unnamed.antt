-- The words that no line of an instruction gives, by their bits. A listing is not defined by it: that exactly these are listed as `.word` is a theorem,
-- `unnamed_exactly`, and the writer goes by it.
-- Assumes nothing.
use Rattle.std.specs.Prelude.{ℕ, Bool, false, cond, not, ◌&&◌, ◌||◌, eqb, leb}
use Rattle.table.specs.Fields.{bits_of, code_of, constant_of}

-- whether a field that a line of this code does not name is not zero: any of NOP; of SHRHI the highest bit of rs2's; rs2 of CNTIH, BCW and CLZW
abbrev pub leaves_out : ℕ → ℕ → Bool
leaves_out code w =
    cond (eqb code 0) (not (eqb (bits_of 14 0 w) 0))
    (cond (eqb code 1) (leb 16 (constant_of w))
    (cond (eqb code 3 || eqb code 6 || eqb code 12) (not (eqb (constant_of w) 0))
    false))

-- a NOP with operands, a short code with any of bits 22..19 set, SHRHI with a field of 16 to 31, CNTIH, BCW or CLZW with a nonzero rs2 field
abbrev pub unnamed : ℕ → Bool
unnamed w = eqb (bits_of 24 23 w) 3 && (not (eqb (bits_of 22 19 w) 0) || leaves_out (code_of w) w)
