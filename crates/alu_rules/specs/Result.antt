-- What a word gives from its operands, value and mark: one line for each row of the instruction table. The operands are the registers rs1, rs2 and rs3 point to;
-- li's first operand is its old rd.
-- Assumes nothing.
use Rattle.std.specs.Prelude.{ℕ, true, false}
use Rattle.alu_rules.specs.declared.Outcome.{Outcome}
use Rattle.alu_rules.specs.Lane.{SHRHI, AU, CNTIH, AHS, OR, MAXWS, MINWS, MLHU, MLHCU, AND, CLZW, ROTW, SFWU, SFHS}
use Rattle.register.specs.declared.Register.{Register}
use Rattle.register.specs.Layout.{zero_register, with_halfword}
use Rattle.alu_rules.specs.Across.{words₁, words₂, unmarked, clamped_halfwords, multiplied}
use Rattle.table.specs.Fields.{index_of, immediate_of, constant_of}
use Rattle.table.specs.Operation.{Operation, operation_of}
use Rattle.table.specs.Operation.Operation.{li, simal, simah, simsl, simsh, slmal, slmah, slmsl, slmsh}
use Rattle.table.specs.Operation.Operation.{nop, shrhi, au, cntih, ahs, or, bcw, maxws, minws, mlhu, mlhcu, and, clzw, rotw, sfwu, sfhs}

-- the "result" column: a row of the table a line. AHS is "clamped to -32768 .. 32767", and SFHS is "clamped"
unfoldable pub result_of : Operation → ℕ → Register → Register → Register → Outcome
result_of li w rs1 rs2 rs3 = unmarked (with_halfword (index_of w) (immediate_of w) rs1)
result_of simal w rs1 rs2 rs3 = multiplied false false false rs1 rs2 rs3
result_of simah w rs1 rs2 rs3 = multiplied false false true rs1 rs2 rs3
result_of simsl w rs1 rs2 rs3 = multiplied false true false rs1 rs2 rs3
result_of simsh w rs1 rs2 rs3 = multiplied false true true rs1 rs2 rs3
result_of slmal w rs1 rs2 rs3 = multiplied true false false rs1 rs2 rs3
result_of slmah w rs1 rs2 rs3 = multiplied true false true rs1 rs2 rs3
result_of slmsl w rs1 rs2 rs3 = multiplied true true false rs1 rs2 rs3
result_of slmsh w rs1 rs2 rs3 = multiplied true true true rs1 rs2 rs3
result_of nop w rs1 rs2 rs3 = unmarked zero_register
result_of shrhi w rs1 rs2 rs3 = unmarked (words₁ (λ (x : ℕ). SHRHI x (constant_of w)) rs1)
result_of au w rs1 rs2 rs3 = unmarked (words₂ AU rs1 rs2)
result_of cntih w rs1 rs2 rs3 = unmarked (words₁ CNTIH rs1)
result_of ahs w rs1 rs2 rs3 = clamped_halfwords AHS rs1 rs2
result_of or w rs1 rs2 rs3 = unmarked (words₂ OR rs1 rs2)
result_of bcw w rs1 rs2 rs3 = unmarked (words₁ (λ (x : ℕ). rs1.w3) rs1)
result_of maxws w rs1 rs2 rs3 = unmarked (words₂ MAXWS rs1 rs2)
result_of minws w rs1 rs2 rs3 = unmarked (words₂ MINWS rs1 rs2)
result_of mlhu w rs1 rs2 rs3 = unmarked (words₂ MLHU rs1 rs2)
result_of mlhcu w rs1 rs2 rs3 = unmarked (words₁ (λ (x : ℕ). MLHCU x (constant_of w)) rs1)
result_of and w rs1 rs2 rs3 = unmarked (words₂ AND rs1 rs2)
result_of clzw w rs1 rs2 rs3 = unmarked (words₁ CLZW rs1)
result_of rotw w rs1 rs2 rs3 = unmarked (words₂ ROTW rs1 rs2)
result_of sfwu w rs1 rs2 rs3 = unmarked (words₂ SFWU rs1 rs2)
result_of sfhs w rs1 rs2 rs3 = clamped_halfwords SFHS rs1 rs2

-- what a word gives: the row of the instruction that it is
unfoldable pub outcome_of : ℕ → Register → Register → Register → Outcome
outcome_of w rs1 rs2 rs3 = result_of (operation_of w) w rs1 rs2 rs3
