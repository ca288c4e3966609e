-- "The latches are IF/ID, ID/EX and EX/WB; each is empty or holds one instruction."
-- Assumes nothing.
use Rattle.std.specs.declared.option.Option.{Option}
use Rattle.register.specs.declared.Register.{Register}
use Rattle.table.specs.declared.Pointer.{Pointer}
use Rattle.alu_rules.specs.declared.Outcome.{Outcome}
use Rattle.unit_rules.specs.declared.Instruction.{Instruction}
use Rattle.unit_rules.specs.declared.ForOperands.{ForOperands}

-- the values that ID has read
abbrev pub Operands : Type 0
Operands = ForOperands Register

-- IF/ID: the instruction that was fetched, if one was
abbrev pub IfId : Type 0
IfId = Option Instruction

-- ID/EX: with an instruction, the values that ID has read for it
abbrev pub IdEx : Type 0
IdEx = Option (Instruction × Operands)

-- EX/WB: with an instruction, what EX has made of it
abbrev pub ExWb : Type 0
ExWb = Option (Instruction × Outcome)

-- the registers that ID reads in a cycle
abbrev pub Sources : Type 0
Sources = ForOperands Pointer

-- what WB writes in a cycle, if anything: where and what
abbrev pub Write : Type 0
Write = Option (Pointer × Register)
