-- "One cycle", in document 01's order: what WB, EX, ID and IF make of the state at the cycle's start.
-- Assumes nothing.
use Rattle.std.specs.Prelude.{ℕ, zero, suc, ◌+◌, Bool, false, cond, ◌&&◌, List, eqb, ltb, get_or}
use Rattle.register.specs.declared.Register.{Register}
use Rattle.register.specs.Layout.{zero_register}
use Rattle.table.specs.declared.Edition.{Edition}
use Rattle.table.specs.declared.Pointer.{Pointer}
use Rattle.table.specs.declared.Reads.{Reads}
use Rattle.std.specs.declared.option.Option.{Option}
use Rattle.std.specs.declared.option.Option.TheVariants.{None, Some}
use Rattle.table.specs.Fields.{first_of, rs2_of, rs3_of}
use Rattle.table.specs.Operation.{operation_of, reads_of, takes_first, takes_second, takes_third, target_of}
use Rattle.alu_rules.specs.declared.Outcome.{Outcome}
use Rattle.alu_rules.specs.Result.{outcome_of}
use Rattle.plain_rules.specs.Machine.{stored}
use Rattle.job_rules.specs.declared.Program.{Program}
use Rattle.unit_rules.specs.declared.Instruction.{Instruction}
use Rattle.unit_rules.specs.Latches.{Operands, IfId, IdEx, ExWb}
use Rattle.unit_rules.specs.declared.Unit.{Unit}

-- the instruction of a word, on a card of this edition
abbrev pub instruction_of : Edition → ℕ → Instruction
instruction_of edition w = record { word = w; first = first_of w; second = rs2_of w; third = rs3_of w; target = target_of edition w }

-- an instruction is a line of a program: line k, from 0
abbrev pub instruction_at : Program → ℕ → Instruction
instruction_at program k = instruction_of program.edition (get_or program.words k 0)

-- "1. WB writes its value to rd, unless it is empty or holds a NOP."
abbrev pub after_wb : ExWb → List Register → List Register
after_wb None f = f
after_wb (Some (i, o)) f = stored i.target o.value f

-- "Where WB writes a register that this instruction reads, WB's value takes the place of the latched one."
abbrev pub is_target : Option Pointer → Pointer → Bool
is_target None p = false
is_target (Some d) p = eqb d.0 p.0

abbrev pub newest : ExWb → Bool → Pointer → Register → Register
newest None reads p latched = latched
newest (Some (i, o)) reads p latched = cond (reads && is_target i.target p) o.value latched

-- the fields that an instruction reads, "by the table"
abbrev pub read_by : Instruction → Reads
read_by i = reads_of (operation_of i.word)

abbrev pub newest_operands : ExWb → Instruction → Operands → Operands
newest_operands wb i o = record {
  first = newest wb (takes_first (read_by i)) i.first o.first;
  second = newest wb (takes_second (read_by i)) i.second o.second;
  third = newest wb (takes_third (read_by i)) i.third o.third;
}

-- what an instruction gives from its operands, by the table, and the latch that holds it
abbrev pub given : Instruction → Operands → Outcome
given i o = outcome_of i.word o.first o.second o.third

abbrev pub worked : Instruction → Operands → ExWb
worked i o = Some (i, (given i o))

-- the mark that a latch holds, 0 where it is empty
abbrev pub mark_in : ExWb → ℕ
mark_in None = 0
mark_in (Some (i, o)) = o.mark

-- "2. EX works with the values latched in ID."
abbrev pub after_ex : ExWb → IdEx → ExWb
after_ex wb None = None
after_ex wb (Some (i, o)) = worked i (newest_operands wb i o)

-- "3. ID reads the register file after WB's write of this cycle."
abbrev pub operands_in : Instruction → List Register → Operands
operands_in i f = record {
  first = get_or f i.first.0 zero_register;
  second = get_or f i.second.0 zero_register;
  third = get_or f i.third.0 zero_register;
}

abbrev pub after_id : IfId → List Register → IdEx
after_id None f = None
after_id (Some i) f = Some (i, (operands_in i f))

-- "4. IF fetches at the program count and adds one. At count n or above it delivers nothing, and the count stays."
abbrev pub after_if : Program → ℕ → IfId
after_if program k = cond (ltb k program.n.0) (Some (instruction_at program k)) None

abbrev pub count_after : ℕ → ℕ → ℕ
count_after n k = cond (ltb k n) (k + 1) k

unfoldable pub cycle_of : Unit → Unit
cycle_of u = record {
  program = u.program;
  count = record { 0 = count_after u.program.n.0 u.count.0 };
  cycle = u.cycle + 1;
  registers = after_wb u.executed u.registers;
  fetched = after_if u.program u.count.0;
  decoded = after_id u.fetched (after_wb u.executed u.registers);
  executed = after_ex u.executed u.decoded;
  gone = u.gone;
}

-- what IF delivers in cycle c since a go: "in cycle c, counted from 1 at the start," instruction c-1 "(from 0), or nothing outside 0 .. n-1"
abbrev pub fetched_in : Program → ℕ → IfId
fetched_in program zero = None
fetched_in program (suc k) = after_if program k

-- so many cycles, one after another
unfoldable pub cycles_of : ℕ → Unit → Unit
cycles_of zero u = u
cycles_of (suc c) u = cycle_of (cycles_of c u)
