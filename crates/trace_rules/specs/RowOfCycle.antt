-- What the row of a cycle says.
-- Assumes nothing.
use Rattle.std.specs.Prelude.{ℕ, ◌+◌, Bool, false, ◌&&◌}
use Rattle.alu_rules.specs.declared.Outcome.{Outcome}
use Rattle.table.specs.declared.Pointer.{Pointer}
use Rattle.std.specs.declared.option.Option.{Option}
use Rattle.std.specs.declared.option.Option.TheVariants.{None, Some}
use Rattle.table.specs.Operation.{takes_first, takes_second, takes_third}
use Rattle.row_rules.specs.Shown.{Stage, Change}
use Rattle.row_rules.specs.declared.Flags.{Flags}
use Rattle.row_rules.specs.declared.Row.{Row}
use Rattle.unit_rules.specs.declared.Instruction.{Instruction}
use Rattle.unit_rules.specs.Latches.{IfId, IdEx, ExWb}
use Rattle.unit_rules.specs.declared.Unit.{Unit}
use Rattle.unit_rules.specs.Cycle.{is_target, read_by, after_if}
use Rattle.unit_rules.specs.Record.{in_decoded, in_executed}

-- "the words in IF, ID, EX, WB"
abbrev pub stage_of : IfId → Stage
stage_of None = None
stage_of (Some i) = Some i.word

-- "WB writes that register"
abbrev pub writes_to : ExWb → Pointer → Bool
writes_to None p = false
writes_to (Some (i, o)) p = is_target i.target p

-- "A flag is 1 exactly when EX's instruction reads that field by the table and WB writes that register."
abbrev pub flag_of : Bool → ExWb → Pointer → Bool
flag_of reads wb p = reads && writes_to wb p

-- one for each operand; "the first flag for li is 1 exactly when WB writes li's rd", which is its first operand
abbrev pub flags_for : ExWb → Instruction → Flags
flags_for wb i = record {
  rs1 = flag_of (takes_first (read_by i)) wb i.first;
  rs2 = flag_of (takes_second (read_by i)) wb i.second;
  rs3 = flag_of (takes_third (read_by i)) wb i.third;
}

abbrev pub flags_of : ExWb → IdEx → Flags
flags_of wb None = record { rs1 = false; rs2 = false; rs3 = false }
flags_of wb (Some (i, o)) = flags_for wb i

-- "the register written", "its new value"; "The mark travels through the latch to the row": the outcome has both
abbrev pub change_to : Option Pointer → Outcome → Change
change_to None o = None
change_to (Some p) o = Some (p, o)

abbrev pub change_of : ExWb → Change
change_of None = None
change_of (Some (i, o)) = change_to i.target o

-- a row, from the cycle's number, what IF delivers in it and what the latches hold at its start
unfoldable pub shown_by : ℕ → IfId → IfId → IdEx → ExWb → Row
shown_by cycle delivered fetched decoded executed = record {
  cycle = cycle;
  fetch = stage_of delivered;
  decode = stage_of fetched;
  execute = stage_of (in_decoded decoded);
  write = stage_of (in_executed executed);
  flags = flags_of executed decoded;
  change = change_of executed;
}

-- the row of a unit's next cycle
abbrev pub shown_of : Unit → Row
shown_of u = shown_by (u.cycle + 1) (after_if u.program u.count.0) u.fetched u.decoded u.executed
