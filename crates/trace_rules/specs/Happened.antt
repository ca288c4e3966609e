-- What happened in a cycle, as its row says it.
-- Assumes nothing.
use Rattle.std.specs.Prelude.{ℕ, Bool, true, false, cond, ◌&&◌, ◌||◌, List, eqb, set}
use Rattle.register.specs.declared.Register.{Register}
use Rattle.table.specs.declared.Edition.{Edition}
use Rattle.table.specs.declared.Pointer.{Pointer}
use Rattle.table.specs.Fields.{first_of, rs2_of, rs3_of, rd_of}
use Rattle.table.specs.Operation.{operation_of, reads_of, takes_first, takes_second, takes_third, is_nop, is_wired}
use Rattle.row_rules.specs.Shown.{Stage, Change}
use Rattle.std.specs.declared.option.Option.TheVariants.{None, Some}
use Rattle.row_rules.specs.declared.Flags.{Flags}
use Rattle.unit_rules.specs.Latches.{Operands}

-- the registers after the change that a row shows
abbrev pub changed_by : Change → List Register → List Register
changed_by None f = f
changed_by (Some (p, o)) f = set f p.0 o.value

-- whether a row shows `--`
abbrev pub is_nothing : Change → Bool
is_nothing None = true
is_nothing (Some (p, o)) = false

-- the mark that a row shows, where it does not show `--`
abbrev pub mark_shown : Change → ℕ
mark_shown None = 0
mark_shown (Some (p, o)) = o.mark

-- whether the word that a row shows in WB writes nothing: "it is empty or holds a NOP", or names a register that the edition wires
abbrev pub writes_nothing : Edition → Stage → Bool
writes_nothing edition None = true
writes_nothing edition (Some w) = is_nop w || is_wired edition (rd_of w)

-- whether a row shows that this register was written
abbrev pub shows : Change → Pointer → Bool
shows None p = false
shows (Some (q, o)) p = eqb q.0 p.0

-- the flags by what else a row shows: the word in EX, and the register written
abbrev pub flags_shown : Stage → Change → Flags
flags_shown None x = record { rs1 = false; rs2 = false; rs3 = false }
flags_shown (Some w) x = record {
  rs1 = takes_first (reads_of (operation_of w)) && shows x (first_of w);
  rs2 = takes_second (reads_of (operation_of w)) && shows x (rs2_of w);
  rs3 = takes_third (reads_of (operation_of w)) && shows x (rs3_of w);
}

-- what EX takes for an operand, by its flag and the value that a row shows: "WB's value takes the place of the latched one"
abbrev pub operand_shown : Bool → Change → Register → Register
operand_shown flag None latched = latched
operand_shown flag (Some (p, o)) latched = cond flag o.value latched

abbrev pub operands_shown : Flags → Change → Operands → Operands
operands_shown f x latched = record {
  first = operand_shown f.rs1 x latched.first;
  second = operand_shown f.rs2 x latched.second;
  third = operand_shown f.rs3 x latched.third;
}
