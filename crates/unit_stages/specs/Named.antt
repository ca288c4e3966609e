-- Whether WB writes a register that a field of the instruction names, read or not: only then is the table asked.
-- Assumes nothing.
use Rattle.std.specs.Prelude.{Bool, false, ◌||◌, eqb}
use Rattle.std.specs.declared.option.Option.TheVariants.{None, Some}
use Rattle.unit_rules.specs.declared.Instruction.{Instruction}
use Rattle.unit_rules.specs.Latches.{Write}

abbrev pub names_written : Write → Instruction → Bool
names_written None i = false
names_written (Some (at, v)) i = eqb at.0 i.first.0 || eqb at.0 i.second.0 || eqb at.0 i.third.0
