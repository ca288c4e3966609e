-- What a row shows of a stage, and of what WB writes: something or nothing.
-- Assumes nothing.
use Rattle.std.specs.Prelude.{ℕ}
use Rattle.std.specs.declared.option.Option.{Option}
use Rattle.table.specs.declared.Pointer.{Pointer}
use Rattle.alu_rules.specs.declared.Outcome.{Outcome}

-- the word in a stage
abbrev pub Stage : Type 0
Stage = Option ℕ

-- "the register written" and "its new value", with its mark
abbrev pub Change : Type 0
Change = Option (Pointer × Outcome)
