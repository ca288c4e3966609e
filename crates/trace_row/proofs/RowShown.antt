-- No flag is raised where WB writes no register that a field names; and ID/EX holds the same instruction whatever its values. Carried by `none_held` of crate
-- `table` and by the cases of a latch.
-- Assumes nothing.
use mathlib.Core.Path.{◌≡◌, refl}
use Rattle.unit_rules.specs.Latches.{IfId, Operands}
use Rattle.std.specs.declared.option.Option.TheVariants.{None, Some}
use Rattle.unit_rules.specs.Record.{in_decoded}
use Rattle.unit_rules.specs.Stages.{decoded_with}

pub whatever_values : (latch : IfId) (o : Operands) → in_decoded (decoded_with latch o) ≡ latch
whatever_values None o = refl
whatever_values (Some i) o = refl
