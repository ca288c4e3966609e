-- The last arm is left to the code 15. Carried by `short_row`, of the value.
use Rattle.std.proofs.Common.{arith}
use Rattle.alu_rules.specs.declared.Outcome.{Outcome}
use Rattle.alu_rules.specs.Result.{result_of}
use Rattle.alu_rules.proofs.Rows.{short_row}
use Rattle.alu.proofs.short_value.Goals as goal

pub returns-in_default : goal.returns-in_default
unfolding result_of
returns-in_default c = short_row (λ (o : Outcome). o.value) _ 15 _ _ c.code-code.ensures.0 (omega arith) c.subtract_from_clamped.ensures
