-- What EX takes where WB writes no register that a field names. Carried by the three tests, of which none held.
-- Assumes nothing.
use mathlib.Core.Path.{◌≡◌, refl, sym, ◌∙◌}
use mathlib.Core.Bool.{Bool, false, and-false}
use lib.Dec.{eqb}
use Rattle.std.specs.declared.option.Option.TheVariants.{None, Some}
use Rattle.table.specs.declared.Pointer.{Pointer}
use Rattle.table.proofs.Decided.{none_held}
use Rattle.unit_rules.specs.declared.Instruction.{Instruction}
use Rattle.unit_rules.specs.Latches.{Operands, Write}
use Rattle.unit_rules.specs.Stages.{newest_operands_by}
use Rattle.unit_stages.specs.Named.{names_written}

-- r is what the test of the three fields answered
pub none_named : (w : Write) (i : Instruction) (o : Operands) {r : Bool} → r ≡ names_written w i → r ≡ false → o ≡ newest_operands_by w i o
none_named None i o said isnt = refl
none_named (Some (at, v)) i o said isnt =
    let is : Pointer → Bool = λ p. eqb at.0 p.0 in
    let none = none_held (is i.first) (is i.second) (is i.third) (sym said ∙ isnt) in
    simp (none.0, none.1, none.2, and-false)
