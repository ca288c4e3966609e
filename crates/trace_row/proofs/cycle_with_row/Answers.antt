-- Carried by `not_cycled`, `row_refused` and `row_put`: each answer as it came.
use mathlib.Core.Path.{◌∙◌, ap, sym}
use Prim.Native.Nat.{ℕ}
use Rattle.std.specs.declared.result.Result.{Result}
use Rattle.table.specs.declared.refusal.Refusal.{Refusal}
use Rattle.table.specs.Refusal.{number_in}
use Rattle.table.proofs.Told.{never_0}
use Rattle.trace_row.proofs.CycleWithRow.{not_cycled, row_refused, row_put}
use Rattle.trace_row.proofs.cycle_with_row.Goals as goal

abbrev number : Result (Unit {0}) Refusal → ℕ
number = number_in

pub returns-in-Err : goal.returns-in-Err
returns-in-Err c =
    not_cycled c.args.u c.args.start c.args.buffer.now c.cycle-after.ensures (λ e. never_0 c.in-Err.field-0 (sym (ap number c.in-Err.is) ∙ e))

pub returns-in-Err-write_row : goal.returns-in-Err-write_row
returns-in-Err-write_row c =
    row_refused c.args.u c.args.start c.args.buffer.now c.cycle-after.ensures (ap number c.in_default.is) c.in_flight.ensures c.row_of_cycle-row.ensures
    (ap (λ (r : Result (Unit {0}) Refusal). (number r, c.write_row.new.buffer)) (sym c.in-Err-write_row.is) ∙ c.write_row.ensures) (never_0 c.in-Err-write_row.why)

pub returns : goal.returns
returns c =
    row_put c.args.u c.args.start c.args.buffer.now c.cycle-after.ensures (ap number c.in_default.is) c.in_flight.ensures c.row_of_cycle-row.ensures
    c.write_row.ensures (ap number c.in_default-write_row.is)
