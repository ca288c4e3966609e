-- Carried by the laws of `TextPut`: the text that the load asks for, which the callee puts.
use mathlib.Core.Path.{ap, sym, ◌∙◌}
use Prim.Native.Nat.{ℕ}
use Rattle.std.specs.declared.result.Result.{Result}
use Rattle.table.specs.declared.refusal.Refusal.{Refusal}
use Rattle.table.specs.Refusal.{number_in}
use Rattle.table.proofs.Told.{never_0}
use Rattle.trace_rules.specs.JobText.{refused_text, put_of}
use Rattle.trace_rules.proofs.TextPut.{refused_put, accepted_put, gone_made, went_on}
use Rattle.trace_text.proofs.write_text.Goals as goal

abbrev number : Result (Unit {0}) Refusal → ℕ
number = number_in

pub returns-in-Err : goal.returns-in-Err
returns-in-Err c =
    let told = ap number c.in-Err.is in
    refused_put c.args.file.now c.fresh.ensures c.load-loaded.ensures c.args.out.now (λ e. never_0 c.in-Err.why (sym told ∙ e))
    (c.refused.ensures ∙ ap (λ (k : ℕ). put_of (refused_text k) c.args.out.now) (sym told))

pub trace-requires : goal.trace-requires
trace-requires c = (
  gone_made c.args.file.now c.fresh.ensures c.load-loaded.ensures c.go-gone.ensures,
  went_on c.args.file.now c.fresh.ensures c.load-loaded.ensures c.go-gone.ensures,
)

pub returns : goal.returns
returns c =
    accepted_put c.args.file.now c.fresh.ensures c.load-loaded.ensures c.go-gone.ensures (ap number c.in_default.is) c.args.out.now c.trace.ensures
