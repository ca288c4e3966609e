-- Carried by `by_value`: there is room for every text.
use mathlib.Core.Path.{◌≡◌, refl, ◌∙◌}
use Prim.Native.Nat.{ℕ}
use Rattle.std.specs.Result.{result_unwrap_or}
use Rattle.std.specs.declared.result.Result.{Result}
use Rattle.std.specs.declared.result.Result.TheVariants.{Ok, Err}
use Rattle.table.specs.declared.refusal.Refusal.{Refusal}
use Rattle.table.specs.Refusal.{value_in}
use Rattle.trace_rules.proofs.TextTheorems.{by_value}
use Rattle.trace_text.proofs.whole_text.Goals as goal

sized : (answer : Result ℕ Refusal) → result_unwrap_or answer 0 ≡ value_in 0 answer
sized (Ok size) = refl
sized (Err why) = refl

pub returns : goal.returns
returns c =
    let size = c.unwrap_or-size.ensures ∙ sized c.write_text.result in
    (λ i. record { bytes = c.write_text.new.out; size = size i }) ∙ by_value c.args.file.now c.write_text.ensures
