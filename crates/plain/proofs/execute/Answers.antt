-- Carried by `one_line_lem`.
use mathlib.Core.Path.{ap, ◌∙◌}
use lib.ListN.{get_or}
use Rattle.plain_rules.specs.Answer.{ExecutedProgram}
use Rattle.plain_rules.proofs.Refusals as laws
use Rattle.plain.proofs.Converted.{first_said}
use Rattle.plain.proofs.execute.Goals as goal

pub returns : goal.returns
returns c =
    first_said (λ x r h. h) _ _ _ c.map-answer.ensures.cases
    ∙ ap (λ (a : ExecutedProgram). record { executed = a.executed; mark = get_or a.marks 0 0 }) (c.execute_all-all.ensures ∙ laws.one_line_lem _ _ _)
