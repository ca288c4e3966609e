use Rattle.std.proofs.Common.{List, ℕ, Bor}
use Rattle.script.specs.Words.{line_end}
use Rattle.script.proofs.Parts.{behind_shorter}
use Rattle.bench.proofs.print_answers.Goals as goal

pub loop-line-smaller : goal.loop-line-smaller
loop-line-smaller g c =
    let text = c.loop-line.rest.now in
    rw c.in_default-Some.is-1 (behind_shorter (λ (rest : Bor (List ℕ)). rest.now) (line_end 0 text) text c.in_default-Some.is-1 c.first_line.ensures)
