use Rattle.std.proofs.Common.{List, ℕ, Bor}
use Rattle.script.specs.Words.{line_end}
use Rattle.script.proofs.Parts.{behind_shorter}
use Rattle.calls.proofs.lines.take_piece.Goals as goal

pub loop-last-smaller : goal.loop-last-smaller
loop-last-smaller g c =
    let text = c.loop-last.rest.now in
    rw c.in_default-Some.is-1 (behind_shorter (λ (rest : Bor (List ℕ)). rest.now) (line_end 0 text) text c.in_default-Some.is-1 c.first_line.ensures)
