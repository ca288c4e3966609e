-- Carried by the laws of decisions: each test as it came out, in the order of the documents.
use Rattle.table.proofs.Decided.{deciding}
use Rattle.job_rules.specs.Write.{size_or_refusal}
use Rattle.job_rules.proofs.Pieces.{job_size}
use Rattle.job_writer.proofs.tests.size_or_refusal.Goals as goal

pub returns-then-words-gt64 : goal.returns-then-words-gt64
unfolding size_or_refusal
returns-then-words-gt64 c = search deciding

pub returns-then-registers-gt512 : goal.returns-then-registers-gt512
unfolding size_or_refusal
returns-then-registers-gt512 c = search deciding depth 12

pub returns-then-registers-ne0 : goal.returns-then-registers-ne0
unfolding size_or_refusal
returns-then-registers-ne0 c = search deciding depth 12

pub returns-then-bad-words : goal.returns-then-bad-words
unfolding size_or_refusal
returns-then-bad-words c = rw (← c.first_bad-bad.ensures) (search deciding depth 12)

pub returns-then-not-first_held : goal.returns-then-not-first_held
unfolding size_or_refusal
returns-then-not-first_held c = rw (← c.first_bad-bad.ensures, ← c.first_held.ensures) (search deciding depth 12)

pub returns-then-room-size : goal.returns-then-room-size
unfolding size_or_refusal
returns-then-room-size c =
    rw (← c.first_bad-bad.ensures, ← c.first_held.ensures, job_size, ← c.instructions_at.ensures)
    (search deciding depth 12)

pub returns : goal.returns
unfolding size_or_refusal
returns c =
    rw (← c.first_bad-bad.ensures, ← c.first_held.ensures, job_size, ← c.instructions_at.ensures)
    (search deciding depth 12)
