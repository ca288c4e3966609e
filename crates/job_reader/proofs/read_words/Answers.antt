-- Carried by `next_read`. The invariant: the array is filled with the words before i.
use native.Mathlib.Omega.{arith}
use Rattle.job_rules.proofs.Pieces.{next_read, word_there}
use Rattle.job_reader.proofs.read_words.Goals as goal

pub loop-i-preserved : goal.loop-i-preserved
loop-i-preserved c =
    let a = c.args in
    next_read _ 4 64 0 a.l.now a.at _ _ _ (omega arith) c.loop-i.invariant (word_there a.l.now _ c.word_at.ensures)
