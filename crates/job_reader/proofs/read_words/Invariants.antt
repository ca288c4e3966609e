-- Carried by `next_read`. The invariant: the array is filled with the words before i.
use mathlib.Core.Path.{◌≡◌}
use lib.ListN.{drop}
use Rattle.job_rules.specs.Read.{filled}
use Rattle.job_rules.specs.Layout.{words_in}
use Rattle.job_reader.proofs.read_words.Given as goal

abbrev pub invariant-loop-i : goal.invariant-loop-i
invariant-loop-i l = l.words ≡ filled 64 0 (words_in l.i (drop l.at l.l))
