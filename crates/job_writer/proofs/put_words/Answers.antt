-- Carried by `next_written`. The invariant: the words before i stand at the front.
use mathlib.Core.List.{flat_map}
use mathlib.Core.Path.{refl}
use borrow.Author.Rules.{rules}
use Rattle.job_rules.proofs.Pieces.{next_written}
use Rattle.job_writer.proofs.put_words.Goals as goal

pub loop-i-init : goal.loop-i-init
unfolding flat_map
loop-i-init c = refl

pub loop-i-preserved : goal.loop-i-preserved
loop-i-preserved c = search (next_written, rules)
