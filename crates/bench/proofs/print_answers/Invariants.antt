-- Carried by what is left of the script, which each line makes shorter.
use Rattle.std.proofs.Common.{length}
use Rattle.bench.proofs.print_answers.Given as goal

abbrev pub decreases-loop-line : goal.decreases-loop-line
decreases-loop-line g l = length l.rest
