-- Carried by what is left of the piece, which each line makes shorter.
use Rattle.std.proofs.Common.{length}
use Rattle.calls.proofs.lines.take_piece.Given as goal

abbrev pub decreases-loop-last : goal.decreases-loop-last
decreases-loop-last g l = length l.rest
