-- Carried by `piece_put`. The invariant: the lines of the words before i stand at the front.
use mathlib.Core.Path.{◌≡◌}
use lib.ListN.{length}
use Rattle.text_rules.specs.Listing.{line_of_word}
use Rattle.text_writer.proofs.Pieces.{SoFar}
use Rattle.text_writer.proofs.put_lines.Given as goal

abbrev pub invariant-loop-w : goal.invariant-loop-w
invariant-loop-w l = (length l.out ≡ length l.initial.out) × SoFar line_of_word l.words l.initial.out l.out l.at l.w-index
