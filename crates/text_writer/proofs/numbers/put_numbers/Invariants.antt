-- Carried by `number_put`. The invariant: the numbers of the operands before the slot stand at the front.
use mathlib.Core.Path.{◌≡◌}
use lib.ListN.{length}
use Rattle.text_rules.specs.Forms.{form_at}
use Rattle.text_rules.specs.Listing.{numbers_in}
use Rattle.text_writer.proofs.Pieces.{SoFar, behind_space}
use Rattle.text_writer.proofs.numbers.put_numbers.Given as goal

abbrev pub invariant-loop-slot : goal.invariant-loop-slot
invariant-loop-slot l = (length l.out ≡ length l.initial.out) × SoFar behind_space (numbers_in l.w (form_at l.row)) l.initial.out l.out l.at l.slot-index
