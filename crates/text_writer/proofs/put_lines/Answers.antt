-- Carried by `piece_put`. The invariant: the lines of the words before i stand at the front.
use mathlib.Core.Path.{refl}
use Rattle.text_writer.proofs.Pieces.{as_long, fits_behind, piece_put}
use Rattle.text_writer.proofs.Listings.{word_small, no_line, all_lines}
use Rattle.text_writer.proofs.put_lines.Goals as goal

pub loop-w-init : goal.loop-w-init
loop-w-init c = (refl, no_line _ _ c.requires.1)

pub put_line-size-requires : goal.put_line-size-requires
put_line-size-requires c =
    let taken = c.loop-w-test.true in
    let pre = c.requires in
    (word_small _ pre.0 _ taken, fits_behind c.loop-w.invariant.1 taken 0)

pub loop-w-preserved : goal.loop-w-preserved
loop-w-preserved c =
    let next = piece_put c.loop-w.invariant.1 c.loop-w-test.true 0 _ _ c.put_line-size.ensures in
    (as_long next, next)

pub returns : goal.returns
returns c = all_lines c.loop-w.invariant.1 c.loop-w-test.false
