-- Carried by the laws of `Listings`: each test as it came out, in the order of the rules.
use native.Mathlib.Omega.{arith}
use Rattle.text_writer.proofs.Listings.{listing_fits, too_many, bad_word, no_room, copied}
use Rattle.text_writer.proofs.list_program.Goals as goal

pub returns-then-words-gt64 : goal.returns-then-words-gt64
returns-then-words-gt64 c = too_many _ _ c.if-words-gt64.true

pub returns-then-bad-words : goal.returns-then-bad-words
returns-then-bad-words c = bad_word _ _ c.if-words-gt64.false c.first_bad-bad.ensures c.if-bad-words.true

pub put_lines-size-requires : goal.put_lines-size-requires
put_lines-size-requires c =
    let first = c.first_bad-bad.ensures in
    (omega arith, listing_fits _ c.if-words-gt64.false (omega arith))

pub returns-then-buffer-size : goal.returns-then-buffer-size
returns-then-buffer-size c =
    no_room _ _ c.if-words-gt64.false c.first_bad-bad.ensures c.if-bad-words.false c.put_lines-size.ensures c.if-buffer-size.true

pub returns : goal.returns
returns c =
    copied _ _ c.if-words-gt64.false c.first_bad-bad.ensures c.if-bad-words.false c.put_lines-size.ensures (omega arith) c.put_front.ensures
