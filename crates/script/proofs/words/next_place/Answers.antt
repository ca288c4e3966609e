use Rattle.std.proofs.Common.{rules, tests}
use lib.Dec.{eqb}
use Rattle.std.proofs.lemmas.Iterator.{YieldsList-from_slice}
use Rattle.std.proofs.lemmas.Iterator.Search.{position_from_yields_List}
use Rattle.script.proofs.Bytes.{beyond, found_next}
use Rattle.script.proofs.words.next_place.Goals as goal

pub returns-then-at-text : goal.returns-then-at-text
returns-then-at-text c = beyond _ _ _ c.if-at-text.true

pub returns : goal.returns
returns c =
    found_next c.args.byte c.args.at c.args.text.now c.if-at-text.false
    (position_from_yields_List (λ b. eqb b c.args.byte) _ _ _ c.position.ensures.ran (YieldsList-from_slice _ cc) (λ x b q k. search (rules, tests))) c.unwrap_or.ensures
