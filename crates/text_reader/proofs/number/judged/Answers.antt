-- Carried by the laws of `Numbers` on all digits: each test as it came out.
use Rattle.text_reader.proofs.Numbers.{above_limit, no_number, number_read}
use Rattle.text_reader.proofs.number.judged.Goals as goal
use Rattle.text_reader.proofs.number.judged.Goals.{then-value-limit-via-then-value-limit, then-value-limit-via-else-value-limit+then-not-is_numeral}

pub returns-then-value-limit : goal.returns-then-value-limit
returns-then-value-limit g c =
    let pre = c.requires in
    elim c.then-value-limit.branch [
      | then-value-limit-via-then-value-limit w ↦ above_limit _ _ _ _ _ _ pre.0 pre.2 pre.3 w.if-value-limit.true
      | then-value-limit-via-else-value-limit+then-not-is_numeral w ↦ no_number _ _ _ _ _ _ pre.0 pre.2 pre.3 w.is_numeral.ensures w.if-not-is_numeral.true
    ]

pub returns : goal.returns
returns g c =
    let pre = c.requires in
    number_read _ _ _ _ _ _ pre.0 pre.2 pre.3 c.is_numeral.ensures c.if-not-is_numeral.false c.if-value-limit.false
