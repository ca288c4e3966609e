-- Carried by the laws of `Numbers`: the value and the end, with the digits from there on, are those of the number.
use Rattle.std.proofs.Common.{arith}
use Rattle.text_rules.specs.Number.{is_digit}
use Rattle.text_rules.proofs.Fronts.{front_at_end}
use Rattle.text_reader.proofs.Numbers.{number_more, number_ended, reaches_limit, all_read}
use Rattle.text_reader.proofs.number.number_in.Goals as goal
use Rattle.text_reader.proofs.number.number_in.Goals.{else-loop-end-test, then-loop-end-test+then-d}

pub returns-then-value-limit : goal.returns-then-value-limit
returns-then-value-limit g c = reaches_limit _ c.requires.1 c.loop-end.invariant.2 _ c.if-value-limit.true

pub loop-end-preserved : goal.loop-end-preserved
loop-end-preserved g c = (
  omega arith,
  omega arith,
  number_more c.loop-end.invariant.2 c.loop-end-test.true c.digit-d.ensures c.if-d.false,
)

pub judged-requires : goal.judged-requires
judged-requires g c =
    let inv = c.loop-end.invariant in (
      inv.0,
      inv.1,
      c.requires.1,
      all_read inv.2 (elim c.loop-end-test.branch [
        | else-loop-end-test w ↦ front_at_end (is_digit _) _ _ w.loop-end-test.false
        | then-loop-end-test+then-d w ↦ number_ended inv.2 w.loop-end-test.true w.digit-d.ensures w.if-d.true
      ]),
    )
