use Rattle.std.proofs.Common.{arith, sym, length}
use borrow.Author.Tests.{eqb-true, eqb-false}
use Rattle.script.proofs.Numerals.{none_said, all_said, no_digit, too_large}
use Rattle.script.proofs.numbers.in_base.Goals as goal

pub returns-then-is_empty : goal.returns-then-is_empty
returns-then-is_empty c = sym (none_said _ _ (eqb-true _ _ (sym c.if-is_empty.ensures)))

pub returns-then-d-base : goal.returns-then-d-base
returns-then-d-base c = no_digit c.loop-b.invariant c.loop-b-test.true c.digit-d.ensures c.if-d-base.true

pub returns-then-value-ge-LIMIT : goal.returns-then-value-ge-LIMIT
returns-then-value-ge-LIMIT c = too_large c.loop-b.invariant c.loop-b-test.true c.digit-d.ensures (omega arith) c.if-value-ge-LIMIT.true

pub returns : goal.returns
returns c =
    let some = eqb-false (length c.args.digits.now) 0 (sym c.if-is_empty.ensures) in
    all_said c.loop-b.invariant c.loop-b-test.false (omega (arith, some, c.loop-b-test.false))
