-- Carried by the laws of `Behind`: the operands from the slot on, at the place and with the word so far, answer as all operands do.
use Rattle.std.proofs.Common.{◌∙◌, ap, arith}
use Rattle.text_reader.specs.Said.{said_operands}
use Rattle.text_reader.proofs.Behind.{none_so_far, four_passed, none_more, read_asks, unspaced, unsaid, operand_more}
use Rattle.text_reader.proofs.operands.operands_by.Goals as goal
use Rattle.text_reader.proofs.operands.operands_by.Goals.{else-loop-slot-test, then-loop-slot-test+in_default}

pub loop-slot-init : goal.loop-slot-init
loop-slot-init g c = none_so_far _ c.requires.0 _ _ c.requires.1 c.args.forms.now.as_stated _

pub returns-then-not-begins_with : goal.returns-then-not-begins_with
returns-then-not-begins_with g c = unspaced c.requires.0 c.loop-slot.invariant c.args.forms.now.as_stated _ c.loop-slot-test.true _ c.in-Some.is c.requires.2 c.begins_with.ensures c.if-not-begins_with.true

pub number_in-requires : goal.number_in-requires
number_in-requires g c = read_asks c.requires.0 c.loop-slot.invariant c.args.forms.now.as_stated _ c.loop-slot-test.true _ c.in-Some.is c.requires.2 c.begins_with.ensures c.if-not-begins_with.false

pub returns-in_err-number : goal.returns-in_err-number
returns-in_err-number g c = ap said_operands c.from_residual.ensures ∙ unsaid c.requires.0 c.loop-slot.invariant c.args.forms.now.as_stated _ c.loop-slot-test.true _ c.in-Some.is c.requires.2 c.begins_with.ensures c.if-not-begins_with.false c.in_err-number.ensures

pub overflow_mul-word : goal.overflow_mul-word
overflow_mul-word g c = omega (arith, (operand_more c.requires.0 c.loop-slot.invariant c.args.forms.now.as_stated _ c.loop-slot-test.true _ c.in-Some.is c.requires.2 c.begins_with.ensures c.if-not-begins_with.false c.in_ok-number.ensures).room)

pub overflow_add-word : goal.overflow_add-word
overflow_add-word g c = omega (arith, (operand_more c.requires.0 c.loop-slot.invariant c.args.forms.now.as_stated _ c.loop-slot-test.true _ c.in-Some.is c.requires.2 c.begins_with.ensures c.if-not-begins_with.false c.in_ok-number.ensures).room)

pub loop-slot-preserved : goal.loop-slot-preserved
loop-slot-preserved g c = operand_more c.requires.0 c.loop-slot.invariant c.args.forms.now.as_stated _ c.loop-slot-test.true _ c.in-Some.is c.requires.2 c.begins_with.ensures c.if-not-begins_with.false c.in_ok-number.ensures

pub returns : goal.returns
returns g c =
    let so_far = c.loop-slot.invariant in
    c.ended.ensures _
    ∙ elim c.loop-slot-test.branch [
      | else-loop-slot-test w ↦ four_passed c.requires.0 so_far w.loop-slot-test.false
      | then-loop-slot-test+in_default w ↦ none_more c.requires.0 so_far c.args.forms.now.as_stated _ w.loop-slot-test.true _ w.in_default.is
    ]
