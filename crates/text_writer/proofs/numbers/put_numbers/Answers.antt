-- Carried by `number_put`, and by the laws of `Operands`. The invariant: the numbers of the operands before the slot stand at the front.
use mathlib.Core.Path.{refl}
use native.Mathlib.Omega.{arith}
use Rattle.text_writer.proofs.Lines.{numbers_small}
use Rattle.text_writer.proofs.Operands.{four_passed, none_more, number_there, some_weight, some_limit, number_is}
use Rattle.text_writer.proofs.Pieces.{behind_space, none_yet, all_put, as_long, number_fits, still_fits, digits_fit, number_put}
use Rattle.text_writer.proofs.numbers.put_numbers.Goals as goal

pub loop-slot-init : goal.loop-slot-init
loop-slot-init c = (refl, none_yet behind_space _ _ c.requires.1)

pub bounds-out-at : goal.bounds-out-at
bounds-out-at c = omega (arith, number_fits c.loop-slot.invariant.1 (number_there c.args.row c.args.w (omega (arith, c.requires.0)) c.args.forms.now.as_stated _ _ c.loop-slot-test.true _ c.in-Some.is))

pub slice_bounds-put_decimal-count : goal.slice_bounds-put_decimal-count
slice_bounds-put_decimal-count c = omega (arith, still_fits c.loop-slot.invariant.1 (number_there c.args.row c.args.w (omega (arith, c.requires.0)) c.args.forms.now.as_stated _ _ c.loop-slot-test.true _ c.in-Some.is))

pub slice_bounds-put_decimal-start : goal.slice_bounds-put_decimal-start
slice_bounds-put_decimal-start c = omega (arith, still_fits c.loop-slot.invariant.1 (number_there c.args.row c.args.w (omega (arith, c.requires.0)) c.args.forms.now.as_stated _ _ c.loop-slot-test.true _ c.in-Some.is))

pub nonzero_div-w : goal.nonzero_div-w
nonzero_div-w c = some_weight c.args.row c.args.w (omega (arith, c.requires.0)) c.args.forms.now.as_stated _ _ c.loop-slot-test.true _ c.in-Some.is

pub nonzero_rem-w : goal.nonzero_rem-w
nonzero_rem-w c = some_limit c.args.row c.args.w (omega (arith, c.requires.0)) c.args.forms.now.as_stated _ _ c.loop-slot-test.true _ c.in-Some.is

pub put_decimal-size-requires : goal.put_decimal-size-requires
put_decimal-size-requires c =
    let is = number_is c.args.row c.args.w (omega (arith, c.requires.0)) c.args.forms.now.as_stated _ _ c.loop-slot-test.true _ c.in-Some.is in
    (rw is at (numbers_small c.args.row c.requires.0 c.args.w c.loop-slot.slot-index), rw is at (digits_fit c.loop-slot.invariant.1 (number_there c.args.row c.args.w (omega (arith, c.requires.0)) c.args.forms.now.as_stated _ _ c.loop-slot-test.true _ c.in-Some.is)))

pub loop-slot-preserved : goal.loop-slot-preserved
loop-slot-preserved c =
    let is = number_is c.args.row c.args.w (omega (arith, c.requires.0)) c.args.forms.now.as_stated _ _ c.loop-slot-test.true _ c.in-Some.is in
    let next = number_put c.loop-slot.invariant.1 (number_there c.args.row c.args.w (omega (arith, c.requires.0)) c.args.forms.now.as_stated _ _ c.loop-slot-test.true _ c.in-Some.is) _ _ (rw is c.put_decimal-size.ensures) in
    (as_long next, next)

pub returns-in_default : goal.returns-in_default
returns-in_default c = all_put c.loop-slot.invariant.1 (none_more c.args.row c.args.w (omega (arith, c.requires.0)) c.args.forms.now.as_stated _ _ c.loop-slot-test.true _ c.in_default.is)

pub returns-after-loop-slot : goal.returns-after-loop-slot
returns-after-loop-slot c = all_put c.loop-slot.invariant.1 (four_passed c.args.row c.args.w (omega (arith, c.requires.0)) c.loop-slot-test.false)
