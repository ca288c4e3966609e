-- Carried by the laws of `Texts`: a line is refused, or it is one more.
use Rattle.std.proofs.Common.{◌∙◌, refl, sym, ap, arith}
use Rattle.table.proofs.Told.{never_0}
use Rattle.text_reader.specs.Said.{said_line}
use Rattle.text_reader.proofs.Texts.{text_ended, line_65, line_refused, line_more}
use Rattle.text_reader.proofs.read_text.Goals as goal

pub returns-then-n-eq64 : goal.returns-then-n-eq64
returns-then-n-eq64 c = line_65 c.loop-at.invariant c.loop-at-test.true c.if-n-eq64.true

pub returns-in-Err : goal.returns-in-Err
returns-in-Err c =
    line_refused c.loop-at.invariant c.loop-at-test.true c.if-n-eq64.false (ap said_line (sym c.in-Err.is) ∙ c.line_in.ensures) (never_0 _)

pub overflow_add-at : goal.overflow_add-at
overflow_add-at c =
    omega (
      arith,
      (line_more c.loop-at.invariant c.loop-at-test.true c.if-n-eq64.false (ap said_line (sym c.in-Ok.is) ∙ c.line_in.ensures) refl).within,
    )

pub loop-at-preserved : goal.loop-at-preserved
loop-at-preserved c =
    line_more c.loop-at.invariant c.loop-at-test.true c.if-n-eq64.false (ap said_line (sym c.in-Ok.is) ∙ c.line_in.ensures) refl

pub returns : goal.returns
returns c = text_ended c.loop-at.invariant c.loop-at-test.false
