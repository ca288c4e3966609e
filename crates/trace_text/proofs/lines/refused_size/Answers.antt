-- Carried by the lengths of the text with one digit and with two.
use mathlib.Core.Path.{sym}
use native.Mathlib.Omega.{arith}
use Rattle.trace_rules.proofs.TextLengths.{refused_one_long, refused_two_long}
use Rattle.trace_text.proofs.lines.refused_size.Goals as goal

pub returns-then-number-lt10 : goal.returns-then-number-lt10
returns-then-number-lt10 c = sym (refused_one_long _ (omega arith))

pub returns : goal.returns
returns c = sym (refused_two_long _ (omega arith))
