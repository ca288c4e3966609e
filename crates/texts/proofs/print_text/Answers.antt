-- The words that were read stand within those that are answered.
use Rattle.std.proofs.Common.{arith, ap}
use Rattle.text_rules.specs.Text.{ReadText}
use Rattle.text_rules.proofs.Limits.{few_words}
use Rattle.texts.proofs.print_text.Goals as goal

pub shared_ref_as_front-print_words : goal.shared_ref_as_front-print_words
shared_ref_as_front-print_words g c = omega (arith, few_words c.args.text.now, ap (λ (t : ReadText). t.n.0) c.in-Ok.ensures)
