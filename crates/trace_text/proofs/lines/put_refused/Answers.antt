-- Carried by `one_put` and `two_put`: the digits at the front of the part behind the word, one or two by the test as it came out.
use borrow.Author.Rules.{rules}
use Rattle.trace_rules.proofs.TextLengths.{word_fits, one_fits, two_fits, one_put, two_put}
use Rattle.trace_text.proofs.lines.put_refused.Goals as goal

pub put_refused_word-requires : goal.put_refused_word-requires
put_refused_word-requires c = search (word_fits, rules)

pub put_one_digit-requires : goal.put_one_digit-requires
put_one_digit-requires c = search (one_fits, rules)

pub put_two_digits-requires : goal.put_two_digits-requires
put_two_digits-requires c = search (two_fits, rules)

pub returns-then-number-lt10 : goal.returns-then-number-lt10
returns-then-number-lt10 c = search one_put

pub returns-else-number-lt10 : goal.returns-else-number-lt10
returns-else-number-lt10 c = search two_put
