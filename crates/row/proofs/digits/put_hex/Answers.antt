-- Carried by `digit_more`.
use borrow.Author.Rules.{rules}
use Rattle.row.proofs.Pieces.{less_left, digit_more}
use Rattle.row.proofs.digits.put_hex.Goals as goal

pub loop-i-preserved : goal.loop-i-preserved
loop-i-preserved c = search (less_left, digit_more, rules)
