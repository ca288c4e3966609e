-- Carried by `li_reads`, `multiply_reads` and `short_reads`.
use Rattle.table.proofs.Rows.{li_reads, multiply_reads, short_reads}
use Rattle.table.proofs.operands.reads.Goals as goal

pub returns-then-is_li : goal.returns-then-is_li
returns-then-is_li c = search li_reads

pub returns-then-is_multiply : goal.returns-then-is_multiply
returns-then-is_multiply c = search multiply_reads

pub returns : goal.returns
returns c = search short_reads
