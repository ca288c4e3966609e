-- Carried by `by_numbers`: the four numbers as they were read, and the edition by the first offset.
use borrow.Author.Rules.{rules}
use Rattle.table.proofs.Decided.{deciding}
use Rattle.job_rules.specs.Read.{tested_of, header_of}
use Rattle.job_rules.proofs.Refusals.{by_numbers}
use Rattle.job_reader.proofs.header.read_header.Goals as goal

pub returns-then-file-lt8 : goal.returns-then-file-lt8
unfolding header_of tested_of
returns-then-file-lt8 c = search deciding

pub returns : goal.returns
returns c = search (by_numbers, rules)
