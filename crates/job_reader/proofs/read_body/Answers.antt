-- Carried by `bad_in_file`, `nonzero_in_file` and `job_in_file`: the words with their zeros hold the words of the file in front, and so do the registers.
use borrow.Author.Rules.{rules}
use Rattle.std.proofs.Common.{ap, not}
use Rattle.job_rules.proofs.Refusals.{bad_in_file, nonzero_in_file, job_in_file}
use Rattle.job_reader.proofs.read_body.Goals as goal

pub returns-then-bad-lines : goal.returns-then-bad-lines
returns-then-bad-lines c = search (bad_in_file, rules)

pub returns-then-not-may_hold : goal.returns-then-not-may_hold
returns-then-not-may_hold c = search (nonzero_in_file, rules)

pub returns : goal.returns
returns c =
    job_in_file c.args.counts.edition c.args.l.now c.args.counts.n.0 c.args.counts.r c.instructions_at-at.ensures c.read_words-words.ensures
    c.first_bad-bad.ensures c.if-bad-lines.false c.first_register.ensures c.may_hold.ensures (ap not c.if-not-may_hold.false) c.read_registers-registers.ensures
