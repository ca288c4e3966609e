-- For every public function: it asks nothing and no second answer fits, since its contract is one equation and has no `requires`.
-- Assumes nothing.
use mathlib.Core.Path.{refl, sym, ◌∙◌}
use Rattle.determined.specs.Determined.{Determined}
use Rattle.determined.proofs.OneEquation.{by_value, no_requires}
use Rattle.job_rules.proofs.Said.{unsaid_read}
use Rattle.job_reader.proofs.header.read_header.Kinds as read_header_kinds
use Rattle.job_reader.proofs.header.read_header.Reads as read_header_reads
use Rattle.job_reader.proofs.bytes_to_read.Kinds as bytes_to_read_kinds
use Rattle.job_reader.proofs.bytes_to_read.Reads as bytes_to_read_reads
use Rattle.job_reader.proofs.read_job.Kinds as read_job_kinds
use Rattle.job_reader.proofs.read_job.Reads as read_job_reads
use Rattle.job_reader.proofs.told.job_in.Kinds as job_in_kinds
use Rattle.job_reader.proofs.told.job_in.Reads as job_in_reads

pub bytes_to_read_unique : Determined 0 bytes_to_read_kinds.ps bytes_to_read_kinds.r bytes_to_read_reads.requires bytes_to_read_reads.Post
bytes_to_read_unique = by_value (λ κs a. no_requires) (λ κs a v w. refl)

pub read_header_unique : Determined 1 read_header_kinds.ps read_header_kinds.r read_header_reads.requires read_header_reads.Post
read_header_unique = by_value (λ κs a. no_requires) (λ κs a v w. refl)

pub read_job_unique : Determined 1 read_job_kinds.ps read_job_kinds.r read_job_reads.requires read_job_reads.Post
read_job_unique = record {
  asks_nothing = λ κs a. no_requires;
  one_answer = λ κs a x y v w p q. (unsaid_read x y (p ∙ sym q), refl);
}

pub job_in_unique : Determined 1 job_in_kinds.ps job_in_kinds.r job_in_reads.requires job_in_reads.Post
job_in_unique = by_value (λ κs a. no_requires) (λ κs a v w. refl)
