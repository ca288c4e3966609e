-- For every public function: it asks nothing and no second answer fits, since its contract is one equation and has no `requires`.
-- Assumes nothing.
use mathlib.Core.Path.{refl, sym, ap, ◌∙◌}
use Rattle.determined.specs.Determined.{Determined}
use Rattle.determined.proofs.OneEquation.{by_value, no_requires}
use Rattle.job_writer.proofs.tests.size_or_refusal.Kinds as size_or_refusal_kinds
use Rattle.job_writer.proofs.tests.size_or_refusal.Reads as size_or_refusal_reads
use Prim.Native.Nat.{ℕ}
use mathlib.Core.List.{List}
use Rattle.job_rules.specs.Write.{Written}
use Rattle.job_rules.proofs.Said.{unsaid_written}
use Rattle.job_writer.proofs.write_job.Kinds as write_job_kinds
use Rattle.job_writer.proofs.write_job.Reads as write_job_reads
use Rattle.job_writer.proofs.registers.register_bytes.Kinds as register_bytes_kinds
use Rattle.job_writer.proofs.registers.register_bytes.Reads as register_bytes_reads
use Rattle.job_writer.proofs.largest.Kinds as largest_kinds
use Rattle.job_writer.proofs.largest.Reads as largest_reads
use Rattle.job_writer.proofs.told.size_in.Kinds as size_in_kinds
use Rattle.job_writer.proofs.told.size_in.Reads as size_in_reads

pub size_or_refusal_unique : Determined 2 size_or_refusal_kinds.ps size_or_refusal_kinds.r size_or_refusal_reads.requires size_or_refusal_reads.Post
size_or_refusal_unique = record {
  asks_nothing = λ κs a. no_requires;
  one_answer = λ κs a x y v w p q. (unsaid_written x y (p ∙ sym q), refl);
}

pub write_job_unique : Determined 3 write_job_kinds.ps write_job_kinds.r write_job_reads.requires write_job_reads.Post
write_job_unique = record {
  asks_nothing = λ κs a. no_requires;
  one_answer = λ κs a x y v w p q.
      let same = p ∙ sym q in
      (unsaid_written x y (ap (λ (z : Written × List ℕ). z.0) same), λ i. (v.0, (v.1.0, (v.1.1.0, (ap (λ (z : Written × List ℕ). z.1) same i, v.1.1.1.1)))));
}

pub register_bytes_unique : Determined 0 register_bytes_kinds.ps register_bytes_kinds.r register_bytes_reads.requires register_bytes_reads.Post
register_bytes_unique = by_value (λ κs a. no_requires) (λ κs a v w. refl)

pub largest_unique : Determined 0 largest_kinds.ps largest_kinds.r largest_reads.requires largest_reads.Post
largest_unique = by_value (λ κs a. no_requires) (λ κs a v w. refl)

pub size_in_unique : Determined 1 size_in_kinds.ps size_in_kinds.r size_in_reads.requires size_in_reads.Post
size_in_unique = by_value (λ κs a. no_requires) (λ κs a v w. refl)
