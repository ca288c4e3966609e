-- For every public function: it asks nothing and no second answer and no second buffer fits, since its contract is one equation of both and has
-- no `requires`.
-- Assumes nothing.
use Prim.Native.Nat.{ℕ}
use mathlib.Core.Path.{refl, sym, ap, ◌∙◌}
use mathlib.Core.List.{List}
use Rattle.determined.specs.Determined.{Determined}
use Rattle.determined.proofs.OneEquation.{by_value, no_requires}
use Rattle.text_writer.proofs.largest.Kinds as largest_kinds
use Rattle.text_writer.proofs.largest.Reads as largest_reads
use Rattle.text_writer.proofs.list_program.Kinds as list_program_kinds
use Rattle.text_writer.proofs.list_program.Reads as list_program_reads
use Rattle.text_writer.proofs.list_job.Kinds as list_job_kinds
use Rattle.text_writer.proofs.list_job.Reads as list_job_reads
use Rattle.job_rules.specs.Write.{Written}
use Rattle.job_rules.proofs.Said.{unsaid_written}

pub largest_unique : Determined 0 largest_kinds.ps largest_kinds.r largest_reads.requires largest_reads.Post
largest_unique = by_value (λ κs a. no_requires) (λ κs a v w. refl)

pub list_program_unique : Determined 2 list_program_kinds.ps list_program_kinds.r list_program_reads.requires list_program_reads.Post
list_program_unique = record {
  asks_nothing = λ κs a. no_requires;
  one_answer = λ κs a x y v w p q.
      let same = p ∙ sym q in
      (unsaid_written x y (ap (λ (z : Written × List ℕ). z.0) same), λ i. (v.0, (ap (λ (z : Written × List ℕ). z.1) same i, v.1.1)));
}

pub list_job_unique : Determined 2 list_job_kinds.ps list_job_kinds.r list_job_reads.requires list_job_reads.Post
list_job_unique = record {
  asks_nothing = λ κs a. no_requires;
  one_answer = λ κs a x y v w p q.
      let same = p ∙ sym q in
      (unsaid_written x y (ap (λ (z : Written × List ℕ). z.0) same), λ i. (v.0, (ap (λ (z : Written × List ℕ). z.1) same i, v.1.1)));
}
