-- The round trips once more, of the functions themselves, in either edition: of any runs of `write_job` and `read_job` that meet their contracts as the checker
-- reads them.
-- Assumes nothing.
use Prim.Native.Nat.{ℕ, ◌≤◌}
use mathlib.Core.Path.{◌≡◌, sym, ap, ◌∙◌}
use mathlib.Core.List.{List}
use contract.Lifetimes.{Lfts}
use borrow.Fn.Kinds.{Dens, ended_of}
use denote.Triple.Clauses.{Lasts, at_exit}
use lib.ListN.{length, take}
use Rattle.buffer.specs.Front.{at_front}
use Rattle.std.specs.Prelude.{Result, Ok}
use Rattle.table.specs.declared.Edition.{Edition}
use Rattle.table.specs.declared.refusal.Refusal.{Refusal}
use Rattle.job_rules.specs.declared.Job.{Job}
use Rattle.job_rules.specs.Layout.{Bytes, register_count, registers_of}
use Rattle.job_rules.specs.Read.{ReadJob, said_read, job_of, read_of}
use Rattle.job_rules.specs.Program.{lines_of}
use Rattle.job_rules.specs.Write.{Written, said_written, write_of, register_bytes_of}
use Rattle.job_rules.proofs.Said.{unsaid_read, unsaid_written}
use Rattle.job_rules.proofs.Theorems as reader
use Rattle.job_reader.proofs.read_job.Kinds as read_kinds
use Rattle.job_reader.proofs.read_job.Reads as read_reads
use Rattle.job_writer.proofs.write_job.Kinds as write_kinds
use Rattle.job_writer.proofs.write_job.Reads as write_reads

-- a run of `read_job`: the file that it was lent, and its answer
pub record Reading : Type 1 where
  pub lifetimes : Lfts 1
  pub args : Dens lifetimes read_kinds.ps
  pub answer : Result Job Refusal
  pub lasts : Lasts (ended_of 1 read_kinds.ps read_kinds.r) lifetimes args
  pub meets : read_reads.Post lifetimes args answer (at_exit (ended_of 1 read_kinds.ps read_kinds.r) lifetimes args lasts)

abbrev pub file : Reading → List ℕ
file run = run.args.0.now

-- a run of `write_job`: the edition, words, register bytes, the buffer before and after, and its answer
pub record Writing : Type 1 where
  pub lifetimes : Lfts 3
  pub args : Dens lifetimes write_kinds.ps
  pub answer : Result ℕ Refusal
  pub lasts : Lasts (ended_of 3 write_kinds.ps write_kinds.r) lifetimes args
  pub meets : write_reads.Post lifetimes args answer (at_exit (ended_of 3 write_kinds.ps write_kinds.r) lifetimes args lasts)

abbrev pub edition : Writing → Edition
edition run = run.args.0

abbrev pub words : Writing → List ℕ
words run = run.args.1.0.now

abbrev pub bytes : Writing → List ℕ
bytes run = run.args.1.1.0.now

abbrev pub before : Writing → List ℕ
before run = run.args.1.1.1.0.now

abbrev pub after : Writing → List ℕ
after run = (at_exit (ended_of 3 write_kinds.ps write_kinds.r) run.lifetimes run.args run.lasts).1.1.1.0.now

-- the two contracts, as equations
read_is : (run : Reading) → said_read run.answer ≡ read_of (file run)
read_is run = run.meets

write_is : (run : Writing) → (said_written run.answer, after run) ≡ write_of (edition run) (words run) (bytes run) (before run)
write_is run = run.meets

-- Reading what the writer put at the front of a buffer gives the same job, in the same edition.
pub read_written : (w : Writing) (r : Reading) {size : ℕ} → w.answer ≡ Ok size → file r ≡ take size (after w)
    → r.answer ≡ Ok (job_of (edition w) (words w) (registers_of (register_count (bytes w)) (bytes w)))
read_written w r {size} e f =
    let is : (said_written (Ok size), after w) ≡ write_of (edition w) (words w) (bytes w) (before w)
    = sym (ap (λ (a : Result ℕ Refusal). (said_written a, after w)) e) ∙ write_is w in
    unsaid_read r.answer _
    (read_is r
    ∙ ap read_of f
    ∙ ap (λ (x : Written × List ℕ). read_of (take x.0.size x.1)) is
    ∙ reader.read_written (edition w) (words w) (bytes w) (before w) (sym (ap (λ (x : Written × List ℕ). x.0.refusal) is)))

-- Writing what was read from an accepted file, in the edition that was read, gives the same bytes, and leaves those beyond them. A file lent as `&[u8]`
-- has bytes below 2^8.
pub written_read : (r : Reading) (w : Writing) {job : Job} → r.answer ≡ Ok job → Bytes (file r) → edition w ≡ job.program.edition
    → words w ≡ lines_of job.program → bytes w ≡ register_bytes_of job → length (file r) ≤ length (before w)
    → (w.answer ≡ Ok (length (file r))) × (after w ≡ at_front (file r) (before w))
written_read r w {job} e b d f g room =
    let is : said_read (Ok job) ≡ read_of (file r) = sym (ap said_read e) ∙ read_is r in
    let again : ◌≡◌ {A = Written × List ℕ} (said_written w.answer, after w) (said_written (Ok (length (file r))), at_front (file r) (before w))
    = write_is w
    ∙ (λ i. write_of ((d ∙ ap (λ (v : ReadJob). v.job.program.edition) is) i) ((f ∙ ap (λ (v : ReadJob). lines_of v.job.program) is) i)
    ((g ∙ ap (λ (v : ReadJob). register_bytes_of v.job) is) i) (before w))
    ∙ reader.written_read (file r) (before w) b (sym (ap (λ (v : ReadJob). v.refusal) is)) room in
    (unsaid_written w.answer _ (ap (λ (x : Written × List ℕ). x.0) again), ap (λ (x : Written × List ℕ). x.1) again)
