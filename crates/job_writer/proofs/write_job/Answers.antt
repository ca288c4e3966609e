-- Carried by the laws of `Refusals` on the buffer: the answer decides whether the job is put, and what is not refused fits.
use Prim.Native.Nat.{ℕ, ◌+◌, ◌*◌, ◌≤◌}
use mathlib.Core.Path.{◌≡◌, refl, sym, ap}
use mathlib.Core.List.{List}
use native.Mathlib.Omega.{arith}
use lib.ListN.{length}
use Rattle.std.proofs.lemmas.Result.{err_from_is_err_and}
use Rattle.table.specs.declared.Edition.{Edition}
use Rattle.job_rules.specs.Layout.{instructions_at}
use Rattle.job_rules.specs.Write.{Written, written_of, size_or_refusal}
use Rattle.job_rules.proofs.Refusals as tests
use Rattle.job_rules.proofs.Pieces.{job_size}
use Rattle.table.proofs.Told.{never_0}
use Rattle.job_writer.proofs.write_job.Goals as goal

fits : (edition : Edition) (words bytes : List ℕ) (room : ℕ) {size : ℕ} → written_of 0 0 size ≡ size_or_refusal edition words bytes room
    → (length words ≤ 64) × (length bytes ≤ 512) × (instructions_at edition + 4 * length words + length bytes ≤ room)
fits edition words bytes room e =
    let a = tests.asked_accepts edition words bytes room (sym (ap (λ (w : Written). w.refusal) e)) in
    (a.job.few, a.job.fewer, omega (arith, a.enough, job_size edition words bytes))

pub returns-in_err-size : goal.returns-in_err-size
returns-in_err-size c =
    let why = err_from_is_err_and c.from_residual.result c.from_residual.ensures.1 in
    rw (why.1, why.2) (tests.not_written _ _ _ _ c.in_err-size.ensures (never_0 _))

pub put_job-requires : goal.put_job-requires
put_job-requires c = fits _ _ _ _ c.in_ok-size.ensures

pub returns : goal.returns
returns c = tests.job_written _ _ _ _ c.in_ok-size.ensures refl c.put_job.ensures
