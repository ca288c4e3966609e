-- The listing of a job file by what is read of it. Carried by the law of decisions, and by what an accepted file says.
-- Assumes nothing.
use Prim.Native.Nat.{ℕ, ◌-◌, ◌≤◌}
use mathlib.Core.Path.{◌≡◌, sym, ap, ◌∙◌}
use mathlib.Core.List.{List}
use native.Mathlib.Omega.{arith}
use borrow.Author.Tests.{eq-eqb, ne_eqb}
use lib.ListN.{length, drop, replicate, length-append}
use Rattle.table.proofs.Decided.{stops, passes, ends, denied, not_denied}
use Rattle.job_rules.specs.Layout.{instructions_at, edition_in, two_at, words_in}
use Rattle.job_rules.specs.Read.{ReadJob, filled, read_of}
use Rattle.job_rules.specs.Program.{lines_of}
use Rattle.job_rules.specs.Write.{Written, written_of}
use Rattle.job_rules.proofs.Refusals.{accepted, read}
use Rattle.text_rules.specs.Listing.{list_of, list_job_of}

filled_long : (words : List ℕ) → length words ≤ length (filled 64 0 words)
filled_long words = omega (arith, length-append words (replicate (64 - length words) 0))

module _ (file : List ℕ) {r : ReadJob} (is : r ≡ read_of file) where
  -- a file that is refused
  pub file_refused : (out : List ℕ) → (r.refusal ≡ 0 → ⊥) → (written_of r.refusal r.place 0, out) ≡ list_job_of file out
  unfolding list_job_of
  file_refused out isnt = rw (← is) (stops _ _ (denied (ne_eqb r.refusal 0 isnt)))

  module _ (good : r.refusal ≡ 0) where
    -- its lines stand within the 64 words
    pub lines_within : r.job.program.n.0 ≤ length r.job.program.words
    lines_within =
        let a = accepted (edition_in file) file (sym (ap (λ (x : ReadJob). x.refusal) is) ∙ good) in
        let job = is ∙ read (edition_in file) file a in
        rw job (filled_long (words_in (two_at file 0) (drop (instructions_at (edition_in file)) file)))

    -- they are listed
    pub file_listed : (out : List ℕ) {x : Written × List ℕ} → x ≡ list_of (lines_of r.job.program) out → x ≡ list_job_of file out
    unfolding list_job_of
    file_listed out e = e ∙ rw (← is) (passes _ _ _ (not_denied (eq-eqb r.refusal 0 good)) ends)
