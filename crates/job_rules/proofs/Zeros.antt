-- "zero beyond n and r", and "zeros elsewhere but for 6's place": of what reading and writing answer, for every input, in either edition. Carried by `each`:
-- what holds of each answer holds of the decision.
-- Assumes nothing.
use Rattle.job_rules.proofs.Shared.{ℕ, zero, suc, ◌-◌, ◌≤◌, le_of_suc-le-suc, not-suc-le-zero, ◌≡◌, refl, List, [], ◌∷◌, ◌++◌, length, get_or}
use Rattle.job_rules.proofs.Shared.{drop, replicate, Register, zero_register, Edition, One, WORD, Ok, Err, Refusal, Header, number_of, place_of, Job, ReadJob, Written}
use Rattle.job_rules.proofs.Shared.{instructions_at, registers_at, edition_in, words_in, registers_of, filled, job_of, accepted_of, refused_of, body_of}
use Rattle.job_rules.proofs.Shared.{answer_for, header_of, read_of, size_or_refusal, write_of}
use Rattle.table.proofs.Decided.{each}
use Rattle.table.proofs.Rows.{all_alike}
use Rattle.table.proofs.Told.{placeless}

-- ---- reading

-- an answer of the reader is a refusal or a job
every_answer : (P : ReadJob → Type 0) → ((why : Refusal) → P (refused_of (number_of why) (place_of why)))
    → ((edition : Edition) (words : List ℕ) (registers : List Register) → P (accepted_of (job_of edition words registers))) → (l : List ℕ) → P (read_of l)
unfolding body_of
every_answer P refused job l = go (header_of (edition_in l) l)
  where
    go : (h : Header) → P (answer_for l h)
    go (Ok counts) =
        each P _ _ (refused (Refusal.Word _), (refused Refusal.Nonzero, tt))
        (job counts.edition (words_in counts.n.0 (drop (instructions_at counts.edition) l))
        (registers_of counts.r (drop (registers_at counts.edition counts.n.0) l)))
    go (Err why) = refused why

-- a job of zeros, which is of the first edition
pub record Zeros (j : Job) : Type 0 where
  pub n : j.program.n.0 ≡ 0
  pub words : j.program.words ≡ replicate 64 0
  pub edition : j.program.edition ≡ One
  pub r : j.r ≡ 0
  pub registers : j.registers ≡ replicate 32 zero_register

-- "Every refusal returns its number and zeros elsewhere": a file that is refused comes back as a job of zeros.
pub refused_zeros : (l : List ℕ) → ((read_of l).refusal ≡ 0 → ⊥) → Zeros (read_of l).job
refused_zeros =
    every_answer (λ (v : ReadJob). (v.refusal ≡ 0 → ⊥) → Zeros v.job) (λ _ _. zeros) (λ _ _ _ h. absurd (h refl))
  where
    zeros : Zeros (job_of One [] [])
    zeros = record { n = refl; words = refl; edition = refl; r = refl; registers = refl }

-- "but for 6's place": with every other number, and with 0, the place is 0.
pub place_read : (l : List ℕ) → ((read_of l).refusal ≡ WORD → ⊥) → (read_of l).place ≡ 0
place_read =
    every_answer (λ (v : ReadJob). (v.refusal ≡ WORD → ⊥) → v.place ≡ 0) placeless (λ _ _ _ _. refl)

none_behind : {A : Type 0} (size : ℕ) (none : A) (l : List A) (i : ℕ) → length l ≤ i → get_or (filled size none l) i none ≡ none
none_behind {A} size none l i h = behind l i (size - length l) h
  where
    behind : (l : List A) (i m : ℕ) → length l ≤ i → get_or (l ++ replicate m none) i none ≡ none
    behind [] i m h = all_alike none m i
    behind (x ∷ l) zero m h = absurd (not-suc-le-zero h)
    behind (x ∷ l) (suc i) m h = behind l i m (le_of_suc-le-suc h)

-- "zero beyond n and r": every word from n on, and every register from r on.
pub zero_beyond_n : (l : List ℕ) (i : ℕ) → (read_of l).job.program.n.0 ≤ i
    → get_or (read_of l).job.program.words i 0 ≡ 0
zero_beyond_n l i =
    every_answer (λ (v : ReadJob). v.job.program.n.0 ≤ i → get_or v.job.program.words i 0 ≡ 0) (λ _. none_behind 64 0 [] i)
    (λ _ words _. none_behind 64 0 words i) l

pub zero_beyond_r : (l : List ℕ) (i : ℕ) → (read_of l).job.r ≤ i
    → get_or (read_of l).job.registers i zero_register ≡ zero_register
zero_beyond_r l i =
    every_answer (λ (v : ReadJob). v.job.r ≤ i → get_or v.job.registers i zero_register ≡ zero_register) (λ _. none_behind 32 zero_register [] i)
    (λ _ _ registers. none_behind 32 zero_register registers i) l

-- ---- writing

module _ (edition : Edition) (words bytes out : List ℕ) where
  -- A job that is refused has no size.
  pub refused_size : ((write_of edition words bytes out).0.refusal ≡ 0 → ⊥) → (write_of edition words bytes out).0.size ≡ 0
  unfolding write_of size_or_refusal
  refused_size =
      each (λ (w : Written). (w.refusal ≡ 0 → ⊥) → w.size ≡ 0) _ _ (λ _. refl, (λ _. refl, (λ _. refl, (λ _. refl, (λ _. refl, tt))))) (λ h. absurd (h refl))

  -- Where the number is not 6 the place is 0.
  pub place_written : ((write_of edition words bytes out).0.refusal ≡ WORD → ⊥) → (write_of edition words bytes out).0.place ≡ 0
  unfolding write_of size_or_refusal
  place_written =
      each (λ (w : Written). (w.refusal ≡ WORD → ⊥) → w.place ≡ 0) _ _ (λ _. refl, (λ _. refl, (λ h. absurd (h refl), (λ _. refl, (λ _. refl, tt))))) (λ _. refl)
