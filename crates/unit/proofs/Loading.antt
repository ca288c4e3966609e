-- What a load makes of a file, from what the reader answers; and the loop that sets registers. Carried by rewriting with the answer.
-- Assumes nothing.
use Rattle.unit_rules.proofs.Shared.{ℕ, ◌+◌, ◌≤◌, ◌≡◌, sym, ap, List, add-one, ne_eqb, get_or, set, zero_register, Register, Job}
use Rattle.unit_rules.proofs.Shared.{read_of, registers_set, loaded_by, loaded_of, ReadJob}
use Rattle.std.specs.declared.result.Result.TheVariants.{Ok, Err}
use Rattle.table.specs.declared.refusal.Refusal.{Refusal}
use Rattle.table.specs.Refusal.{number_of, place_of}
use Rattle.table.proofs.Told.{never_0}
use Rattle.job_rules.specs.Read.{said_read}
use Rattle.unit_rules.specs.declared.Unit.{Unit}
use Rattle.unit_rules.specs.Answers.{Loaded}
use Rattle.unit_rules.proofs.Loading.{sound_read}

module _ (file : List ℕ) (u : Unit) where
  pub refused : (why : Refusal) → said_read (Err why) ≡ read_of file
      → ◌≡◌ {A = Loaded} (record { refusal = number_of why; place = place_of why; unit = u }) (loaded_by (read_of file) u)
  refused why said = rw (← said, ne_eqb _ _ (never_0 why))

  pub few_registers : (job : Job) → said_read (Ok job) ≡ read_of file → job.r ≤ 32
  few_registers job said = rw (ap (λ (r : ReadJob). r.job.r) said) (sound_read file (sym (ap (λ (r : ReadJob). r.refusal) said))).fewer

  pub accepted : (job : Job) → said_read (Ok job) ≡ read_of file → {v : Unit} → v ≡ loaded_of job u
      → ◌≡◌ {A = Loaded} (record { refusal = 0; place = 0; unit = v }) (loaded_by (read_of file) u)
  accepted job said made = rw (← said, made)

-- ---- the loop that sets registers

pub next_set : (file old : List Register) (i : ℕ) {f : List Register} → f ≡ registers_set i file old → set f i (get_or file i zero_register) ≡ registers_set (i + 1) file old
next_set file old i e = rw (e, add-one i)
