-- What the reader answers, for every list of bytes.
-- Assumes nothing.
use Rattle.std.specs.Prelude.{ℕ, ◌-◌, Bool, not, Result, Ok, Err, List, [], ◌∷◌, ◌++◌, ltb, eqb, length, drop, get_or, replicate}
use Rattle.register.specs.declared.Register.{Register}
use Rattle.register.specs.Layout.{zero_register}
use Rattle.table.specs.declared.Edition.{Edition}
use Rattle.table.specs.declared.Edition.TheVariants.{One}
use Rattle.table.specs.declared.refusal.Refusal.{Refusal}
use Rattle.table.specs.Refusal.{WORD, NONZERO, number_of, place_of, first_bad}
use Rattle.table.specs.Decided.{decided}
use Rattle.job_rules.specs.declared.Counts.{Counts}
use Rattle.job_rules.specs.declared.Job.{Job}
use Rattle.job_rules.specs.Layout.{instructions_at, registers_at, size_of, two_at, edition_in, says_edition, words_in, registers_of}
use Rattle.job_rules.specs.Program.{may_hold}

-- "A job that is read comes back by value, zero beyond n and r": from its n words and its r registers
abbrev pub filled : {A : Type 0} → ℕ → A → List A → List A
filled size none l = l ++ replicate (size - length l) none

abbrev pub job_of : Edition → List ℕ → List Register → Job
job_of edition words registers = record {
  program = record { words = filled 64 0 words; n = record { 0 = length words }; edition = edition };
  registers = filled 32 zero_register registers;
  r = length registers;
}

-- what reading a file answers: 0 and the job, or the number that it is refused with, with 6 the place of the first bad word, and a job of zeros
pub record ReadJob : Type 0 where
  pub refusal : ℕ
  pub place : ℕ
  pub job : Job

-- "Success is 0"
abbrev pub accepted_of : Job → ReadJob
accepted_of j = record { refusal = 0; place = 0; job = j }

-- "Every refusal returns its number and zeros elsewhere but for 6's place", and the first edition
abbrev pub refused_of : ℕ → ℕ → ReadJob
refused_of number place = record { refusal = number; place = place; job = job_of One [] [] }

-- what the call's answer says of it: for each case its number and its values
abbrev pub said_read : Result Job Refusal → ReadJob
said_read (Ok j) = accepted_of j
said_read (Err why) = refused_of (number_of why) (place_of why)

-- what a file's first bytes and its size say: the counts, or why the file is refused
abbrev pub Header : Type 0
Header = Result Counts Refusal

-- what the four numbers of a header say of a file of so many bytes, and whether the edition's own bytes are there: "the first offset's 4; then 1 for an offset of 12 in
-- under 12 bytes; then 14 for wrong bytes 8-11; then the second offset's 4", between tests 3 and 5
unfoldable pub tested_of : Edition → ℕ → ℕ → ℕ → Bool → ℕ → ℕ → Header
tested_of edition n r first says second size =
    decided
    ((ltb size 8, Err Refusal.Short)
    ∷ (ltb 64 n, Err Refusal.Count)
    ∷ (ltb 32 r, Err Refusal.Regs)
    ∷ (not (eqb first (instructions_at edition)), Err Refusal.Place)
    ∷ (ltb size (instructions_at edition), Err Refusal.Short)
    ∷ (not says, Err Refusal.Edition)
    ∷ (not (eqb second (registers_at edition n)), Err Refusal.Place)
    ∷ (not (eqb size (size_of edition n r)), Err Refusal.Length)
    ∷ [])
    (Ok (record { edition = edition; n = record { 0 = n }; r = r }))

-- "Bytes 0-1: n, instruction count. 2-3: r, register count. 4-5: offset of the instructions. 6-7: offset of the registers"
unfoldable pub header_of : Edition → List ℕ → Header
header_of edition l = tested_of edition (two_at l 0) (two_at l 2) (two_at l 4) (says_edition edition l) (two_at l 6) (length l)

-- the rest of the file behind counts that are taken: "after 6, 15 for a nonzero register 0 in an edition 2 file"; and the job
unfoldable pub body_of : Edition → List ℕ → ℕ → ℕ → ReadJob
body_of edition l n r =
    let words : List ℕ = words_in n (drop (instructions_at edition) l) in
    let registers : List Register = registers_of r (drop (registers_at edition n) l) in
    decided
    ((ltb (first_bad words) n, refused_of WORD (first_bad words))
    ∷ (not (may_hold edition (get_or registers 0 zero_register)), refused_of NONZERO 0)
    ∷ [])
    (accepted_of (job_of edition words registers))

-- for each case of the header its number, and the answer with its values: a refusal leaves at once, the counts go on
abbrev pub header_number : Header → ℕ
header_number (Ok counts) = 0
header_number (Err why) = number_of why

abbrev pub answer_for : List ℕ → Header → ReadJob
answer_for l (Ok counts) = body_of counts.edition l counts.n.0 counts.r
answer_for l (Err why) = refused_of (number_of why) (place_of why)

-- "Reading and starting test 1 to 6 in that order": a reader of this edition alone, of which that of the first is document 01's
abbrev pub read_as : Edition → List ℕ → ReadJob
read_as edition l = answer_for l (header_of edition l)

-- the reader of both: each file as its first offset says
abbrev pub read_of : List ℕ → ReadJob
read_of l = read_as (edition_in l) l
