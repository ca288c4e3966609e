-- For the reader of specs/: how much of a file decides, how long a text is and what room it takes, what is left of the buffer, and which text is printed when.
-- Assumes nothing.
use Rattle.trace_rules.proofs.Shared.{at_front, two_digits, last_small, Unit, load_reads, fresh_drained, TextAnswer, rows_of, end_text, refused_text, text_for}
use Rattle.trace_rules.proofs.Shared.{job_text, put_of, write_text_of, largest_text, whole_text_of}
use Rattle.unit_rules.proofs.Shared.{ℕ, ◌-◌, ◌≤◌, ◌≡◌, refl, sym, ap, ◌∙◌, Bool, true, false, List, [], ◌∷◌, ◌++◌, arith}
use Rattle.unit_rules.proofs.Shared.{eqb-true, eqb-false, eqb, length, take, replicate, length-append, length-drop, length-replicate}
use Rattle.unit_rules.proofs.Shared.{take_at, first_bad, ReadJob, header_of, tested_of, body_of, last_of, fresh_of, loaded_by}
use Rattle.unit_rules.proofs.Shared.{load_of, go_of, drained_of, well_made_of, read_of}
use Rattle.table.specs.Decided.{decided}
use Rattle.table.proofs.Decided.{each}
use Rattle.job_rules.specs.Layout.{bytes_to_read}
use Rattle.job_rules.proofs.TooLong as of_a_job
use Rattle.trace_rules.proofs.TextLengths.{trace_is, trace_long, refused_long}
use Rattle.trace_rules.proofs.TextPut.{text_put, text_refused, text_accepted, gone_made, went_on, none_made}

-- ---- which text

-- a load on a fresh unit is refused exactly as reading is, and with that number
pub refused_as_read : (file : List ℕ) → load_of file fresh_of ≡ loaded_by (read_of file) fresh_of
refused_as_read file = load_reads file fresh_of fresh_drained.1 fresh_drained.0

-- the unit that is traced
abbrev pub traced : List ℕ → Unit
traced file = (go_of (load_of file fresh_of).unit).unit

-- "or only a line of `REFUSED` and the number"
pub refused_text_lem : (file : List ℕ) → ((load_of file fresh_of).refusal ≡ 0 → ⊥) → job_text file ≡ refused_text (load_of file fresh_of).refusal
refused_text_lem file h = sym (text_refused file refl refl h)

-- "prints one row a cycle and then a line of `END` and the cycle count": n + 3 rows, and none where n is 0
pub accepted_text_lem : (file : List ℕ) → (load_of file fresh_of).refusal ≡ 0
    → job_text file ≡ rows_of (last_of (traced file).program.n.0) (traced file) ++ end_text (last_of (traced file).program.n.0)
accepted_text_lem file h =
    let u = traced file in
    let none : u.cycle ≡ 0 = none_made file refl refl refl in
    let all : last_of u.program.n.0 - u.cycle ≡ last_of u.program.n.0 = omega arith in
    sym (text_accepted file refl refl refl h) ∙ sym (trace_is u (gone_made file refl refl refl) (went_on file refl refl refl) refl) ∙ ap (λ (c : ℕ). rows_of c u ++ end_text c) all

-- the file of eight bytes, a job with no instructions: END 00
pub empty_job : job_text (0 ∷ 0 ∷ 0 ∷ 0 ∷ 8 ∷ 0 ∷ 8 ∷ 0 ∷ []) ≡ 69 ∷ 78 ∷ 68 ∷ 32 ∷ 48 ∷ 48 ∷ 10 ∷ []
unfolding end_text rows_of two_digits load_of go_of well_made_of drained_of header_of tested_of body_of decided first_bad
empty_job = accepted_text_lem (0 ∷ 0 ∷ 0 ∷ 0 ∷ 8 ∷ 0 ∷ 8 ∷ 0 ∷ []) refl

-- the bytes of a file that decide what is read of it decide its text: a file that is too long is refused as they are
pub first_781_bytes : (file : List ℕ) → job_text (take bytes_to_read file) ≡ job_text file
unfolding job_text
first_781_bytes file =
    ap text_for
    (refused_as_read (take bytes_to_read file) ∙ ap (λ (r : ReadJob). loaded_by r fresh_of) (of_a_job.first_781_bytes file) ∙ sym (refused_as_read file))

-- ---- the room that it takes

pub text_size : (file : List ℕ) → length (job_text file) ≤ largest_text
text_size file = go (eqb (load_of file fresh_of).refusal 0) refl
  where
    go : (t : Bool) → eqb (load_of file fresh_of).refusal 0 ≡ t → length (job_text file) ≤ largest_text
    go true q =
        let ok = eqb-true (load_of file fresh_of).refusal 0 q in
        let made = gone_made file refl refl refl in
        let u = traced file in
        rw (← (text_accepted file refl refl refl ok)) (omega (arith, trace_long u made (went_on file refl refl refl) refl, last_small u made))
    go false q =
        rw (refused_text_lem file (eqb-false (load_of file fresh_of).refusal 0 q)) (omega (arith, (refused_long (load_of file fresh_of).refusal).1))

-- and a job of 64 lines has one so large
pub largest_reached : (file : List ℕ) → (load_of file fresh_of).refusal ≡ 0 → (traced file).program.n.0 ≡ 64
    → length (job_text file) ≡ largest_text
largest_reached file ok full =
    let u = traced file in
    let none : u.cycle ≡ 0 = none_made file refl refl refl in
    let end : last_of u.program.n.0 ≡ 67 = ap last_of full in
    rw (← (text_accepted file refl refl refl ok)) (omega (arith, trace_long u (gone_made file refl refl refl) (went_on file refl refl refl) refl))

pub always_room : (file buffer : List ℕ) → largest_text ≤ length buffer
    → write_text_of file buffer ≡ (record { refusal = 0; size = length (job_text file) }, at_front (job_text file) buffer)
always_room file buffer h = sym (text_put (job_text file) buffer (omega (arith, text_size file)) refl refl)

-- by value there is room for every text: its first bytes are the text, and there are as many as the largest has
pub by_value : (file : List ℕ) {r : TextAnswer} {after : List ℕ} → (r, after) ≡ write_text_of file (replicate largest_text 0)
    → record { bytes = after; size = r.size } ≡ whole_text_of file
by_value file e =
    let put = e ∙ always_room file (replicate largest_text 0) (omega (arith, length-replicate {A = ℕ} largest_text 0)) in
    λ i. record { bytes = (put i).1; size = (put i).0.size }

pub whole_text : (file : List ℕ) → take (whole_text_of file).size (whole_text_of file).bytes ≡ job_text file
whole_text file = take_at (job_text file) _ _ refl

pub whole_length : (file : List ℕ) → length (whole_text_of file).bytes ≡ largest_text
whole_length file =
    simp (length-append, length-drop, length-replicate) (omega (arith, text_size file))

module _ (file buffer : List ℕ) where
  -- "buffers stay unaltered"
  pub refused_unaltered : ((write_text_of file buffer).0.refusal ≡ 0 → ⊥) → (write_text_of file buffer).1 ≡ buffer
  unfolding put_of
  refused_unaltered = each Kept _ _ (λ h. refl, tt) (λ h. absurd (h refl))
    where
      Kept : TextAnswer × List ℕ → Type 0
      Kept a = (a.0.refusal ≡ 0 → ⊥) → a.1 ≡ buffer
