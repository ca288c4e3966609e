-- For the reader of specs/: a job that is written and read again is the same job, a file that is read and written again is the same file, and a file is
-- accepted exactly when the writer gives it, in either edition; what the editions have to do with one another; and that the first is document 01's. All of
-- it over what the two calls promise, `write_of` and `read_of`.
-- Assumes nothing.
use Rattle.job_rules.proofs.Shared.{ℕ, filled, ◌≤◌, ◌+◌, ◌*◌, le_refl, arith, ◌≡◌, refl, sym, ap, ◌∙◌, Bool, true, false, not, ◌||◌, List, []}
use Rattle.job_rules.proofs.Shared.{◌∷◌, flat_map, ne_eqb, ltb, eqb, length, get_or, take, drop, replicate, take-append_seam, at_front, Register}
use Rattle.job_rules.proofs.Shared.{zero_register, bytes_of, Edition, One, Two, PLACE, first_bad, Ok, Err, Refusal, Job, ReadJob, Written, Bytes}
use Rattle.job_rules.proofs.Shared.{instructions_at, LARGEST, registers_at, size_of, register_count, encode, two_at, edition_in, words_in, registers_of}
use Rattle.job_rules.proofs.Shared.{lines_of, may_hold, job_of, accepted_of, refused_of, tested_of, header_of, body_of, answer_for, read_as, read_of}
use Rattle.job_rules.proofs.Shared.{written_of, size_or_refusal, write_of, register_bytes_of}
use mathlib.Core.Logic.{◌↔◌}
use Rattle.register.proofs.Theorems.{zero_exactly}
use Rattle.table.specs.Decided.{decided}
use Rattle.table.proofs.Decided.{each, deciding}
use Rattle.job_rules.proofs.Pieces.{first_pieces, job_size}
use Rattle.job_rules.proofs.Refusals.{not_written, accepts, written, accepted, read}
use Rattle.job_rules.proofs.RoundTrip.{says_n, says_words, says_bytes, encoded_edition, read_encoded, file_again, bytes_again, accepts_again}

-- ---- both ways

-- Reading what the writer put at the front of a buffer gives the same job, in the same edition.
pub read_written : (edition : Edition) (words bytes out : List ℕ) → (write_of edition words bytes out).0.refusal ≡ 0
    → read_of (take (write_of edition words bytes out).0.size (write_of edition words bytes out).1)
    ≡ accepted_of (job_of edition words (registers_of (register_count bytes) bytes))
read_written edition words bytes out e =
    let a = accepts edition words bytes out e in
    let job = encode edition words bytes in
    ap (λ (w : Written × List ℕ). read_of (take w.0.size w.1)) (written edition words bytes out a)
    ∙ ap read_of (take-append_seam job (drop (length job) out))
    ∙ read_encoded edition words bytes a.job

-- Writing what was read from an accepted file, in the edition that was read, gives the same bytes.
pub written_read : (l out : List ℕ) → Bytes l → (read_of l).refusal ≡ 0 → length l ≤ length out
    → write_of (read_of l).job.program.edition (lines_of (read_of l).job.program) (register_bytes_of (read_of l).job) out
    ≡ (written_of 0 0 (length l), at_front l out)
written_read l out b e room =
    let a = accepted (edition_in l) l e in
    let again = file_again (edition_in l) l b a in
    written _ _ _ out (accepts_again (edition_in l) l b a out room) ∙ (λ i. (written_of 0 0 (length (again i)), at_front (again i) out))

-- A job's register bytes, as the writer takes them, are the first 16 r of the bytes of its 32 registers.
pub registers_handed : (j : Job) → j.r ≤ length j.registers → take (16 * j.r) (flat_map bytes_of j.registers) ≡ register_bytes_of j
registers_handed j h = first_pieces bytes_of 16 (λ (v : Register). refl) j.r j.registers h

-- ---- one file for each job, and one job for each file

-- Two jobs with the same bytes are the same job, in the same edition.
pub same_bytes_lem : (edition : Edition) (words bytes out : List ℕ) (edition' : Edition) (words' bytes' out' : List ℕ)
    → (write_of edition words bytes out).0.refusal ≡ 0 → (write_of edition' words' bytes' out').0.refusal ≡ 0
    → encode edition words bytes ≡ encode edition' words' bytes' → (edition ≡ edition') × (words ≡ words') × (bytes ≡ bytes')
same_bytes_lem edition words bytes out edition' words' bytes' out' e e' same =
    let a = (accepts edition words bytes out e).job in
    let b = (accepts edition' words' bytes' out' e').job in
    let of : edition ≡ edition' = sym (encoded_edition edition words bytes a) ∙ ap edition_in same ∙ encoded_edition edition' words' bytes' b in
    let n : length words ≡ length words' = sym (says_n edition words bytes a) ∙ ap (λ (l : List ℕ). two_at l 0) same ∙ says_n edition' words' bytes' b in (
      of,
      sym (says_words edition words bytes a) ∙ (λ i. words_in (n i) (drop (instructions_at (of i)) (same i))) ∙ says_words edition' words' bytes' b,
      sym (says_bytes edition words bytes a) ∙ (λ i. drop (registers_at (of i) (n i)) (same i)) ∙ says_bytes edition' words' bytes' b,
    )

-- Two accepted files that are read as the same job are the same file.
pub same_job : (l l' : List ℕ) → Bytes l → Bytes l' → (read_of l).refusal ≡ 0 → (read_of l').refusal ≡ 0 → (read_of l).job ≡ (read_of l').job → l ≡ l'
same_job l l' b b' e e' same =
    sym (file_again (edition_in l) l b (accepted (edition_in l) l e))
    ∙ (λ i. encode (same i).program.edition (lines_of (same i).program) (register_bytes_of (same i)))
    ∙ file_again (edition_in l') l' b' (accepted (edition_in l') l' e')

-- the writer's output for some job: an edition, words and register bytes that it puts, as this file, at the front of every buffer with room
abbrev pub Output : List ℕ → Type 0
Output l =
    (edition : Edition) × (words : List ℕ) × (bytes : List ℕ) × Bytes bytes
    × ((out : List ℕ) → length l ≤ length out → write_of edition words bytes out ≡ (written_of 0 0 (length l), at_front l out))

-- A file is accepted exactly when it is the writer's output for some job.
pub accepted_exactly : (l : List ℕ) → Bytes l → ((read_of l).refusal ≡ 0) ↔ Output l
accepted_exactly l b = (gives, given)
  where
    gives : (read_of l).refusal ≡ 0 → Output l
    gives e = (
      (read_of l).job.program.edition,
      lines_of (read_of l).job.program,
      register_bytes_of (read_of l).job,
      bytes_again (edition_in l) l b (accepted (edition_in l) l e),
      λ out room. written_read l out b e room,
    )

    given : Output l → (read_of l).refusal ≡ 0
    given w =
        let e = w.4 l (le_refl (length l)) in
        sym (ap (λ (x : Written × List ℕ). (read_of (take x.0.size x.1)).refusal) e
        ∙ ap (λ (m : List ℕ). (read_of m).refusal) (take-append_seam l (drop (length l) l)))
        ∙ ap (λ (v : ReadJob). v.refusal) (read_written w.0 w.1 w.2 l (ap (λ (x : Written × List ℕ). x.0.refusal) e))

-- "buffers stay unaltered" by a writer that refuses.
pub refused_unaltered : (edition : Edition) (words bytes out : List ℕ) → ((write_of edition words bytes out).0.refusal ≡ 0 → ⊥)
    → (write_of edition words bytes out).1 ≡ out
unfolding write_of
refused_unaltered edition words bytes out h = ap (λ (w : Written × List ℕ). w.1) (sym (not_written edition words bytes out refl h))

-- ---- sizes

-- "at most 776", and four more in the second edition: no accepted file is larger, and one of 64 words and 32 registers is as large.
pub never_larger_in : (edition : Edition) (l : List ℕ) → (read_as edition l).refusal ≡ 0 → length l ≤ size_of edition 64 32
never_larger_in edition l e =
    let t = (accepted edition l e).header in
    omega (arith, t.few, t.fewer, t.right_size)

pub never_larger : (l : List ℕ) → (read_of l).refusal ≡ 0 → length l ≤ LARGEST
never_larger l e = by (edition_in l) (never_larger_in (edition_in l) l e)
  where
    by : (edition : Edition) → length l ≤ size_of edition 64 32 → length l ≤ LARGEST
    by One h = omega arith
    by Two h = omega arith

abbrev largest_in : Edition → Written
largest_in edition = (write_of edition (replicate 64 0) (replicate 512 0) (replicate LARGEST 0)).0

pub largest_written : (largest_in One ≡ written_of 0 0 776) × (largest_in Two ≡ written_of 0 0 LARGEST)
unfolding size_or_refusal decided write_of encode flat_map first_bad
largest_written = (refl, refl)

-- "The whole is exactly 8+4n+16r bytes", and four more in the second edition: what the writer answers as the size.
pub size_written : (edition : Edition) (words bytes out : List ℕ) → (write_of edition words bytes out).0.refusal ≡ 0
    → (write_of edition words bytes out).0.size ≡ size_of edition (length words) (register_count bytes)
size_written edition words bytes out e =
    let a = accepts edition words bytes out e in
    let whole = a.job.whole in
    ap (λ (w : Written × List ℕ). w.0.size) (written edition words bytes out a) ∙ omega (arith, job_size edition words bytes)

-- ---- the two editions

-- No file is a job of both.
pub no_file_of_both : (l : List ℕ) → (read_as One l).refusal ≡ 0 → (read_as Two l).refusal ≡ 0 → ⊥
no_file_of_both l e f = omega (arith, (accepted One l e).header.right_first, (accepted Two l f).header.right_first)

-- The job that is read is of the edition that the first offset says.
pub read_edition : (l : List ℕ) → (read_of l).refusal ≡ 0 → (read_of l).job.program.edition ≡ edition_in l
read_edition l e = ap (λ (v : ReadJob). v.job.program.edition) (read (edition_in l) l (accepted (edition_in l) l e))

-- "Readers of the first kind answer 4" to every job of the second edition.
pub first_readers_answer_4 : (l : List ℕ) → (read_as Two l).refusal ≡ 0 → read_as One l ≡ refused_of PLACE 0
unfolding header_of tested_of
first_readers_answer_4 l e =
    let t = (accepted Two l e).header in
    let whole = t.whole in
    let few = t.few in
    let fewer = t.fewer in
    let other : two_at l 4 ≡ 8 → ⊥ = λ first. omega (arith, t.right_first) in
    let answer : Err Refusal.Place ≡ header_of One l = search deciding depth 12 in
    sym (ap (answer_for l) answer)

-- "There, register 0 is zero from load on": all that it may hold is zero,
pub held_zero : (edition : Edition) (r : Register) → edition ≡ Two → may_hold edition r ≡ true → r ≡ zero_register
held_zero edition r second h = (zero_exactly r).0 (sym (ap (λ (e : Edition). may_hold e r) second) ∙ h)

-- register 0 of the 32, zero where the file has none
first_filled : (l : List Register) → get_or (filled 32 zero_register l) 0 zero_register ≡ get_or l 0 zero_register
first_filled [] = refl
first_filled (x ∷ l) = refl

-- and so it is in an accepted job, read or written.
pub register_0_read : (l : List ℕ) → (read_of l).refusal ≡ 0 → (read_of l).job.program.edition ≡ Two
    → get_or (read_of l).job.registers 0 zero_register ≡ zero_register
register_0_read l e of =
    let a = accepted (edition_in l) l e in
    let registers : List Register = registers_of (two_at l 2) (drop (registers_at (edition_in l) (two_at l 0)) l) in
    ap (λ (v : ReadJob). get_or v.job.registers 0 zero_register) (read (edition_in l) l a)
    ∙ first_filled registers
    ∙ held_zero (edition_in l) (get_or registers 0 zero_register) (sym (read_edition l e) ∙ of) a.held

pub register_0_written : (words bytes out : List ℕ) → (write_of Two words bytes out).0.refusal ≡ 0
    → get_or (registers_of (register_count bytes) bytes) 0 zero_register ≡ zero_register
register_0_written words bytes out e = held_zero Two _ refl (accepts Two words bytes out e).job.held

-- ---- "Edition 1 .. is untouched"

-- the reader of document 01, whose job is of the first edition: tests 1 to 6 with the numbers of that document, the two offsets as one test
abbrev pub read_before : List ℕ → ReadJob
read_before l =
    let n : ℕ = two_at l 0 in
    let r : ℕ = two_at l 2 in
    let words : List ℕ = words_in n (drop 8 l) in
    decided
    ((ltb (length l) 8, refused_of 1 0)
    ∷ (ltb 64 n, refused_of 2 0)
    ∷ (ltb 32 r, refused_of 3 0)
    ∷ (not (eqb (two_at l 4) 8) || not (eqb (two_at l 6) (8 + 4 * n)), refused_of 4 0)
    ∷ (not (eqb (length l) (8 + 4 * n + 16 * r)), refused_of 5 0)
    ∷ (ltb (first_bad words) n, refused_of 6 (first_bad words))
    ∷ [])
    (accepted_of (job_of One words (registers_of r (drop (8 + 4 * n) l))))

-- test by test: one offset after the other is one test of both, and a second test of the size and one that never refuses change nothing
tests_as_before : (l : List ℕ) (short many more first second size : Bool)
    → answer_for l (decided
    ((short, Err Refusal.Short) ∷ (many, Err Refusal.Count) ∷ (more, Err Refusal.Regs) ∷ (first, Err Refusal.Place) ∷ (short, Err Refusal.Short)
    ∷ (false, Err Refusal.Edition) ∷ (second, Err Refusal.Place) ∷ (size, Err Refusal.Length) ∷ [])
    (Ok (record { edition = One; n = record { 0 = two_at l 0 }; r = two_at l 2 })))
    ≡ decided
    ((short, refused_of 1 0) ∷ (many, refused_of 2 0) ∷ (more, refused_of 3 0) ∷ (first || second, refused_of 4 0) ∷ (size, refused_of 5 0)
    ∷ (ltb (first_bad (words_in (two_at l 0) (drop 8 l))) (two_at l 0), refused_of 6 (first_bad (words_in (two_at l 0) (drop 8 l)))) ∷ [])
    (accepted_of (job_of One (words_in (two_at l 0) (drop 8 l)) (registers_of (two_at l 2) (drop (8 + 4 * two_at l 0) l))))
unfolding body_of decided
tests_as_before l true many more first second size = refl
tests_as_before l false true more first second size = refl
tests_as_before l false false true first second size = refl
tests_as_before l false false false true second size = refl
tests_as_before l false false false false true size = refl
tests_as_before l false false false false false true = refl
tests_as_before l false false false false false false = refl

-- A reader of the first edition answers every file as that one.
pub read_as_before : (l : List ℕ) → read_as One l ≡ read_before l
unfolding header_of tested_of
read_as_before l =
    tests_as_before l (ltb (length l) 8) (ltb 64 (two_at l 0)) (ltb 32 (two_at l 2)) (not (eqb (two_at l 4) 8)) (not (eqb (two_at l 6) (8 + 4 * two_at l 0)))
    (not (eqb (length l) (8 + 4 * two_at l 0 + 16 * two_at l 2)))

-- its jobs are all of the first edition,
pub edition_1_read : (l : List ℕ) → (read_as One l).job.program.edition ≡ One
edition_1_read l =
    ap (λ (v : ReadJob). v.job.program.edition) (read_as_before l)
    ∙ each (λ (v : ReadJob). v.job.program.edition ≡ One) _ _ (refl, (refl, (refl, (refl, (refl, (refl, tt)))))) refl

-- and the reader of both answers as it does, whatever the file, where the first offset is not 12.
pub edition_1_untouched : (l : List ℕ) → (two_at l 4 ≡ 12 → ⊥) → read_of l ≡ read_as One l
edition_1_untouched l other = rw (ne_eqb (two_at l 4) 12 other)
