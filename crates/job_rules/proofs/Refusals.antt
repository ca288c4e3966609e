-- What reader and writer answer by their tests, and what it says of a file or a job that none of them refuses it. Carried by the laws of decisions.
-- Assumes nothing.
use Rattle.job_rules.proofs.Shared.{ℕ, ◌+◌, ◌*◌, ◌%◌, ◌≤◌, ◌<◌, ◌≡◌, refl, sym, ap, ◌∙◌, List, Bool, true, false, cond, not, arith}
use Rattle.job_rules.proofs.Shared.{eq-eqb, ne_eqb, ltb-false, eqb-true, not-false, eqb, length, get_or, take, drop, take_at, at_front, Register}
use Rattle.job_rules.proofs.Shared.{zero_register, word_at, of_bytes, Edition, One, Two, WORD, NONZERO, first_bad, Counts, Ok, Err, Job, ReadJob, Written}
use Rattle.job_rules.proofs.Shared.{instructions_at, registers_at, size_of, register_count, encode, two_at, edition_in, says_edition, words_in}
use Rattle.job_rules.proofs.Shared.{registers_of, may_hold, filled, job_of, accepted_of, refused_of, tested_of, header_of, header_number, body_of, answer_for}
use Rattle.job_rules.proofs.Shared.{Header, read_as, written_of, size_or_refusal, write_of}
use Rattle.table.proofs.Decided.{none_refused, neither_held, deciding}
use Rattle.job_rules.proofs.Pieces.{length_pieces}

-- ---- the header

-- the four numbers, as they were read, and the edition by the first offset
pub by_numbers : (l : List ℕ) {edition : Edition} {n r first second : ℕ} {h : Header}
    → n ≡ two_at l 0 → r ≡ two_at l 2 → first ≡ two_at l 4 → second ≡ two_at l 6 → edition ≡ cond (eqb first (instructions_at Two)) Two One
    → h ≡ tested_of edition n r first (says_edition edition l) second (length l) → h ≡ header_of (edition_in l) l
unfolding header_of
by_numbers l en er ef es ee h = rw (← en, ← er, ← ef, ← es, ← ee) h

-- ---- what is known of a file whose header is taken

pub record Taken (edition : Edition) (l : List ℕ) : Type 0 where
  pub whole : 8 ≤ length l
  pub few : two_at l 0 ≤ 64
  pub fewer : two_at l 2 ≤ 32
  pub right_first : two_at l 4 ≡ instructions_at edition
  pub whole_header : instructions_at edition ≤ length l
  pub right_edition : says_edition edition l ≡ true
  pub right_second : two_at l 6 ≡ registers_at edition (two_at l 0)
  pub right_size : length l ≡ size_of edition (two_at l 0) (two_at l 2)

pub header_taken : (edition : Edition) (l : List ℕ) → header_number (header_of edition l) ≡ 0 → Taken edition l
unfolding header_of tested_of
header_taken edition l e =
    let passed = none_refused _ _ header_number refl e in
    let behind = passed.1.1.1 in
    record {
      whole = ltb-false (length l) 8 passed.0;
      few = ltb-false 64 (two_at l 0) passed.1.0;
      fewer = ltb-false 32 (two_at l 2) passed.1.1.0;
      right_first = eqb-true (two_at l 4) (instructions_at edition) (not-false _ behind.0);
      whole_header = ltb-false (length l) (instructions_at edition) behind.1.0;
      right_edition = not-false _ behind.1.1.0;
      right_second = eqb-true (two_at l 6) (registers_at edition (two_at l 0)) (not-false _ behind.1.1.1.0);
      right_size = eqb-true (length l) (size_of edition (two_at l 0) (two_at l 2)) (not-false _ behind.1.1.1.1.0);
    }

pub header_counts : (edition : Edition) (l : List ℕ) → Taken edition l → Ok (record { edition = edition; n = record { 0 = two_at l 0 }; r = two_at l 2 }) ≡ header_of edition l
unfolding header_of tested_of
header_counts edition l t = search deciding depth 12

-- the counts that go on
pub counts_fit : (edition : Edition) (l : List ℕ) (counts : Counts) → header_of edition l ≡ Ok counts
    → (counts.n.0 ≤ 64) × (counts.r ≤ 32) × (size_of counts.edition counts.n.0 counts.r ≤ length l)
counts_fit edition l counts e =
    let h = header_taken edition l (ap header_number e) in
    let f : record { edition = edition; n = record { 0 = two_at l 0 }; r = two_at l 2 } ≡ counts = ok_once (header_counts edition l h ∙ e) in
    let en : two_at l 0 ≡ counts.n.0 = ap (λ (c : Counts). c.n.0) f in
    let er : two_at l 2 ≡ counts.r = ap (λ (c : Counts). c.r) f in
    let at : instructions_at edition ≡ instructions_at counts.edition = ap (λ (c : Counts). instructions_at c.edition) f in
    (omega arith, omega arith, omega arith)
  where
    ok_once : {a b : Counts} → ◌≡◌ {A = Header} (Ok a) (Ok b) → a ≡ b
    ok_once e = cc

-- ---- the body

module _ (edition : Edition) (l : List ℕ) (n r : ℕ) {at : ℕ} {words : List ℕ} {bad : ℕ} (there : at ≡ instructions_at edition)
    (read : words ≡ filled 64 0 (words_in n (drop at l))) (first : bad ≡ first_bad (take n words)) where
  first_of_file : bad ≡ first_bad (words_in n (drop at l))
  first_of_file =
      first ∙ ap (λ (ws : List ℕ). first_bad (take n ws)) read
      ∙ ap first_bad (take_at (words_in n (drop at l)) _ n (length_pieces (λ (m : List ℕ). word_at m 0) 4 n (drop at l)))

  pub bad_in_file : {v : ReadJob} → bad < n → v ≡ refused_of WORD bad → v ≡ body_of edition l n r
  unfolding body_of
  bad_in_file h e = e ∙ rw (← there, ← first_of_file) (search deciding)

  module _ {v : Register} {held : Bool} (good : n ≤ bad) (zeroth : v ≡ get_or (registers_of r (drop (at + 4 * n) l)) 0 zero_register) (asked : held ≡ may_hold edition v) where
    held_in_file : held ≡ may_hold edition (get_or (registers_of r (drop (at + 4 * n) l)) 0 zero_register)
    held_in_file = asked ∙ ap (may_hold edition) zeroth

    pub nonzero_in_file : {a : ReadJob} → not held ≡ true → a ≡ refused_of NONZERO 0 → a ≡ body_of edition l n r
    unfolding body_of
    nonzero_in_file h e = e ∙ rw (← there, ← first_of_file, ← held_in_file) (search deciding)

    pub job_in_file : {registers : List Register} → not held ≡ false → registers ≡ filled 32 zero_register (registers_of r (drop (at + 4 * n) l))
        → accepted_of (record { program = record { words = words; n = record { 0 = n }; edition = edition }; registers = registers; r = r })
        ≡ body_of edition l n r
    unfolding body_of
    job_in_file h rest =
        rw (
          ← there,
          ← first_of_file,
          ← held_in_file,
          read,
          rest,
          length_pieces (λ (m : List ℕ). word_at m 0) 4 n (drop at l),
          length_pieces of_bytes 16 r (drop (at + 4 * n) l),
        )
        (search deciding)

-- ---- the writer

-- the buffer by the answer: unaltered, or with the job at its front
module _ (edition : Edition) (words bytes out : List ℕ) {answer : Written} (asked : answer ≡ size_or_refusal edition words bytes (length out)) where
  pub not_written : (answer.refusal ≡ 0 → ⊥) → (answer, out) ≡ write_of edition words bytes out
  unfolding write_of
  not_written h = rw (← asked, ne_eqb _ _ h)

  pub job_written : {new : List ℕ} → answer.refusal ≡ 0 → new ≡ at_front (encode edition words bytes) out → (answer, new) ≡ write_of edition words bytes out
  unfolding write_of
  job_written h e = rw (← asked, eq-eqb _ _ h, e)

-- ---- what is known of a job that the writer accepts

pub record Writable (edition : Edition) (words bytes : List ℕ) : Type 0 where
  pub few : length words ≤ 64
  pub fewer : length bytes ≤ 512
  pub whole : length bytes % 16 ≡ 0
  pub good : length words ≤ first_bad words
  pub held : may_hold edition (get_or (registers_of (register_count bytes) bytes) 0 zero_register) ≡ true

-- and of the room for it
pub record Accepts (edition : Edition) (words bytes : List ℕ) (room : ℕ) : Type 0 where
  pub job : Writable edition words bytes
  pub enough : length (encode edition words bytes) ≤ room

pub asked_accepts : (edition : Edition) (words bytes : List ℕ) (room : ℕ) → (size_or_refusal edition words bytes room).refusal ≡ 0
    → Accepts edition words bytes room
unfolding size_or_refusal
asked_accepts edition words bytes room e =
    let passed = none_refused _ _ (λ (w : Written). w.refusal) refl e in
    let registers = neither_held _ _ passed.1.0 in
    record {
      job = record {
        few = ltb-false 64 (length words) passed.0;
        fewer = ltb-false 512 (length bytes) registers.0;
        whole = eqb-true (length bytes % 16) 0 (not-false _ registers.1);
        good = ltb-false (first_bad words) (length words) passed.1.1.0;
        held = not-false _ passed.1.1.1.0;
      };
      enough = ltb-false room (length (encode edition words bytes)) passed.1.1.1.1.0;
    }

pub asked_fits : (edition : Edition) (words bytes : List ℕ) (room : ℕ) → Accepts edition words bytes room
    → written_of 0 0 (length (encode edition words bytes)) ≡ size_or_refusal edition words bytes room
unfolding size_or_refusal
asked_fits edition words bytes room a = search deciding depth 12

pub accepts : (edition : Edition) (words bytes out : List ℕ) → (write_of edition words bytes out).0.refusal ≡ 0 → Accepts edition words bytes (length out)
unfolding write_of
accepts edition words bytes out e = asked_accepts edition words bytes (length out) e

pub written : (edition : Edition) (words bytes out : List ℕ) → Accepts edition words bytes (length out)
    → write_of edition words bytes out ≡ (written_of 0 0 (length (encode edition words bytes)), at_front (encode edition words bytes) out)
written edition words bytes out a =
    sym (job_written edition words bytes out (asked_fits edition words bytes (length out) a) refl refl)

-- ---- what is known of a file that the reader accepts

abbrev pub job_in : Edition → List ℕ → Job
job_in edition l =
    job_of edition (words_in (two_at l 0) (drop (instructions_at edition) l)) (registers_of (two_at l 2) (drop (registers_at edition (two_at l 0)) l))

pub record Accepted (edition : Edition) (l : List ℕ) : Type 0 where
  pub header : Taken edition l
  pub good : two_at l 0 ≤ first_bad (words_in (two_at l 0) (drop (instructions_at edition) l))
  pub held : may_hold edition (get_or (registers_of (two_at l 2) (drop (registers_at edition (two_at l 0)) l)) 0 zero_register) ≡ true

number_read : (l : List ℕ) (h : Header) → (answer_for l h).refusal ≡ 0 → header_number h ≡ 0
number_read l (Ok counts) e = refl
number_read l (Err why) e = e

pub accepted : (edition : Edition) (l : List ℕ) → (read_as edition l).refusal ≡ 0 → Accepted edition l
unfolding body_of
accepted edition l e =
    let h = header_taken edition l (number_read l (header_of edition l) e) in
    let passed = none_refused _ _ (λ (v : ReadJob). v.refusal) refl (ap (λ (x : Header). (answer_for l x).refusal) (header_counts edition l h) ∙ e) in
    record { header = h; good = ltb-false _ (two_at l 0) passed.0; held = not-false _ passed.1.0 }

pub read : (edition : Edition) (l : List ℕ) → Accepted edition l → read_as edition l ≡ accepted_of (job_in edition l)
unfolding body_of
read edition l a = sym (ap (answer_for l) (header_counts edition l a.header)) ∙ sym (search deciding)
