-- What the bytes of a job say when they are read, and what a file that was read is when it is written again. Carried by the laws of `Pieces` and by what
-- the tests leave known of a file or a job that they accept.
-- Assumes nothing.
use Rattle.job_rules.proofs.Shared.{ℕ, suc, ◌+◌, ◌*◌, ◌/◌, ◌%◌, ◌^◌, ◌≤◌, ◌≡◌, refl, sym, ap, subst, ◌∙◌, Bool, true, false, cond, List, []}
use Rattle.job_rules.proofs.Shared.{◌∷◌, ◌++◌, flat_map, append_assoc, append-nil, arith, ltb-true, eqb-true, ltb, eqb, length, get_or, drop, length-drop}
use Rattle.job_rules.proofs.Shared.{drop_of_length-le, take-append_seam, drop_at, drop-drop, Register, zero_register, word_at, of_bytes, bytes_of}
use Rattle.job_rules.proofs.Shared.{Edition, One, Two, first_bad, Job, ReadJob, Bytes, instructions_at, registers_at, two_bytes, four_bytes}
use Rattle.job_rules.proofs.Shared.{edition_bytes, header_bytes, register_count, encode, two_at, edition_in, says_edition, words_in, registers_of}
use Rattle.job_rules.proofs.Shared.{may_hold, job_of, accepted_of, body_of, read_as, read_of, lines_of, register_bytes_of}
use mathlib.Core.Bool.{and-eq-true_iff}
use Rattle.register.proofs.ByteOrder.{word_of_its_bytes, next, bytes_of_word_at}
use Rattle.register.proofs.Theorems.{bytes_then_rest}
use Rattle.table.proofs.Decided.{deciding}
use Rattle.job_rules.proofs.Pieces.{bytes_behind, length_pieces, pieces_size, pieces_back, offset_bounds, header_size, header_and_words, job_size}
use Rattle.job_rules.proofs.Refusals.{Writable, Accepts, Taken, header_counts, Accepted, read, job_in}

-- ---- read again what was written

-- the first word of a program without a bad word is good, and so is the rest
good_first : (t : Bool) {n m : ℕ} → suc n ≤ cond t (suc m) 0 → (t ≡ true) × (n ≤ m)
good_first true h = (refl, omega arith)
good_first false h = absurd (omega arith)

words_back : (words rest : List ℕ) → length words ≤ first_bad words → words_in (length words) (flat_map four_bytes words ++ rest) ≡ words
unfolding flat_map first_bad
words_back [] rest h = refl
words_back (w ∷ words) rest h =
    let g = good_first (ltb w (2 ^ 25)) h in
    let small = ltb-true w (2 ^ 25) g.0 in
    let first = word_of_its_bytes w (omega arith) in
    let others = words_back words rest g.1 in
    λ i. first i ∷ others i

-- the first offset says the edition
edition_said : (edition : Edition) (l : List ℕ) → two_at l 4 ≡ instructions_at edition → edition_in l ≡ edition
edition_said One l e = rw e
edition_said Two l e = rw e

-- and the bytes behind the four numbers confirm it
says_edition_lem : (edition : Edition) (words bytes : List ℕ) → says_edition edition (encode edition words bytes) ≡ true
unfolding encode
says_edition_lem One words bytes = refl
says_edition_lem Two words bytes = refl

module _ (edition : Edition) (words bytes : List ℕ) (w : Writable edition words bytes) where
  abbrev file : List ℕ
  file = encode edition words bytes

  -- what the file of a job says, number by number
  pub says_n : two_at file 0 ≡ length words
  unfolding encode
  says_n = let few = w.few in omega arith

  says_r : two_at file 2 ≡ register_count bytes
  unfolding encode
  says_r = let fewer = w.fewer in omega arith

  says_first : two_at file 4 ≡ instructions_at edition
  unfolding encode
  says_first = omega (arith, (offset_bounds edition).1)

  says_second : two_at file 6 ≡ registers_at edition (length words)
  unfolding encode
  says_second = let few = w.few in omega (arith, (offset_bounds edition).1)

  header_written : Taken edition file
  header_written =
      let few = w.few in
      let fewer = w.fewer in
      let whole = w.whole in
      let size = job_size edition words bytes in
      record {
        whole = omega (arith, (offset_bounds edition).0);
        few = omega (arith, says_n);
        fewer = omega (arith, says_r);
        right_first = says_first;
        whole_header = omega arith;
        right_edition = says_edition_lem edition words bytes;
        right_second = omega (arith, says_n, says_second);
        right_size = omega (arith, says_n, says_r);
      }

  pub says_words : words_in (length words) (drop (instructions_at edition) file) ≡ words
  unfolding encode
  says_words =
      let header = header_bytes edition (length words) (register_count bytes) in
      ap (words_in (length words))
      (ap (drop (instructions_at edition)) (append_assoc header (flat_map four_bytes words) bytes)
      ∙ drop_at header (flat_map four_bytes words ++ bytes) (instructions_at edition) (header_size edition (length words) (register_count bytes)))
      ∙ words_back words bytes w.good

  pub says_bytes : drop (registers_at edition (length words)) file ≡ bytes
  unfolding encode
  says_bytes =
      let header = header_bytes edition (length words) (register_count bytes) in
      drop_at (header ++ flat_map four_bytes words) bytes (registers_at edition (length words)) (header_and_words edition words bytes)

  read_as_encoded : read_as edition file ≡ accepted_of (job_of edition words (registers_of (register_count bytes) bytes))
  unfolding body_of
  read_as_encoded =
      rw (← (header_counts edition file header_written), says_n, says_r, says_words, says_bytes)
      (let good = w.good in let held = w.held in sym (search deciding))

  -- and so by the reader of both editions, since the first offset says which it is
  pub encoded_edition : edition_in file ≡ edition
  encoded_edition = edition_said edition file says_first

  pub read_encoded : read_of file ≡ accepted_of (job_of edition words (registers_of (register_count bytes) bytes))
  read_encoded = ap (λ (e : Edition). read_as e file) encoded_edition ∙ read_as_encoded

-- ---- write again what was read

-- two bytes of the header, then the rest
two_back : (l : List ℕ) → Bytes l → (i : ℕ) {rest : List ℕ} → i + 2 ≤ length l → drop (i + 2) l ≡ rest → two_bytes (two_at l i) ++ rest ≡ drop i l
two_back l b i {rest} h e =
    let low : two_at l i % 2 ^ 8 ≡ get_or l i 0 = omega (arith, b i) in
    let above : two_at l i / 2 ^ 8 ≡ get_or l (i + 1) 0 = omega (arith, b i) in
    let high : two_at l i / 2 ^ 8 % 2 ^ 8 ≡ get_or l (i + 1) 0 = rw above (omega (arith, b (i + 1))) in
    (λ j. low j ∷ high j ∷ rest)
    ∙ sym (next l i (i + 1) (omega arith) (omega arith) (next l (i + 1) (i + 2) (omega arith) (omega arith) e))

word_back : (l : List ℕ) → Bytes l → 4 ≤ length l → four_bytes (word_at l 0) ++ drop 4 l ≡ l
word_back l b h = bytes_of_word_at l b 0 h refl

register_back : (l : List ℕ) → Bytes l → 16 ≤ length l → bytes_of (of_bytes l) ++ drop 16 l ≡ l
register_back l b h = bytes_then_rest l b h refl

-- the edition's own bytes, then the rest
edition_back : (edition : Edition) (l : List ℕ) → Bytes l → Taken edition l → edition_bytes edition ++ drop (instructions_at edition) l ≡ drop 8 l
edition_back One l b t = refl
edition_back Two l b t =
    let whole = t.whole_header in
    let said = (and-eq-true_iff (eqb (two_at l 8) 2) (eqb (two_at l 10) 0)).0 t.right_edition in
    sym (λ i. two_bytes (eqb-true (two_at l 8) 2 said.0 i) ++ two_bytes (eqb-true (two_at l 10) 0 said.1 i) ++ drop 12 l)
    ∙ two_back l b 8 (omega arith) (sym (two_back l b 10 (omega arith) refl))

module _ (edition : Edition) (l : List ℕ) (b : Bytes l) (a : Accepted edition l) where
  abbrev n : ℕ
  n = two_at l 0

  abbrev r : ℕ
  r = two_at l 2

  abbrev at : ℕ
  at = instructions_at edition

  abbrev words : List ℕ
  words = words_in n (drop at l)

  abbrev registers : List Register
  registers = registers_of r (drop (registers_at edition n) l)

  words_counted : length words ≡ n
  words_counted = length_pieces (λ (m : List ℕ). word_at m 0) 4 n (drop at l)

  registers_counted : length registers ≡ r
  registers_counted = length_pieces of_bytes 16 r (drop (registers_at edition n) l)

  bytes_counted : length (flat_map bytes_of registers) ≡ 16 * r
  bytes_counted = pieces_size bytes_of 16 (λ (v : Register). refl) registers ∙ ap (λ (k : ℕ). 16 * k) registers_counted

  count_again : register_count (flat_map bytes_of registers) ≡ r
  count_again = omega (arith, bytes_counted)

  header_back : header_bytes edition n r ++ drop at l ≡ l
  header_back =
      let t = a.header in
      let whole = t.whole in
      let rest : edition_bytes edition ++ drop at l ≡ drop 8 l = edition_back edition l b t in
      append_assoc (two_bytes n ++ two_bytes r ++ two_bytes at ++ two_bytes (registers_at edition n)) (edition_bytes edition) (drop at l)
      ∙ (λ i. two_bytes n ++ two_bytes r ++ two_bytes (sym t.right_first i) ++ two_bytes (sym t.right_second i) ++ rest i)
      ∙ two_back l b 0 (omega arith) (sym (two_back l b 2 (omega arith) (sym (two_back l b 4 (omega arith) (sym (two_back l b 6 (omega arith) refl))))))

  registers_back : flat_map bytes_of registers ≡ drop (registers_at edition n) l
  registers_back =
      let size = a.header.right_size in
      let behind : List ℕ = drop (registers_at edition n) l in
      let counted = length-drop (registers_at edition n) l in
      let none : drop (16 * r) behind ≡ [] = drop_of_length-le behind {i = 16 * r} (omega arith) in
      sym (append-nil (flat_map bytes_of registers)) ∙ ap (λ (t : List ℕ). flat_map bytes_of registers ++ t) (sym none)
      ∙ pieces_back bytes_of of_bytes 16 register_back r behind (bytes_behind (registers_at edition n) l b) (omega arith)

  words_and_registers_back : flat_map four_bytes words ++ flat_map bytes_of registers ≡ drop at l
  words_and_registers_back =
      let size = a.header.right_size in
      let counted = length-drop at l in
      ap (λ (t : List ℕ). flat_map four_bytes words ++ t) (registers_back ∙ sym (drop-drop (4 * n) at l))
      ∙ pieces_back four_bytes (λ (m : List ℕ). word_at m 0) 4 word_back n (drop at l) (bytes_behind at l b) (omega arith)

  file_back : encode edition words (flat_map bytes_of registers) ≡ l
  unfolding encode
  file_back =
      (λ i. header_bytes edition (words_counted i) (count_again i) ++ flat_map four_bytes words ++ flat_map bytes_of registers)
      ∙ append_assoc (header_bytes edition n r) (flat_map four_bytes words) (flat_map bytes_of registers)
      ∙ ap (λ (t : List ℕ). header_bytes edition n r ++ t) words_and_registers_back
      ∙ header_back

  -- the job that was read is handed to the writer as that edition, those words and those bytes
  job_read : (read_as edition l).job ≡ job_in edition l
  job_read = ap (λ (v : ReadJob). v.job) (read edition l a)

  handed_edition : (read_as edition l).job.program.edition ≡ edition
  handed_edition = ap (λ (j : Job). j.program.edition) job_read

  handed_words : lines_of (read_as edition l).job.program ≡ words
  handed_words = ap (λ (j : Job). lines_of j.program) job_read ∙ take-append_seam words _

  handed_bytes : register_bytes_of (read_as edition l).job ≡ flat_map bytes_of registers
  handed_bytes = ap register_bytes_of job_read ∙ ap (flat_map bytes_of) (take-append_seam registers _)

  pub file_again : encode (read_as edition l).job.program.edition (lines_of (read_as edition l).job.program) (register_bytes_of (read_as edition l).job) ≡ l
  file_again = (λ i. encode (handed_edition i) (handed_words i) (handed_bytes i)) ∙ file_back

  pub bytes_again : Bytes (register_bytes_of (read_as edition l).job)
  bytes_again = subst Bytes (sym (handed_bytes ∙ registers_back)) (bytes_behind (registers_at edition n) l b)

  held_again : may_hold edition (get_or (registers_of (register_count (flat_map bytes_of registers)) (flat_map bytes_of registers)) 0 zero_register) ≡ true
  held_again = (λ i. may_hold edition (get_or (registers_of (count_again i) (registers_back i)) 0 zero_register)) ∙ a.held

  pub accepts_again : (out : List ℕ) → length l ≤ length out
      → Accepts (read_as edition l).job.program.edition (lines_of (read_as edition l).job.program) (register_bytes_of (read_as edition l).job) (length out)
  accepts_again out room =
      let t = a.header in
      rw (handed_edition, handed_words, handed_bytes)
      (record {
        job = record {
          few = omega (arith, words_counted, t.few);
          fewer = omega (arith, bytes_counted, t.fewer);
          whole = omega (arith, bytes_counted);
          good = omega (arith, words_counted, a.good);
          held = held_again;
        };
        enough = omega (arith, ap length file_back);
      })
