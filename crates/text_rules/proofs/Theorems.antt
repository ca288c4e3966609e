-- For the reader of specs/: a line is of the row of the instruction table that its name says; and what the writer of listings answers, and what its buffer holds, read
-- again. Carried by a line as it is written, and by the laws of decisions.
-- Assumes nothing.
use Prim.Native.Nat.{ℕ, ◌≤◌, ◌<◌}
use mathlib.Core.Path.{◌≡◌, refl, sym, ap, subst, ◌∙◌}
use mathlib.Core.Bool.{not}
use mathlib.Core.List.{List, [], ◌∷◌, ◌++◌}
use native.Mathlib.Omega.{arith}
use borrow.Author.Tests.{ltb-true, ltb-false, le-ltb}
use lib.Dec.{eqb}
use lib.ListN.{length, get_or, take}
use lib.Seq.{take-append_seam}
use Rattle.buffer.specs.Front.{at_front}
use Rattle.table.specs.Decided.{decided}
use Rattle.table.specs.Operation.{operation_of}
use Rattle.table.specs.Operation.Operation.{nop}
use Rattle.table.specs.Refusal.{ROOM, first_bad}
use Rattle.table.proofs.Decided.{none_refused, passes, apart, ends}
use Rattle.table.specs.declared.Edition.{Edition}
use Rattle.job_rules.specs.Layout.{bytes_to_read}
use Rattle.job_rules.specs.Program.{lines_of}
use Rattle.job_rules.specs.Write.{Written, written_of, write_of}
use Rattle.job_rules.proofs.Theorems.{read_written}
use Rattle.job_rules.proofs.TooLong as of_a_job
use Rattle.text_rules.specs.Forms.{form_at}
use Rattle.text_rules.specs.Line.{Line, line_of}
use Rattle.text_rules.specs.Text.{accepted_text, read_text_of}
use Rattle.text_rules.specs.Listing.{line_text, listing_of, longest_listing, listed_or_refusal, list_of, list_job_of}
use Rattle.text_rules.proofs.Written.{Below}
use Rattle.text_rules.proofs.Words.{rows, word_of_its_row}
use Rattle.text_rules.proofs.Limits.{words_read, few_words, words_below, words_count, below_is_good, good_is_below}
use Rattle.text_rules.proofs.Stated.{stated_line}
use Rattle.text_rules.proofs.Longest.{longest_program}
use Rattle.text_rules.proofs.Listings.{Program, reading_a_listing}
use Rattle.job_rules.specs.Read.{ReadJob}

-- ---- a line

-- A line as it is written gives a word of the operation that stands in its row of the instruction table.
pub of_its_row : (row : ℕ) (vs rest : List ℕ) → row < 25 → Below (form_at row).operands vs
    → operation_of (line_of (line_text (form_at row) vs ++ rest)).word ≡ get_or rows row nop
of_its_row row vs rest h b = ap (λ (x : Line). operation_of x.word) (stated_line row vs rest (omega arith) b) ∙ word_of_its_row row h vs b

-- ---- what the writer answers

-- words that it does not refuse where there is so much room
record Listable (words : List ℕ) (room : ℕ) : Type 0 where
  program : Program words
  enough : length (listing_of words) ≤ room

listable : (words : List ℕ) (room : ℕ) → (listed_or_refusal words room).refusal ≡ 0 → Listable words room
unfolding listed_or_refusal
listable words room e =
    let passed = none_refused _ _ (λ (w : Written). w.refusal) refl e in
    record {
      program = record { few = ltb-false 64 (length words) passed.0; small = good_is_below words (ltb-false (first_bad words) (length words) passed.1.0) };
      enough = ltb-false room (length (listing_of words)) passed.1.1.0;
    }

-- Every program is listed wherever there is room for its listing: its size is the answer, and the listing stands at the buffer's front, the rest kept.
pub program_listed : (words out : List ℕ) → Program words → length (listing_of words) ≤ length out
    → list_of words out ≡ (written_of 0 0 (length (listing_of words)), at_front (listing_of words) out)
unfolding list_of listed_or_refusal
program_listed words out p room =
    let size = length (listing_of words) in
    let answer : written_of 0 0 size ≡ listed_or_refusal words (length out)
    = passes _ _ _ (le-ltb 64 (length words) p.few)
    (passes _ _ _ (le-ltb (first_bad words) (length words) (omega (arith, below_is_good words p.small)))
    (passes _ _ _ (le-ltb (length out) size room) ends)) in
    rw (← answer)

-- What it did not refuse is a program, and its listing is what the answer's size takes from the buffer's front.
pub record Listed (words out : List ℕ) : Type 0 where
  pub program : Program words
  pub front : take (list_of words out).0.size (list_of words out).1 ≡ listing_of words

pub listed_there : (words out : List ℕ) → (list_of words out).0.refusal ≡ 0 → Listed words out
unfolding list_of
listed_there words out e =
    let l = listable words (length out) e in
    record {
      program = l.program;
      front =
          ap (λ (x : Written × List ℕ). take x.0.size x.1) (program_listed words out l.program l.enough)
          ∙ take-append_seam (listing_of words) _;
    }

-- Reading what the writer put at the front of a buffer gives the same words.
pub read_listed : (words out : List ℕ) → (let listed = list_of words out in
    listed.0.refusal ≡ 0 → read_text_of (take listed.0.size listed.1) ≡ accepted_text words)
read_listed words out e = let l = listed_there words out e in ap read_text_of l.front ∙ reading_a_listing words l.program

-- the words of any text are a program
pub words_program : (text : List ℕ) → Program (words_read (read_text_of text))
words_program text = record { few = omega (arith, few_words text, words_count text); small = words_below text }

-- Listing what was read from a text that is its words' listing gives the same bytes, and leaves those beyond them.
pub listed_read : (text out : List ℕ) → text ≡ listing_of (words_read (read_text_of text)) → length text ≤ length out
    → list_of (words_read (read_text_of text)) out ≡ (written_of 0 0 (length text), at_front text out)
listed_read text out is room =
    let words = words_read (read_text_of text) in
    program_listed words out (words_program text) (omega (arith, ap length is))
    ∙ ap (λ (l : List ℕ). (written_of 0 0 (length l), at_front l out)) (sym is)

-- a job file is listed by what is read of it
abbrev listed_by : List ℕ → ReadJob → Written × List ℕ
listed_by out read =
    decided ((not (eqb read.refusal 0), (written_of read.refusal read.place 0, out)) ∷ []) (list_of (lines_of read.job.program) out)

-- So its first 781 bytes decide its listing.
pub first_781_bytes : (file out : List ℕ) → list_job_of (take bytes_to_read file) out ≡ list_job_of file out
unfolding list_job_of
first_781_bytes file out = ap (listed_by out) (of_a_job.first_781_bytes file)

-- A job that was written in either edition lists the lines of its words: the edition is no part of the text.
pub edition_not_listed : (edition : Edition) (words bytes buffer out : List ℕ) → (let w = write_of edition words bytes buffer in
    w.0.refusal ≡ 0 → list_job_of (take w.0.size w.1) out ≡ list_of words out)
unfolding list_job_of
edition_not_listed edition words bytes buffer out e =
    ap (listed_by out) (read_written edition words bytes buffer e)
    ∙ sym (passes _ _ _ refl ends)
    ∙ ap (λ (l : List ℕ). list_of l out) (take-append_seam words _)

-- 1,216 bytes always suffice: with so much room nothing is refused with 9. With 1,215 some program is (`most_room` of Boundaries).
pub enough_room : (words : List ℕ) (room : ℕ) → longest_listing ≤ room → (listed_or_refusal words room).refusal ≡ ROOM → ⊥
unfolding listed_or_refusal
enough_room words room h =
    apart _ _ NotRoom _ _ (λ _ e. omega arith) (λ few.
    apart _ _ NotRoom _ _ (λ _ e. omega arith) (λ good.
    apart _ _ NotRoom _ _
    (λ none _.
    let less = ltb-true room (length (listing_of words)) none in
    omega (arith, longest_program words (ltb-false 64 (length words) few) (good_is_below words (ltb-false (first_bad words) (length words) good))))
    (λ _. subst NotRoom ends (λ e. omega arith))))
  where
    NotRoom : Written → Type 0
    NotRoom w = w.refusal ≡ ROOM → ⊥
