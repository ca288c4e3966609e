-- The texts that are accepted are those of at most 64 lines as they are written, one behind another, and their words are the lines' words, in order. Carried by
-- induction on the lines.
-- Assumes nothing.
use Prim.Native.Nat.{ℕ, zero, suc, ◌-◌, ◌≤◌, ◌<◌}
use mathlib.Core.Path.{◌≡◌, refl, sym, ap, ◌∙◌}
use mathlib.Core.List.{List, [], ◌∷◌, ◌++◌, map, flat_map, append_assoc, append-nil}
use native.Mathlib.Omega.{arith}
use native.Mathlib.Nat.{sub-zero, suc-sub-suc, le_of_suc-le-suc}
use lib.ListN.{length, drop}
use lib.Seq.{append_snoc, drop-append_seam}
use Rattle.text_rules.specs.Forms.{form_at}
use Rattle.text_rules.specs.Line.{Line, line_of}
use Rattle.text_rules.specs.Text.{ReadText, accepted_text, read_from, read_text_of}
use Rattle.text_rules.specs.Listing.{line_text}
use Rattle.text_rules.proofs.Written.{Below, word_of}
use Rattle.text_rules.proofs.Stated.{stated_line, accepted_line_lem}
use Rattle.text_rules.proofs.Reading.{at_end, one_too_many, refused_there, goes_on_lem, either}

-- ---- lines

-- a row of the table, and a number below its limit for each of its operands
pub record WrittenLine : Type 0 where
  pub row : ℕ
  pub numbers : List ℕ
  pub a_row : row < 26
  pub below : Below (form_at row).operands numbers

abbrev pub bytes_of : WrittenLine → List ℕ
bytes_of x = line_text (form_at x.row) x.numbers

abbrev pub word_of_line : WrittenLine → ℕ
word_of_line x = word_of x.row x.numbers

-- the text of lines, one behind another, and their words
abbrev pub text_of : List WrittenLine → List ℕ
text_of lines = flat_map bytes_of lines

abbrev pub words_of : List WrittenLine → List ℕ
words_of lines = map word_of_line lines

-- ---- lines that are read

read_line : (x : WrittenLine) (left : ℕ) (words rest : List ℕ) → read_from (suc left) words (bytes_of x ++ rest) ≡ read_from left (words ++ word_of_line x ∷ []) rest
read_line x left words rest =
    let answer = stated_line x.row x.numbers rest x.a_row x.below in
    goes_on_lem left words (bytes_of x ++ rest) (ap (λ (y : Line). y.refusal) answer)
    ∙ ap (λ (y : Line). read_from left (words ++ y.word ∷ []) (drop y.size (bytes_of x ++ rest))) answer
    ∙ ap (read_from left (words ++ word_of_line x ∷ [])) (drop-append_seam (bytes_of x) rest)

-- behind lines the reading goes on with their words
pub behind_lines : (lines : List WrittenLine) (left : ℕ) (words rest : List ℕ) → length lines ≤ left
    → read_from left words (text_of lines ++ rest) ≡ read_from (left - length lines) (words ++ words_of lines) rest
unfolding flat_map
behind_lines [] left words rest h = rw (sub-zero left, append-nil words)
behind_lines (x ∷ lines) zero words rest h = absurd (omega arith)
behind_lines (x ∷ lines) (suc left) words rest h =
    ap (read_from (suc left) words) (append_assoc (bytes_of x) (text_of lines) rest)
    ∙ read_line x left words (text_of lines ++ rest)
    ∙ behind_lines lines left (words ++ word_of_line x ∷ []) rest (le_of_suc-le-suc h)
    ∙ rw (append_snoc words (word_of_line x) (words_of lines), suc-sub-suc left (length lines))

-- at most 64 lines are accepted, with their words
pub written_text : (lines : List WrittenLine) → length lines ≤ 64 → read_text_of (text_of lines) ≡ accepted_text (words_of lines)
written_text lines h =
    ap read_text_of (sym (append-nil (text_of lines))) ∙ behind_lines lines 64 [] [] h ∙ at_end (64 - length lines) (words_of lines)

-- ---- a text that is accepted

record Lines (left : ℕ) (text : List ℕ) : Type 0 where
  lines : List WrittenLine
  few : length lines ≤ left
  whole : text ≡ text_of lines

no_lines : (left : ℕ) → Lines left []
unfolding flat_map
no_lines left = record { lines = []; few = omega arith; whole = refl }

one_more : (left : ℕ) (text : List ℕ) → (line_of text).refusal ≡ 0 → Lines left (drop (line_of text).size text) → Lines (suc left) text
unfolding flat_map
one_more left text e rest =
    let s = accepted_line_lem text e in
    let few = rest.few in
    let x : WrittenLine = record { row = s.row; numbers = s.numbers; a_row = s.a_row; below = s.below } in
    record { lines = x ∷ rest.lines; few = omega arith; whole = s.written ∙ ap (λ (r : List ℕ). bytes_of x ++ r) rest.whole }

none_left : (words text : List ℕ) → (read_from zero words text).refusal ≡ 0 → Lines zero text
none_left words [] e = no_lines zero
none_left words (b ∷ text) e =
    absurd (omega (arith, sym (ap (λ (x : ReadText). x.refusal) (one_too_many words (b ∷ text) (omega arith))) ∙ e))

some_left : (left : ℕ) (words text : List ℕ) → (read_from (suc left) words text).refusal ≡ 0
    → ((more rest : List ℕ) → (read_from left more rest).refusal ≡ 0 → Lines left rest) → Lines (suc left) text
some_left left words [] e behind = no_lines (suc left)
some_left left words (b ∷ text) e behind =
    either (b ∷ text)
    (λ holds.
    one_more left (b ∷ text) holds
    (behind (words ++ (line_of (b ∷ text)).word ∷ []) _ (sym (ap (λ (x : ReadText). x.refusal) (goes_on_lem left words (b ∷ text) holds)) ∙ e)))
    (λ isnt. absurd (isnt (sym (ap (λ (x : ReadText). x.refusal) (refused_there left words (b ∷ text) (omega arith) isnt)) ∙ e)))

lines_in_lem : (left : ℕ) (words text : List ℕ) → (read_from left words text).refusal ≡ 0 → Lines left text
lines_in_lem zero words text e = none_left words text e
lines_in_lem (suc left) words text e = some_left left words text e (λ more rest f. lines_in_lem left more rest f)

-- the lines of an accepted text
pub record AcceptedText (text : List ℕ) : Type 0 where
  pub lines : List WrittenLine
  pub few : length lines ≤ 64
  pub whole : text ≡ text_of lines
  pub answer : read_text_of text ≡ accepted_text (words_of lines)

-- every accepted text is at most 64 lines as they are written, one behind another, and its words are theirs
pub accepted_text_lem : (text : List ℕ) → (read_text_of text).refusal ≡ 0 → AcceptedText text
accepted_text_lem text e =
    let s = lines_in_lem 64 [] text e in
    record { lines = s.lines; few = s.few; whole = s.whole; answer = ap read_text_of s.whole ∙ written_text s.lines s.few }
