-- The first 1,217 bytes of a text decide its answer, and 1,216 do not. Carried by a line's 19 bytes: an accepted line is so whatever follows it, and one that
-- is refused stays so, with its number, where it is cut behind them.
-- Assumes nothing.
use Prim.Native.Nat.{ℕ, zero, suc, ◌+◌, ◌*◌, ◌-◌, ◌≤◌, ◌<◌}
use mathlib.Core.Path.{◌≡◌, refl, sym, ap, ◌∙◌}
use mathlib.Core.Bool.{Bool, true, false, cond}
use mathlib.Core.List.{List, [], ◌∷◌, ◌++◌, append_assoc, flat_map}
use native.Mathlib.Omega.{arith}
use borrow.Author.Tests.{ltb-true, ltb-false, leb-false}
use lib.Dec.{leb, ltb}
use lib.ListN.{length, take, drop, replicate, length-take, take-append-drop}
use lib.Seq.{take_all, take-nil, take-append-add, drop-append_seam, length-take-le}
use Rattle.table.specs.Decided.{decided}
use Rattle.table.specs.Refusal.{NAME, OPERANDS}
use Rattle.text_rules.specs.Letters.{s}
use Rattle.text_rules.specs.Forms.{first_row, form_at, row_named}
use Rattle.text_rules.specs.Front.{front_while}
use Rattle.text_rules.specs.Number.{digit_of, says_below, decimal_in}
use Rattle.text_rules.specs.Line.{Line, in_name, name_in, operands_in, refused_line, line_of}
use Rattle.text_rules.specs.Text.{refused_text, read_from, read_text_of, bytes_to_read}
use Rattle.text_rules.specs.Listing.{line_text}
use Rattle.text_rules.proofs.Fronts.{front_cut}
use Rattle.text_rules.proofs.Rows.{sound}
use Rattle.text_rules.proofs.Stated.{found, stated_line, accepted_line_lem}
use Rattle.text_rules.proofs.Longest.{longest_written}
use Rattle.text_rules.proofs.Reading.{one_too_many, refused_there, goes_on_lem, either, refused_line_lem}

-- ---- the name of a text that is cut

-- a name of more than six bytes is no row's
long_name : (name : List ℕ) → 6 < length name → leb 26 (row_named name) ≡ true
long_name name h = by (leb 26 (row_named name)) refl
  where
    by : (t : Bool) → leb 26 (row_named name) ≡ t → leb 26 (row_named name) ≡ true
    by true e = e
    by false e =
        let row = leb-false 26 (row_named name) e in
        absurd (omega (arith, ap length (found name row), (sound (row_named name) row).short))

-- so whether it is one's is seen from seven bytes
cut_row : (n : ℕ) (name : List ℕ) → 6 < n → leb 26 (row_named (take n name)) ≡ leb 26 (row_named name)
cut_row n name h = by (ltb n (length name)) refl
  where
    by : (t : Bool) → ltb n (length name) ≡ t → leb 26 (row_named (take n name)) ≡ leb 26 (row_named name)
    by true e =
        let more = ltb-true n (length name) e in
        long_name (take n name) (omega (arith, length-take-le n name (omega arith))) ∙ sym (long_name name (omega arith))
    by false e = ap (λ (x : List ℕ). leb 26 (row_named x)) (take_all n name (ltb-false n (length name) e))

-- ---- a line that is cut

-- an accepted line is accepted whatever is put behind the text
pub accepted_before : (text rest : List ℕ) → (line_of text).refusal ≡ 0 → line_of (text ++ rest) ≡ line_of text
accepted_before text rest e =
    let s = accepted_line_lem text e in
    let line : List ℕ = line_text (form_at s.row) s.numbers in
    let behind : List ℕ = drop (line_of text).size text in
    ap (λ (x : List ℕ). line_of (x ++ rest)) s.written ∙ ap line_of (append_assoc line behind rest)
    ∙ stated_line s.row s.numbers (behind ++ rest) s.a_row s.below ∙ sym s.answer

-- the text cut so many bytes behind its first line
record Cut (n : ℕ) (text : List ℕ) : Type 0 where
  same : line_of (take n text) ≡ line_of text
  behind : drop (line_of text).size (take n text) ≡ take (n - (line_of text).size) (drop (line_of text).size text)
  few : (line_of text).size ≤ 19

cut_accepted : (n : ℕ) (text : List ℕ) → 19 ≤ n → (line_of text).refusal ≡ 0 → Cut n text
cut_accepted n text h e =
    let s = accepted_line_lem text e in
    let line : List ℕ = line_text (form_at s.row) s.numbers in
    let rest : List ℕ = drop (line_of text).size text in
    let few : length line ≤ 19 = longest_written s.row s.numbers s.a_row s.below in
    let size : (line_of text).size ≡ length line = ap (λ (x : Line). x.size) s.answer in
    let all : length line + (n - length line) ≡ n = omega arith in
    let cut : take n text ≡ line ++ take (n - length line) rest
    = ap (λ (k : ℕ). take k text) (sym all) ∙ ap (take (length line + (n - length line))) s.written ∙ take-append-add line rest (n - length line) in
    record {
      same = ap line_of cut ∙ stated_line s.row s.numbers (take (n - length line) rest) s.a_row s.below ∙ sym s.answer;
      behind =
          ap (λ (k : ℕ). drop k (take n text)) size ∙ ap (drop (length line)) cut ∙ drop-append_seam line (take (n - length line) rest)
          ∙ ap (λ (k : ℕ). take (n - k) rest) (sym size);
      few = omega arith;
    }

cut_refused : (n : ℕ) (text : List ℕ) → 19 ≤ n → ((line_of text).refusal ≡ 0 → ⊥) → line_of (take n text) ≡ line_of text
cut_refused n text h isnt =
    either (take n text) (λ e. sym (accepted_before (take n text) (drop n text) e) ∙ ap line_of (take-append-drop n text))
    (λ cut-isnt.
    refused_line_lem (take n text) cut-isnt
    ∙ ap (λ (t : Bool). refused_line (cond t NAME OPERANDS))
    (ap (λ (x : List ℕ). leb 26 (row_named x)) (front_cut in_name n text) ∙ cut_row n (name_in text) (omega arith))
    ∙ sym (refused_line_lem text isnt))

-- ---- a text that is cut

-- so many bytes decide what is read where so many lines may follow
abbrev Decides : ℕ → ℕ → Type 0
Decides left n = (words text : List ℕ) → read_from left words (take n text) ≡ read_from left words text

last_byte : (n : ℕ) → 0 < n → Decides zero n
last_byte n h words [] = ap (read_from zero words) (take-nil n)
last_byte n h words (b ∷ text) =
    let cut = length-take n (b ∷ text) in
    one_too_many words (take n (b ∷ text)) (omega arith) ∙ sym (one_too_many words (b ∷ text) (omega arith))

more_bytes : (left n : ℕ) → 19 < n → ((k : ℕ) → n ≤ k + 19 → Decides left k) → Decides (suc left) n
more_bytes left n h behind words [] = ap (read_from (suc left) words) (take-nil n)
more_bytes left n h behind words (b ∷ text) =
    let whole : List ℕ = b ∷ text in
    let some = length-take n whole in
    either whole
    (λ e.
    let c = cut_accepted n whole (omega arith) e in
    let few = c.few in
    goes_on_lem left words (take n whole) (ap (λ (x : Line). x.refusal) c.same ∙ e)
    ∙ ap (λ (x : Line). read_from left (words ++ x.word ∷ []) (drop x.size (take n whole))) c.same
    ∙ ap (read_from left (words ++ (line_of whole).word ∷ [])) c.behind
    ∙ behind (n - (line_of whole).size) (omega arith) (words ++ (line_of whole).word ∷ []) (drop (line_of whole).size whole)
    ∙ sym (goes_on_lem left words whole e))
    (λ isnt.
    let same = cut_refused n whole (omega arith) isnt in
    refused_there left words (take n whole) (omega arith) (λ e. isnt (sym (ap (λ (x : Line). x.refusal) same) ∙ e))
    ∙ ap (λ (x : Line). refused_text x.refusal (length words)) same
    ∙ sym (refused_there left words whole (omega arith) isnt))

-- 19 for each line, and one more
enough_bytes : (left n : ℕ) → 19 * left < n → Decides left n
enough_bytes zero n h = last_byte n (omega arith)
enough_bytes (suc left) n h = more_bytes left n (omega arith) (λ k fewer. enough_bytes left k (omega arith))

-- the first 1,217 bytes of a text decide its answer
pub first_1217_bytes : (text : List ℕ) → read_text_of (take bytes_to_read text) ≡ read_text_of text
first_1217_bytes text = enough_bytes 64 bytes_to_read (omega arith) [] text

-- ---- and no fewer

-- 64 lines `simals 31 31 31 31`, and one byte more
abbrev pub longest_text : List ℕ
longest_text = flat_map (λ (line : List ℕ). line) (replicate 64 (line_text (form_at 1) (31 ∷ 31 ∷ 31 ∷ 31 ∷ []))) ++ s ∷ []

-- of this text one byte fewer is accepted, and the text is refused
pub no_fewer_bytes : ((read_text_of (take (bytes_to_read - 1) longest_text)).refusal ≡ 0) × ((read_text_of longest_text).refusal ≡ 13)
unfolding line_of front_while operands_in digit_of says_below first_row decided read_from flat_map decimal_in
no_fewer_bytes = (refl, refl)
