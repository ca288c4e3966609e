-- For the reader of specs/: reading and listing. Carried by `own_line`, the line of an instruction's word, and by the words of lines that are read one behind another.
-- Assumes nothing.
use Prim.Native.Nat.{ℕ, ◌-◌, ◌^◌, ◌≤◌, ◌<◌}
use mathlib.Core.Path.{◌≡◌, refl, sym, ap, subst, ◌∙◌}
use mathlib.Core.Bool.{Bool, true, false}
use mathlib.Core.List.{List, [], ◌∷◌, ◌++◌, flat_map, append_assoc}
use native.Mathlib.Omega.{arith}
use borrow.Author.Tests.{ltb-true, ltb-false}
use lib.Dec.{ltb}
use lib.ListN.{length, take, drop, replicate}
use lib.Seq.{take-append_seam}
use Rattle.text_rules.specs.Forms.{word_form, form_at}
use Rattle.text_rules.specs.Line.{Line, NEWLINE, name_in, line_of}
use Rattle.text_rules.specs.Text.{ReadText, accepted_text, read_text_of}
use Rattle.text_rules.specs.Listing.{numbers_text, line_text, numbers_in, row_giving, line_of_word, listing_of}
use Rattle.text_rules.proofs.Positional.{AllBelow}
use Rattle.text_rules.proofs.Limits.{words_read}
use Rattle.text_rules.proofs.Giving.{numbers_below, row_there, given_there, own_line}
use Rattle.text_rules.proofs.Stated.{stated_name, accepted_line_lem}
use Rattle.text_rules.proofs.Texts.{WrittenLine, bytes_of, word_of_line, text_of, words_of, written_text, accepted_text_lem}

-- ---- programs

-- at most 64 words, each below 2^25
pub record Program (ws : List ℕ) : Type 0 where
  pub few : length ws ≤ 64
  pub small : AllBelow (2 ^ 25) ws

-- the lines of its listing
record Listed (ws : List ℕ) : Type 0 where
  lines : List WrittenLine
  text : text_of lines ≡ listing_of ws
  words : words_of lines ≡ ws
  many : length lines ≡ length ws

listed : (ws : List ℕ) → AllBelow (2 ^ 25) ws → Listed ws
unfolding flat_map line_of_word listing_of
listed [] h = record { lines = []; text = refl; words = refl; many = refl }
listed (w ∷ ws) h =
    let rest = listed ws h.1 in
    let row = row_giving w in
    let many = rest.many in
    let first : WrittenLine
    = record { row = row; numbers = numbers_in w (form_at row); a_row = row_there w h.0; below = numbers_below w row (row_there w h.0) } in
    record {
      lines = first ∷ rest.lines;
      text = ap (λ (l : List ℕ). bytes_of first ++ l) rest.text;
      words = λ i. given_there w h.0 i ∷ rest.words i;
      many = omega arith;
    }

-- "Reading a listing gives the same words".
pub reading_a_listing : (ws : List ℕ) → Program ws → read_text_of (listing_of ws) ≡ accepted_text ws
reading_a_listing ws p =
    let l = listed ws p.small in
    ap read_text_of (sym l.text) ∙ written_text l.lines (omega (arith, l.many, p.few)) ∙ ap accepted_text l.words

-- the words of an accepted text
pub words_of_lem : (words : List ℕ) → words_read (accepted_text words) ≡ words
words_of_lem words = take-append_seam words (replicate (64 - length words) 0)

same_words : (ws : List ℕ) → Program ws → words_read (read_text_of (listing_of ws)) ≡ ws
same_words ws p = ap words_read (reading_a_listing ws p) ∙ words_of_lem ws

-- "no two programs share a listing".
pub no_two_programs : (ws vs : List ℕ) → Program ws → Program vs → listing_of ws ≡ listing_of vs → ws ≡ vs
no_two_programs ws vs p q same = sym (same_words ws p) ∙ ap (λ (l : List ℕ). words_read (read_text_of l)) same ∙ same_words vs q

-- "listing what was read from a listing gives the same bytes".
pub listing_again : (ws text : List ℕ) → Program ws → text ≡ listing_of ws → listing_of (words_read (read_text_of text)) ≡ text
listing_again ws text p is = ap (λ (l : List ℕ). listing_of (words_read (read_text_of l))) is ∙ ap listing_of (same_words ws p) ∙ sym is

-- ---- lines of instructions

-- a line as it is written is that of its word, where its name is not `.word`
own_bytes : (x : WrittenLine) → (x.row ≡ 25 → ⊥) → bytes_of x ≡ line_of_word (word_of_line x)
unfolding line_of_word
own_bytes x isnt =
    let a_row = x.a_row in
    let row : x.row < 25 = by (ltb x.row 25) refl in
    let own = own_line x.row x.numbers row x.below in
    let w = word_of_line x in
    sym (ap (λ (r : ℕ). line_text (form_at r) (numbers_in w (form_at r))) own.0 ∙ ap (line_text (form_at x.row)) own.1)
  where
    by : (t : Bool) → ltb x.row 25 ≡ t → x.row < 25
    by true e = ltb-true x.row 25 e
    by false e = let more = ltb-false x.row 25 e in let less = x.a_row in absurd (isnt (omega arith))

name_of_row : (x : WrittenLine) (rest : List ℕ) → x.row ≡ 25 → name_in (bytes_of x ++ rest) ≡ word_form.name
name_of_row x rest e = stated_name x.row x.numbers rest x.a_row ∙ ap (λ (r : ℕ). (form_at r).name) e

-- A line that is accepted and whose name is not `.word` is the line of its word.
pub its_own_line : (l : List ℕ) → (line_of l).refusal ≡ 0 → (name_in l ≡ word_form.name → ⊥) → take (line_of l).size l ≡ line_of_word (line_of l).word
its_own_line l e isnt =
    let s = accepted_line_lem l e in
    let x : WrittenLine = record { row = s.row; numbers = s.numbers; a_row = s.a_row; below = s.below } in
    let rest = drop (line_of l).size l in
    ap (λ (y : Line). take y.size l) s.answer ∙ ap (take (length (bytes_of x))) s.written ∙ take-append_seam (bytes_of x) rest
    ∙ own_bytes x (λ row. isnt (ap name_in s.written ∙ name_of_row x rest row))
    ∙ sym (ap (λ (y : Line). line_of_word y.word) s.answer)

-- So two of them with the same word are the same, byte by byte.
pub same_line : (l m : List ℕ) → (line_of l).refusal ≡ 0 → (line_of m).refusal ≡ 0 → (name_in l ≡ word_form.name → ⊥) → (name_in m ≡ word_form.name → ⊥)
    → (line_of l).word ≡ (line_of m).word → take (line_of l).size l ≡ take (line_of m).size m
same_line l m e f not-l not-m same = its_own_line l e not-l ∙ ap line_of_word same ∙ sym (its_own_line m f not-m)

-- ---- texts of instructions

-- a line begins at the front of a text, and behind each newline
pub data BeginsLine : List ℕ → Type 0 where
  in_front : BeginsLine []
  behind_newline : (front : List ℕ) → BeginsLine (front ++ NEWLINE ∷ [])

-- wherever a line begins, its name is not `.word`
abbrev pub NoWordLine : List ℕ → Type 0
NoWordLine text = (front rest : List ℕ) → text ≡ front ++ rest → BeginsLine front → name_in rest ≡ word_form.name → ⊥

line_begins : (front : List ℕ) (x : WrittenLine) → BeginsLine (front ++ bytes_of x)
line_begins front x =
    let f = form_at x.row in
    let body = f.name ++ numbers_text f.notation x.numbers in
    subst BeginsLine (append_assoc front body (NEWLINE ∷ [])) (behind_newline (front ++ body))

own_lines : (front : List ℕ) (xs : List WrittenLine) → BeginsLine front
    → ((before rest : List ℕ) → front ++ text_of xs ≡ before ++ rest → BeginsLine before → name_in rest ≡ word_form.name → ⊥)
    → text_of xs ≡ listing_of (words_of xs)
unfolding flat_map listing_of
own_lines front [] begins none = refl
own_lines front (x ∷ xs) begins none =
    let first : bytes_of x ≡ line_of_word (word_of_line x) = own_bytes x (λ row. none front (text_of (x ∷ xs)) refl begins (name_of_row x (text_of xs) row)) in
    let rest : text_of xs ≡ listing_of (words_of xs)
    = own_lines (front ++ bytes_of x) xs (line_begins front x) (λ before rest e. none before rest (sym (append_assoc front (bytes_of x) (text_of xs)) ∙ e)) in
    λ i. first i ++ rest i

-- A text that has no `.word` line and is accepted is itself the listing of its words.
pub its_own_listing : (text : List ℕ) → (read_text_of text).refusal ≡ 0 → NoWordLine text → text ≡ listing_of (words_read (read_text_of text))
its_own_listing text e none =
    let s = accepted_text_lem text e in
    s.whole ∙ own_lines [] s.lines in_front (λ before rest f. none before rest (s.whole ∙ f))
    ∙ ap listing_of (sym (words_of_lem (words_of s.lines)) ∙ ap words_read (sym s.answer))

-- So two of them that are read as the same program are the same, byte by byte.
pub same_text : (text other : List ℕ) → (read_text_of text).refusal ≡ 0 → NoWordLine text → NoWordLine other → read_text_of other ≡ read_text_of text → text ≡ other
same_text text other e none none' same =
    its_own_listing text e none ∙ ap (λ (r : ReadText). listing_of (words_read r)) (sym same)
    ∙ sym (its_own_listing other (ap (λ (x : ReadText). x.refusal) same ∙ e) none')
