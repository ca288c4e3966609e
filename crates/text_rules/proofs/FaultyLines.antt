-- What stands behind the first faulty line has no effect on the answer, and a 65th line is refused whatever it holds. Carried by the first newline: a line that is
-- written has none but its last byte.
-- Assumes nothing.
use Prim.Native.Nat.{ℕ, suc, ◌-◌, ◌<◌}
use mathlib.Core.Path.{◌≡◌, refl, sym, ap, subst, ◌∙◌}
use mathlib.Core.Bool.{true, cond, false≢true}
use mathlib.Core.List.{List, [], ◌∷◌, ◌++◌, flat_map, append_assoc}
use native.Mathlib.Omega.{arith}
use lib.Dec.{leb}
use lib.ListN.{length, drop, length-append, length-map}
use Rattle.table.specs.Refusal.{NAME, OPERANDS, LINES}
use Rattle.text_rules.specs.Forms.{Form, form_at, row_named}
use Rattle.text_rules.specs.Front.{front_while}
use Rattle.text_rules.specs.Number.{Notation, base_of, digit_of, is_digit, digits_for}
use Rattle.text_rules.specs.Line.{Line, NEWLINE, in_name, name_in, refused_line, line_of}
use Rattle.text_rules.specs.Text.{ReadText, refused_text, read_from, read_text_of}
use Rattle.text_rules.specs.Number.Notation.{decimal, seven_hex}
use Rattle.text_rules.specs.Listing.{numbers_text}
use Rattle.text_rules.proofs.Fronts.{All, all_map, all_append}
use Rattle.text_rules.proofs.Numerals.{all_digits_lem}
use Rattle.text_rules.proofs.Rows.{every_all, sound}
use Rattle.text_rules.proofs.Stated.{stated_line, accepted_line_lem}
use Rattle.text_rules.proofs.Reading.{one_too_many, refused_there, refused_line_lem}
use Rattle.text_rules.proofs.Texts.{word_of_line, words_of, behind_lines, accepted_text_lem}

-- ---- bytes without a newline

-- no byte is a newline
abbrev pub NoNewline : List ℕ → Type 0
NoNewline l = All (λ (b : ℕ). b ≡ NEWLINE → ⊥) l

no_name : (b : ℕ) → in_name b ≡ true → b ≡ NEWLINE → ⊥
no_name b e z = false≢true (ap in_name (sym z) ∙ e)

no_digit : (notation : Notation) (b : ℕ) → is_digit (base_of notation) b ≡ true → b ≡ NEWLINE → ⊥
unfolding digit_of
no_digit decimal b e z = false≢true (ap (is_digit 10) (sym z) ∙ e)
no_digit seven_hex b e z = false≢true (ap (is_digit 16) (sym z) ∙ e)

none_in_numbers : (notation : Notation) (vs : List ℕ) → NoNewline (numbers_text notation vs)
unfolding flat_map
none_in_numbers notation [] = tt
none_in_numbers notation (v ∷ vs) =
    let digits : List ℕ = digits_for notation v in
    (λ z. omega arith, all_append _ digits (numbers_text notation vs) (all_map (no_digit notation) digits (all_digits_lem notation v)) (none_in_numbers notation vs))

-- what stands before the first newline of a text
first_newline : (xs ys a b : List ℕ) → NoNewline xs → NoNewline ys → xs ++ NEWLINE ∷ a ≡ ys ++ NEWLINE ∷ b → xs ≡ ys
first_newline [] [] a b hx hy e = refl
first_newline [] (y ∷ ys) a b hx hy e = absurd (hy.0 (cc))
first_newline (x ∷ xs) [] a b hx hy e = absurd (hx.0 (cc))
first_newline (x ∷ xs) (y ∷ ys) a b hx hy e =
    let first : x ≡ y = cc in
    let rest : xs ++ NEWLINE ∷ a ≡ ys ++ NEWLINE ∷ b = cc in
    λ i. first i ∷ first_newline xs ys a b hx.1 hy.1 rest i

-- ---- a line that is ended by a newline

-- its name does not go beyond it
name_before : (line rest : List ℕ) → name_in (line ++ NEWLINE ∷ rest) ≡ name_in line
unfolding front_while
name_before [] rest = refl
name_before (b ∷ line) rest = ap (λ (m : List ℕ). cond (in_name b) (b ∷ m) []) (name_before line rest)

newline_there : (xs ys : List ℕ) → NoNewline (xs ++ NEWLINE ∷ ys) → ⊥
newline_there [] ys h = h.0 refl
newline_there (x ∷ xs) ys h = newline_there xs ys h.1

-- without one, no line is accepted
pub missing_newline : (line : List ℕ) → NoNewline line → (line_of line).refusal ≡ 0 → ⊥
missing_newline line h e =
    let s = accepted_line_lem line e in
    let body : List ℕ = (form_at s.row).name ++ numbers_text (form_at s.row).notation s.numbers in
    let behind : List ℕ = drop (line_of line).size line in
    newline_there body behind (subst NoNewline (s.written ∙ append_assoc body (NEWLINE ∷ []) behind) h)

-- where it is accepted, it is so with anything else behind the newline
accepted_alone : (line rest other : List ℕ) → NoNewline line → (line_of (line ++ NEWLINE ∷ rest)).refusal ≡ 0 → (line_of (line ++ NEWLINE ∷ other)).refusal ≡ 0
accepted_alone line rest other h e =
    let s = accepted_line_lem (line ++ NEWLINE ∷ rest) e in
    let f : Form = form_at s.row in
    let numbers : List ℕ = numbers_text f.notation s.numbers in
    let body : List ℕ = f.name ++ numbers in
    let behind : List ℕ = drop (line_of (line ++ NEWLINE ∷ rest)).size (line ++ NEWLINE ∷ rest) in
    let same : line ≡ body
    = first_newline line body rest behind h
    (all_append _ f.name numbers (all_map no_name f.name (every_all in_name f.name (sound s.row s.a_row).named)) (none_in_numbers f.notation s.numbers))
    (s.written ∙ append_assoc body (NEWLINE ∷ []) behind) in
    ap (λ (x : List ℕ). (line_of (x ++ NEWLINE ∷ other)).refusal) same
    ∙ ap (λ (x : List ℕ). (line_of x).refusal) (sym (append_assoc body (NEWLINE ∷ []) other))
    ∙ ap (λ (x : Line). x.refusal) (stated_line s.row s.numbers other s.a_row s.below)

-- where it is refused, that is decided by what stands before the newline
faulty_line : (line rest : List ℕ) → NoNewline line → ((line_of (line ++ NEWLINE ∷ [])).refusal ≡ 0 → ⊥)
    → line_of (line ++ NEWLINE ∷ rest) ≡ line_of (line ++ NEWLINE ∷ [])
faulty_line line rest h isnt =
    refused_line_lem (line ++ NEWLINE ∷ rest) (λ e. isnt (accepted_alone line rest [] h e))
    ∙ ap (λ (x : List ℕ). refused_line (cond (leb 26 (row_named x)) NAME OPERANDS)) (name_before line rest ∙ sym (name_before line []))
    ∙ sym (refused_line_lem (line ++ NEWLINE ∷ []) isnt)

-- ---- behind good lines

module _ (front : List ℕ) (good : (read_text_of front).refusal ≡ 0) where
  record GoesOn (rest : List ℕ) : Type 0 where
    words : List ℕ
    many : length words ≡ (read_text_of front).n.0
    answer : read_text_of (front ++ rest) ≡ read_from (64 - length words) words rest

  goes_on_behind : (rest : List ℕ) → GoesOn rest
  goes_on_behind rest =
      let s = accepted_text_lem front good in
      record {
        words = words_of s.lines;
        many = sym (ap (λ (x : ReadText). x.n.0) s.answer);
        answer =
            ap (λ (x : List ℕ). read_text_of (x ++ rest)) s.whole ∙ behind_lines s.lines 64 [] rest s.few
            ∙ ap (λ (k : ℕ). read_from (64 - k) (words_of s.lines) rest) (sym (length-map s.lines word_of_line));
      }

  -- behind good lines, fewer than 64, a faulty line is the answer, with its number, whatever stands behind its newline
  pub behind_a_faulty_line : (line rest : List ℕ) → (read_text_of front).n.0 < 64 → NoNewline line → ((line_of (line ++ NEWLINE ∷ [])).refusal ≡ 0 → ⊥)
      → read_text_of (front ++ (line ++ NEWLINE ∷ rest)) ≡ refused_text (line_of (line ++ NEWLINE ∷ [])).refusal (read_text_of front).n.0
  behind_a_faulty_line line rest few h isnt =
      let s = goes_on_behind (line ++ NEWLINE ∷ rest) in
      let many = s.many in
      let same = faulty_line line rest h isnt in
      let left : 64 - length s.words ≡ suc (63 - length s.words) = omega arith in
      s.answer ∙ ap (λ (k : ℕ). read_from k s.words (line ++ NEWLINE ∷ rest)) left
      ∙ refused_there (63 - length s.words) s.words (line ++ NEWLINE ∷ rest) (omega (arith, length-append line (NEWLINE ∷ rest)))
      (λ e. isnt (sym (ap (λ (x : Line). x.refusal) same) ∙ e))
      ∙ ap (λ (x : Line). refused_text x.refusal (length s.words)) same
      ∙ ap (refused_text (line_of (line ++ NEWLINE ∷ [])).refusal) many

  -- behind 64 good lines anything is refused, whatever it holds
  pub behind_64_lines : (rest : List ℕ) → (read_text_of front).n.0 ≡ 64 → 0 < length rest → read_text_of (front ++ rest) ≡ refused_text LINES 64
  behind_64_lines rest all some =
      let s = goes_on_behind rest in
      let many : length s.words ≡ 64 = s.many ∙ all in
      let left : 64 - length s.words ≡ 0 = omega arith in
      s.answer ∙ ap (λ (k : ℕ). read_from k s.words rest) left ∙ one_too_many s.words rest some ∙ ap (refused_text LINES) many
