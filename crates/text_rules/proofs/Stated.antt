-- A line as it is written is accepted, whatever follows it, with its numbers at their places; and every line that is accepted is one that is so written. Carried by
-- induction on the operands, with the one numeral of each number.
-- Assumes nothing.
use Prim.Native.Nat.{ℕ, ◌+◌, ◌*◌, ◌^◌, ◌≤◌, ◌<◌}
use mathlib.Core.Path.{◌≡◌, refl, sym, ap, ◌∙◌}
use mathlib.Core.Bool.{true, not}
use mathlib.Core.List.{List, [], ◌∷◌, ◌++◌, flat_map, append-nil, append_assoc}
use native.Mathlib.Omega.{arith}
use borrow.Author.Tests.{lt-ltb, ltb-true, lt-leb}
use lib.Dec.{ltb, leb}
use lib.ListN.{length, drop, length-append}
use lib.Seq.{drop-drop, drop_at, drop-append_seam}
use Rattle.table.specs.Decided.{decided}
use Rattle.table.specs.Refusal.{NAME, OPERANDS}
use Rattle.table.proofs.Decided.{passes, ends, not_denied}
use Rattle.text_rules.specs.Forms.{Operand, Form, every_form, form_at, same_bytes, row_named}
use Rattle.text_rules.specs.Front.{front_while}
use Rattle.text_rules.specs.Number.{Notation, base_of, digit_of, is_digit, digits_in, number_of, is_numeral, digits_for, says_below}
use Rattle.text_rules.specs.Line.{Line, Operands, SPACE, NEWLINE, in_name, name_in, operands_in, behind_name, accepted_line, refused_line, line_of}
use Rattle.text_rules.specs.Number.Notation.{decimal, seven_hex}
use Rattle.text_rules.specs.Listing.{put, numbers_text, line_text}
use Rattle.text_rules.proofs.Written.{Below, word_of}
use Rattle.text_rules.proofs.Fronts.{front_passes, front_stands, front_then}
use Rattle.text_rules.proofs.Fits.{last_stated, first_stated, taken}
use Rattle.text_rules.proofs.Numerals.{digits_say, digits_of}
use Rattle.text_rules.proofs.Rows.{both, every, every_all, has_limit, limit_small, first_passes, same_bytes_lem, sound, own_row}

-- ---- the name

-- a row that is found has that name
pub found : (name : List ℕ) → row_named name < 26 → (form_at (row_named name)).name ≡ name
found name h = sym (same_bytes_lem name _ (first_passes (λ (f : Form). same_bytes name f.name) every_form (form_at 26) h))

-- ---- the numbers

-- what stands behind a number does not begin with a digit
no_digit : (notation : Notation) (vs rest : List ℕ) → digits_in (base_of notation) (numbers_text notation vs ++ NEWLINE ∷ rest) ≡ []
unfolding front_while flat_map digit_of
no_digit decimal [] rest = refl
no_digit decimal (v ∷ vs) rest = refl
no_digit seven_hex [] rest = refl
no_digit seven_hex (v ∷ vs) rest = refl

written_below : (notation : Notation) (limit v : ℕ) → v < limit → v < 2 ^ 25 → says_below notation limit (digits_for notation v) ≡ true
unfolding says_below
written_below notation limit v h small = let n = digits_say notation v small in rw (n.numeral, n.says, lt-ltb v limit h)

-- a space and a number below the limit
next_number : (notation : Notation) (o : Operand) (os : List Operand) (word size v : ℕ) (more : List ℕ) → v < o.limit → v < 2 ^ 25 → digits_in (base_of notation) more ≡ []
    → (let digits = digits_for notation v in
    operands_in notation (o ∷ os) word size (SPACE ∷ digits ++ more) ≡ operands_in notation os (word + v * 2 ^ o.place) (size + 1 + length digits) more)
unfolding operands_in
next_number notation o os word size v more h small none =
    let ds : List ℕ = digits_for notation v in
    let n = digits_say notation v small in
    let digits : digits_in (base_of notation) (ds ++ more) ≡ ds
    = front_then (is_digit (base_of notation)) ds more n.digits ∙ ap (λ (l : List ℕ). ds ++ l) none ∙ append-nil ds in
    let behind : drop (1 + length ds) (SPACE ∷ ds ++ more) ≡ more = drop_at (SPACE ∷ ds) more (1 + length ds) (omega arith) in
    rw (digits, written_below notation o.limit v h small, n.says, behind)

-- operands of which each has a limit
abbrev Limited : Notation → List Operand → Type 0
Limited notation os = every (has_limit notation) os ≡ true

first_limited : (notation : Notation) (o : Operand) (os : List Operand) → Limited notation (o ∷ os) → (o.limit ≤ 2 ^ 25) × Limited notation os
first_limited notation o os f = let two = both (has_limit notation o) (every (has_limit notation) os) f in (limit_small notation o two.0, two.1)

-- numbers as they are written, and a newline: as stated, whatever follows
numbers_stated : (notation : Notation) (os : List Operand) (vs : List ℕ) (word size : ℕ) (rest : List ℕ) → Limited notation os → Below os vs
    → (let text = numbers_text notation vs in
    operands_in notation os word size (text ++ NEWLINE ∷ rest) ≡ record { stated = true; word = put word os vs; size = size + (length text + 1) })
unfolding operands_in flat_map
numbers_stated notation [] [] word size rest f h = refl
numbers_stated notation [] (v ∷ vs) word size rest f h = absurd h
numbers_stated notation (o ∷ os) [] word size rest f h = absurd h
numbers_stated notation (o ∷ os) (v ∷ vs) word size rest f h =
    let ds : List ℕ = digits_for notation v in
    let others : List ℕ = numbers_text notation vs in
    let limited = first_limited notation o os f in
    let less : v < o.limit = h.0 in
    let n : size + 1 + length ds + (length others + 1) ≡ size + (length (numbers_text notation (v ∷ vs)) + 1) = omega (arith, length-append ds others) in
    ap (operands_in notation (o ∷ os) word size) (append_assoc (SPACE ∷ ds) others (NEWLINE ∷ rest))
    ∙ next_number notation o os word size v (others ++ NEWLINE ∷ rest) less (omega (arith, limited.0)) (no_digit notation vs rest)
    ∙ numbers_stated notation os vs (word + v * 2 ^ o.place) (size + 1 + length ds) rest limited.1 h.1
    ∙ ap (λ (k : ℕ). record { stated = true; word = put word (o ∷ os) (v ∷ vs); size = k }) n

-- what is as stated is numbers so written
record Numbers (notation : Notation) (os : List Operand) (l : List ℕ) : Type 0 where
  numbers : List ℕ
  rest : List ℕ
  below : Below os numbers
  written : l ≡ numbers_text notation numbers ++ NEWLINE ∷ rest

numbers_written : (notation : Notation) (os : List Operand) (word size : ℕ) (l : List ℕ) → Limited notation os → (operands_in notation os word size l).stated ≡ true
    → Numbers notation os l
unfolding says_below flat_map
numbers_written notation [] word size l f e = record { numbers = []; rest = drop 1 l; below = tt; written = (last_stated notation word size l e).0 }
numbers_written notation (o ∷ os) word size l f e =
    let s = first_stated notation o os word size l e in
    let base : ℕ = base_of notation in
    let digits : List ℕ = digits_in base (drop 1 l) in
    let v : ℕ = number_of base digits in
    let two = both (is_numeral notation digits) (ltb v o.limit) s.says in
    let less : v < o.limit = ltb-true v o.limit two.1 in
    let limited = first_limited notation o os f in
    let behind : List ℕ = drop (1 + length digits) l in
    let r = numbers_written notation os (word + v * 2 ^ o.place) (size + 1 + length digits) behind limited.1
    (sym (ap (λ (x : Operands). x.stated) s.others) ∙ e) in
    let front : digits ++ behind ≡ drop 1 l
    = ap (λ (m : List ℕ). digits ++ m) (sym (drop-drop (length digits) 1 l)) ∙ front_stands (is_digit base) (drop 1 l) in
    let same : digits_for notation v ≡ digits
    = digits_of notation digits (front_passes (is_digit base) (drop 1 l)) two.0 (omega (arith, limited.0)) in
    record {
      numbers = v ∷ r.numbers;
      rest = r.rest;
      below = (less, r.below);
      written =
          s.spaced ∙ ap (λ (m : List ℕ). SPACE ∷ m) (sym front)
          ∙ ap (λ (m : List ℕ). SPACE ∷ m ++ behind) (sym same)
          ∙ ap (λ (m : List ℕ). SPACE ∷ digits_for notation v ++ m) r.written
          ∙ sym (append_assoc (SPACE ∷ digits_for notation v) (numbers_text notation r.numbers) (NEWLINE ∷ r.rest));
    }

-- ---- the line

-- the answer by the row of the name and what stands behind it
abbrev answer_by : ℕ → Operands → Line
answer_by row said =
    decided
    ((leb (length every_form) row, refused_line NAME)
    ∷ (not said.stated, refused_line OPERANDS)
    ∷ [])
    (accepted_line said.word said.size)

answer_by_lem : (l name : List ℕ) (row : ℕ) {said : Operands} → name_in l ≡ name → row_named name ≡ row → behind_name (form_at row) name l ≡ said
    → line_of l ≡ answer_by row said
unfolding line_of
answer_by_lem l name row e f g =
    ap (λ (n : List ℕ). answer_by (row_named n) (behind_name (form_at (row_named n)) n l)) e
    ∙ ap (λ (r : ℕ). answer_by r (behind_name (form_at r) name l)) f ∙ ap (answer_by row) g

accepted_by : (row : ℕ) (said : Operands) → row < 26 → said.stated ≡ true → answer_by row said ≡ accepted_line said.word said.size
accepted_by row said h e = sym (passes _ _ _ (lt-leb 26 row h) (passes _ _ _ (not_denied e) ends))

-- a line and what follows it, piece by piece
line_pieces : (f : Form) (vs rest : List ℕ) → line_text f vs ++ rest ≡ f.name ++ (numbers_text f.notation vs ++ NEWLINE ∷ rest)
line_pieces f vs rest =
    let numbers : List ℕ = numbers_text f.notation vs in
    append_assoc (f.name ++ numbers) (NEWLINE ∷ []) rest ∙ append_assoc f.name numbers (NEWLINE ∷ rest)

name_ends : (notation : Notation) (vs rest : List ℕ) → name_in (numbers_text notation vs ++ NEWLINE ∷ rest) ≡ []
unfolding front_while flat_map
name_ends notation [] rest = refl
name_ends notation (v ∷ vs) rest = refl

-- the bytes of a line
pub line_size : (f : Form) (vs : List ℕ) → length (line_text f vs) ≡ length f.name + (length (numbers_text f.notation vs) + 1)
line_size f vs =
    let numbers : List ℕ = numbers_text f.notation vs in
    omega (arith, length-append (f.name ++ numbers) (NEWLINE ∷ []), length-append f.name numbers)

-- the name of a line as it is written
pub stated_name : (row : ℕ) (vs rest : List ℕ) → row < 26 → name_in (line_text (form_at row) vs ++ rest) ≡ (form_at row).name
stated_name row vs rest h =
    let f : Form = form_at row in
    ap name_in (line_pieces f vs rest)
    ∙ front_then in_name f.name (numbers_text f.notation vs ++ NEWLINE ∷ rest) (every_all in_name f.name (sound row h).named)
    ∙ ap (λ (m : List ℕ). f.name ++ m) (name_ends f.notation vs rest) ∙ append-nil f.name

-- a line as it is written is accepted, whatever follows it
pub stated_line : (row : ℕ) (vs rest : List ℕ) → row < 26 → Below (form_at row).operands vs
    → line_of (line_text (form_at row) vs ++ rest) ≡ accepted_line (word_of row vs) (length (line_text (form_at row) vs))
stated_line row vs rest h below =
    let f : Form = form_at row in
    let numbers : List ℕ = numbers_text f.notation vs in
    let behind : List ℕ = numbers ++ NEWLINE ∷ rest in
    let l : List ℕ = line_text f vs ++ rest in
    let said : behind_name f f.name l
    ≡ record { stated = true; word = put f.word f.operands vs; size = length f.name + (length numbers + 1) }
    = ap (behind_name f f.name) (line_pieces f vs rest)
    ∙ ap (operands_in f.notation f.operands f.word (length f.name)) (drop-append_seam f.name behind)
    ∙ numbers_stated f.notation f.operands vs f.word (length f.name) rest (sound row h).limits below in
    answer_by_lem l f.name row (stated_name row vs rest h) (own_row row h) said ∙ accepted_by row _ h refl
    ∙ ap (accepted_line (put f.word f.operands vs)) (sym (line_size f vs))

-- an accepted line: its row, its numbers, how it is written, and its answer
pub record Stated (l : List ℕ) : Type 0 where
  pub row : ℕ
  pub numbers : List ℕ
  pub a_row : row < 26
  pub below : Below (form_at row).operands numbers
  pub written : l ≡ line_text (form_at row) numbers ++ drop (line_of l).size l
  pub answer : line_of l ≡ accepted_line (word_of row numbers) (length (line_text (form_at row) numbers))

-- every accepted line is one as it is written
pub accepted_line_lem : (l : List ℕ) → (line_of l).refusal ≡ 0 → Stated l
accepted_line_lem l e =
    let t = taken l e in
    let name : List ℕ = name_in l in
    let row : ℕ = row_named name in
    let f : Form = form_at row in
    let n : Numbers f.notation f.operands (drop (length name) l)
    = numbers_written f.notation f.operands f.word (length name) (drop (length name) l) (sound row t.named).limits t.stated in
    let text : l ≡ line_text f n.numbers ++ n.rest
    = sym (front_stands in_name l) ∙ ap (λ (m : List ℕ). name ++ m) n.written
    ∙ ap (λ (m : List ℕ). m ++ (numbers_text f.notation n.numbers ++ NEWLINE ∷ n.rest)) (sym (found name t.named))
    ∙ sym (line_pieces f n.numbers n.rest) in
    let answer : line_of l ≡ accepted_line (put f.word f.operands n.numbers) (length (line_text f n.numbers))
    = ap line_of text ∙ stated_line row n.numbers n.rest t.named n.below in
    let rest : drop (line_of l).size l ≡ n.rest
    = ap (λ (x : Line). drop x.size l) answer ∙ ap (drop (length (line_text f n.numbers))) text ∙ drop-append_seam (line_text f n.numbers) n.rest in
    record {
      row = row;
      numbers = n.numbers;
      a_row = t.named;
      below = n.below;
      written = text ∙ ap (λ (m : List ℕ). line_text f n.numbers ++ m) (sym rest);
      answer = answer;
    }
