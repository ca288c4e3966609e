-- The line of a word: that of its instruction, part by part, or that of `.word`. Carried by `row_giving_lem` of crate `text_rules`, and by `then_put`.
-- Assumes nothing.
use Prim.Native.Nat.{ℕ, zero, suc, ◌+◌, ◌-◌, ◌/◌, ◌%◌, ◌^◌, ◌≤◌, ◌<◌}
use mathlib.Core.Path.{◌≡◌, refl, sym, ap, ◌∙◌}
use mathlib.Core.Bool.{Bool, true, false, cond}
use mathlib.Core.List.{List, [], ◌∷◌, ◌++◌, flat_map}
use native.Mathlib.Omega.{arith}
use borrow.Author.Tests.{eqb-true, eqb-false}
use borrow.Rule.Slice.PartMut.{mid_of, put_mid}
use lib.ListN.{length, set}
use lib.Seq.{sets, sets-eq}
use Rattle.row_rules.specs.Text.{digit, hex_digits}
use Rattle.text_rules.specs.Forms.{Operand, form_at, word_form}
use Rattle.text_rules.specs.Line.{NEWLINE}
use Rattle.text_rules.specs.Listing.{numbers_text, line_text, numbers_in, gives, row_giving, line_of_word}
use Rattle.text_rules.specs.Unnamed.{unnamed}
use Rattle.text_rules.specs.Number.{Notation}
use Rattle.text_rules.specs.Number.Notation.{decimal}
use Rattle.text_rules.proofs.Written.{Below}
use Rattle.text_rules.proofs.Giving.{row_by_bits, numbers_below, row_giving_lem}
use Rattle.text_rules.proofs.Unnamed.{unnamed_exactly}
use Rattle.text_rules.proofs.Rows.{both, every, agree, has_limit, has_limit_lem, sound}
use Rattle.text_rules.proofs.Stated.{line_size}
use Rattle.text_writer.specs.Put.{Put, Small}
use Rattle.text_writer.proofs.Pieces.{put_long, then_put, then_byte}

-- ---- the numbers of a line

small_below : (os : List Operand) (vs : List ℕ) → every (has_limit decimal) os ≡ true → Below os vs → Small vs
small_below [] [] e b i = omega arith
small_below [] (v ∷ vs) e b i = absurd b
small_below (o ∷ os) [] e b i = absurd b
small_below (o ∷ os) (v ∷ vs) e b zero =
    omega (arith, b.0, has_limit_lem decimal o (both (has_limit decimal o) (every (has_limit decimal) os) e).0)
small_below (o ∷ os) (v ∷ vs) e b (suc i) = small_below os vs (both (has_limit decimal o) (every (has_limit decimal) os) e).1 b.1 i

-- ---- the line of an instruction

-- the numbers of all of them are decimal
in_decimal : (row : ℕ) → row < 25 → (form_at row).notation ≡ decimal
in_decimal = agree 25 (λ (row : ℕ). (form_at row).notation) (λ (_ : ℕ). decimal) refl

pub numbers_small : (row : ℕ) → row < 25 → (w : ℕ) → Small (numbers_in w (form_at row))
numbers_small row h w =
    let all : row < 26 = omega arith in
    let limits : every (has_limit decimal) (form_at row).operands ≡ true
    = ap (λ (n : Notation). every (has_limit n) (form_at row).operands) (sym (in_decimal row h)) ∙ (sound row all).limits in
    small_below (form_at row).operands (numbers_in w (form_at row)) limits (numbers_below w row all)

module _ (row : ℕ) (h : row < 25) (numbers old : List ℕ) (room : length (line_text (form_at row) numbers) ≤ length old) where
  -- there is room for its name, its numbers and the newline
  pub line_room : length (form_at row).name + length (numbers_text decimal numbers) + 1 ≤ length old
  line_room =
      omega (arith, line_size (form_at row) numbers, ap (λ (n : Notation). length (numbers_text n numbers)) (in_decimal row h))

  module _ {named : List ℕ} {at : ℕ} (name : Put (form_at row).name at old named) where
    -- behind the name
    pub behind_name_lem : at + length (numbers_text decimal numbers) + 1 ≤ length named
    behind_name_lem = omega (arith, line_room, name.sized, put_long name (omega (arith, line_room)))

    module _ {part : List ℕ} {size : ℕ} (put : Put (numbers_text decimal numbers) size (mid_of at (length named - at) named) part) where
      joined : Put ((form_at row).name ++ numbers_text decimal numbers) (at + size) old (put_mid at (length named - at) named part)
      joined = then_put name (numbers_text decimal numbers) part size put

      -- the numbers end before the buffer does
      pub end_within : at + size < length old
      end_within = omega (arith, line_room, name.sized, put.sized)

      -- and with it the line stands
      pub line_put : Put (line_text (form_at row) numbers) (at + size + 1) old (set (put_mid at (length named - at) named part) (at + size) NEWLINE)
      line_put = rw (in_decimal row h) (then_byte joined NEWLINE end_within)

-- ---- the line of any word

abbrev front : List ℕ
front = 46 ∷ 119 ∷ 111 ∷ 114 ∷ 100 ∷ 32 ∷ []

word_line : (w : ℕ) → w < 2 ^ 25 → line_text word_form (numbers_in w word_form) ≡ front ++ hex_digits 7 w ++ NEWLINE ∷ []
unfolding flat_map
word_line w h = let whole : w / 2 ^ 0 % 2 ^ 25 ≡ w = omega arith in rw whole

-- it has 14 bytes
pub word_line_long : (w : ℕ) → w < 2 ^ 25 → length (line_text word_form (numbers_in w word_form)) ≡ 14
word_line_long w h = ap length (word_line w h)

-- and stands once they are stored
pub word_put : (w : ℕ) → w < 2 ^ 25 → (old : List ℕ) → 14 ≤ length old → {d₆ d₅ d₄ d₃ d₂ d₁ d₀ : ℕ}
    → d₆ ≡ digit (w / 0x1000000 % 16) → d₅ ≡ digit (w / 0x100000 % 16) → d₄ ≡ digit (w / 0x10000 % 16) → d₃ ≡ digit (w / 0x1000 % 16)
    → d₂ ≡ digit (w / 0x100 % 16) → d₁ ≡ digit (w / 0x10 % 16) → d₀ ≡ digit (w % 16)
    → Put (line_text word_form (numbers_in w word_form)) 14 old (sets old 0 (front ++ d₆ ∷ d₅ ∷ d₄ ∷ d₃ ∷ d₂ ∷ d₁ ∷ d₀ ∷ NEWLINE ∷ []))
word_put w h old room e₆ e₅ e₄ e₃ e₂ e₁ e₀ =
    let last : w / 16 ^ 0 % 16 ≡ w % 16 = omega arith in
    rw (word_line w h, e₆, e₅, e₄, e₃, e₂, e₁, e₀, ← last) (record { sized = refl; stands = sets-eq (front ++ hex_digits 7 w ++ NEWLINE ∷ []) old 0 room })

-- ---- which of them

module _ (w : ℕ) (h : w < 2 ^ 25) {t : Bool} (test : t ≡ unnamed w) where
  -- no instruction's line gives the word
  pub unnamed_line : t ≡ true → line_of_word w ≡ line_text word_form (numbers_in w word_form)
  unfolding line_of_word
  unnamed_line on = ap (λ (r : ℕ). line_text (form_at r) (numbers_in w (form_at r))) (eqb-true (row_giving w) 25 (unnamed_exactly w h ∙ sym test ∙ on))

  -- that of its leading bits does
  named_row : t ≡ false → row_giving w ≡ row_by_bits w
  named_row off = by (gives w (form_at (row_by_bits w))) (row_giving_lem w h)
    where
      by : (s : Bool) → row_giving w ≡ cond s (row_by_bits w) 25 → row_giving w ≡ row_by_bits w
      by true e = e
      by false e = absurd (eqb-false (row_giving w) 25 (unnamed_exactly w h ∙ sym test ∙ off) e)

  pub named_line : t ≡ false → {row : ℕ} → row ≡ row_by_bits w → line_of_word w ≡ line_text (form_at row) (numbers_in w (form_at row))
  unfolding line_of_word
  named_line off by_bits = ap (λ (r : ℕ). line_text (form_at r) (numbers_in w (form_at r))) (named_row off ∙ sym by_bits)
