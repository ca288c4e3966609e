-- What stands behind a name, an operand at a time. Carried by `drop-cons`: the text from a place on is the byte there and the text behind it, and the
-- operands from one on are that one and those behind it.
-- Assumes nothing.
use Prim.Native.Nat.{ℕ, ◌+◌, ◌*◌, ◌^◌, ◌≤◌, ◌<◌}
use mathlib.Core.Path.{◌≡◌, refl, sym, ap, ◌∙◌}
use mathlib.Core.Bool.{Bool, true, false, cond, true≢false}
use mathlib.Core.List.{List, [], ◌∷◌}
use native.Mathlib.Numerals.{add-one}
use native.Mathlib.Omega.{arith}
use lib.ListN.{length, get_or, drop, drop_of_length-le, length-drop}
use lib.Seq.{drop-cons, drop-drop}
use Rattle.text_rules.specs.Forms.{Operand, form_at}
use Rattle.text_rules.specs.Number.{Notation, base_of, is_digit, digits_in, number_of, says_below}
use Rattle.text_rules.specs.Number.Notation.{decimal, seven_hex}
use Rattle.text_rules.specs.Line.{Operands, SPACE, begins_with, not_stated, operands_in}
use Rattle.text_rules.proofs.Rows.{most, sound}
use Rattle.text_rules.proofs.Fronts.{front_fits}
use Rattle.text_rules.proofs.Fits.{begun}
use Rattle.text_rules.proofs.Limits.{says_below_lem, adds_at_most}
use Rattle.std.specs.Prelude.{Option, Some, None}
use Rattle.text_table.specs.declared.rows.Field.{Field}
use Rattle.text_table.specs.declared.rows.Row.{Row}
use Rattle.text_table.specs.Table.{form_table}
use Rattle.text_table.proofs.Cells.{row_there, ops_of, op_at, limit_within, none_left, one_more}
use Rattle.text_reader.specs.declared.number.Number.{Number}
use Rattle.text_reader.specs.Front.{notation_of, number_at}
use Rattle.text_reader.proofs.Numbers.{notation_of_lem}

-- ---- one byte

-- where it does, there is a byte
begins_within : (b : ℕ) (l : List ℕ) (at : ℕ) → begins_with b (drop at l) ≡ true → at < length l
begins_within b l at e = omega (arith, ap length (begun b (drop at l) e), length-drop at l)

-- ---- one operand

module _ (notation : Notation) (o : Operand) (os : List Operand) (word size : ℕ) (l : List ℕ) where
  abbrev base : ℕ
  base = base_of notation

  not_spaced : begins_with SPACE l ≡ false → operands_in notation (o ∷ os) word size l ≡ not_stated
  unfolding operands_in
  not_spaced e = simp e

  module _ (spaced : begins_with SPACE l ≡ true) where
    not_said : says_below notation o.limit (digits_in base (drop 1 l)) ≡ false → operands_in notation (o ∷ os) word size l ≡ not_stated
    unfolding operands_in
    not_said e = simp (spaced, e)

    one_said : says_below notation o.limit (digits_in base (drop 1 l)) ≡ true
        → operands_in notation (o ∷ os) word size l
        ≡ operands_in notation os (word + number_of base (digits_in base (drop 1 l)) * 2 ^ o.place) (size + 1 + length (digits_in base (drop 1 l)))
        (drop (1 + length (digits_in base (drop 1 l))) l)
    unfolding operands_in
    one_said e = simp (spaced, e)

-- ---- the operands of a row from one on

abbrev row_notation : ℕ → Notation
row_notation row = (form_at row).notation

abbrev row_base : ℕ → ℕ
row_base row = base_of (row_notation row)

-- it is 16 or 10
other_than_16 : (notation : Notation) → (base_of notation ≡ 16 → ⊥) → 10 ≡ base_of notation
other_than_16 decimal n = refl
other_than_16 seven_hex n = absurd (n refl)

module _ {row : ℕ} (h : row < 26) {rows : List Row} (e : rows ≡ form_table) (d : Row) where
  base_there : (get_or rows row d).base ≡ row_base row
  base_there = ap (λ (r : Row). r.base) (row_there e row h d)

  pub base_16 : (get_or rows row d).base ≡ 16 → 16 ≡ row_base row
  base_16 k = sym k ∙ base_there

  pub base_10 : ((get_or rows row d).base ≡ 16 → ⊥) → 10 ≡ row_base row
  base_10 n = other_than_16 (row_notation row) (λ k. n (base_there ∙ k))

-- the digits behind the byte at a place
abbrev digits_at : ℕ → List ℕ → ℕ → List ℕ
digits_at row text at = digits_in (row_base row) (drop 1 (drop at text))

-- the number and the end that an answer has, where there is one
abbrev the_value : Option Number → Number → ℕ
the_value (Some n) d = n.value
the_value None d = d.value

abbrev the_end : Option Number → Number → ℕ
the_end (Some n) d = n.end
the_end None d = d.end

abbrev is_some : Option Number → Bool
is_some (Some n) = true
is_some None = false

None≢Some : {n : Number} → None ≡ Some n → ⊥
None≢Some {n} e = true≢false (sym (ap is_some {x = None} e))

-- what all operands of a row answer
abbrev pub whole_of : List ℕ → ℕ → ℕ → Operands
whole_of text start row = operands_in (form_at row).notation (form_at row).operands (form_at row).word start (drop start text)

-- the operands before one are passed: the place, the word and the operands from there on answer as all operands do
pub record OperandsSoFar (text : List ℕ) (start row at word o : ℕ) : Type 0 where
  pub within : at ≤ length text
  pub room : word + most (drop o (form_at row).operands) < 2 ^ 25
  pub same : operands_in (form_at row).notation (drop o (form_at row).operands) word at (drop at text) ≡ whole_of text start row

-- before the first of them
pub none_so_far : (row : ℕ) → row < 26 → (text : List ℕ) (start : ℕ) → start ≤ length text → {rows : List Row} → rows ≡ form_table → (d : Row)
    → OperandsSoFar text start row start (get_or rows row d).word 0
none_so_far row h text start fits e d = rw (row_there e row h d) (record { within = fits; room = (sound row h).room; same = refl })

module _ {text : List ℕ} {start row at word o : ℕ} (a_row : row < 26) (so_far : OperandsSoFar text start row at word o) where
  -- there is none more
  past : length (ops_of row) ≤ o → operands_in (row_notation row) [] word at (drop at text) ≡ whole_of text start row
  past k = sym (ap (λ (os : List Operand). operands_in (row_notation row) os word at (drop at text)) (drop_of_length-le (ops_of row) k)) ∙ so_far.same

  -- no row has more than four
  pub four_passed : 4 ≤ o → operands_in (row_notation row) [] word at (drop at text) ≡ whole_of text start row
  four_passed k = past (omega (arith, k, (sound row a_row).few))

  -- in the table as the code has it: an empty slot
  module _ {rows : List Row} (e : rows ≡ form_table) (d : Row) (k : o < 4) (s : Option Field) where
    pub none_more : get_or (get_or rows row d).operands o s ≡ None → operands_in (row_notation row) [] word at (drop at text) ≡ whole_of text start row
    none_more n = past (none_left row o a_row e k d s n)

    -- and a slot with an operand
    module _ {f : Field} (slot : get_or (get_or rows row d).operands o s ≡ Some f) where
      there : (o < length (ops_of row)) × (f.limit ≡ (op_at row o).limit) × (f.weight ≡ 2 ^ (op_at row o).place)
      there = one_more row o a_row e k d s slot

      -- no limit is above 2^25
      limit_fits : f.limit ≤ 2 ^ 25
      limit_fits = omega (arith, there.1, (limit_within row o a_row there.0).1)

      apart : drop o (ops_of row) ≡ op_at row o ∷ drop (o + 1) (ops_of row)
      apart = rw add-one (drop-cons (ops_of row) o _ there.0)

      whole_is : operands_in (row_notation row) (op_at row o ∷ drop (o + 1) (ops_of row)) word at (drop at text) ≡ whole_of text start row
      whole_is = sym (ap (λ (os : List Operand). operands_in (row_notation row) os word at (drop at text)) apart) ∙ so_far.same

      module _ {base : ℕ} (is : base ≡ row_base row) {t : Bool} (test : t ≡ begins_with SPACE (drop at text)) where
        -- no space
        pub unspaced : t ≡ false → not_stated ≡ whole_of text start row
        unspaced off = sym (not_spaced (row_notation row) _ _ word at (drop at text) (sym test ∙ off)) ∙ whole_is

        module _ (spaced : t ≡ true) where
          space_there : begins_with SPACE (drop at text) ≡ true
          space_there = sym test ∙ spaced

          -- behind a space there may be a number
          behind_space_lem : at + 1 ≤ length text
          behind_space_lem = omega (arith, begins_within SPACE text at space_there)

          notation_is : notation_of base ≡ row_notation row
          notation_is = ap notation_of is ∙ notation_of_lem (row_notation row)

          -- what is asked of a number to read
          pub read_asks : (at + 1 ≤ length text) × (base ≡ base_of (notation_of base)) × (f.limit ≤ 2 ^ 25)
          read_asks = (behind_space_lem, is ∙ ap base_of (sym notation_is), limit_fits)

          digits_are : digits_in (row_base row) (drop (at + 1) text) ≡ digits_at row text at
          digits_are = ap (digits_in (row_base row)) (sym (drop-drop 1 at text))

          behind_digits : drop (at + 1 + length (digits_at row text at)) text ≡ drop (1 + length (digits_at row text at)) (drop at text)
          behind_digits =
              let further : at + 1 + length (digits_at row text at) ≡ at + (1 + length (digits_at row text at)) = omega arith in
              rw further (sym (drop-drop (1 + length (digits_at row text at)) at text))

          abbrev stands : Number
          stands = record { value = number_of (row_base row) (digits_at row text at); end = at + 1 + length (digits_at row text at) }

          abbrev says : Bool
          says = says_below (row_notation row) (op_at row o).limit (digits_at row text at)

          -- what is read there, in the notation of the row and below the limit of the operand
          read_is : number_at (notation_of base) f.limit (at + 1) text ≡ cond says (Some stands) None
          unfolding number_at
          read_is = rw (notation_is, there.1, digits_are) refl

          -- no number below the limit
          pub unsaid : None ≡ number_at (notation_of base) f.limit (at + 1) text → not_stated ≡ whole_of text start row
          unsaid none = go says refl (none ∙ read_is)
            where
              go : (b : Bool) → says ≡ b → None ≡ cond b (Some stands) None → not_stated ≡ whole_of text start row
              go true b n = absurd (None≢Some n)
              go false b n = sym (not_said (row_notation row) _ _ word at (drop at text) space_there b) ∙ whole_is

          -- a number below it: one operand more
          pub operand_more : {n : Number} → Some n ≡ number_at (notation_of base) f.limit (at + 1) text
              → OperandsSoFar text start row (n.end) (word + n.value * f.weight) (o + 1)
          operand_more {n} some = go says refl (some ∙ read_is)
            where
              go : (b : Bool) → says ≡ b → Some n ≡ cond b (Some stands) None → OperandsSoFar text start row (n.end) (word + n.value * f.weight) (o + 1)
              go false b m = absurd (None≢Some (sym m))
              go true b m =
                  let value_is : n.value ≡ number_of (row_base row) (digits_at row text at) = ap (λ (x : Option Number). the_value x n) m in
                  let end_is : n.end ≡ at + 1 + length (digits_at row text at) = ap (λ (x : Option Number). the_end x n) m in
                  let value_small : n.value < (op_at row o).limit = omega (arith, value_is, says_below_lem (row_notation row) _ (digits_at row text at) b) in
                  record {
                    within = omega (arith, end_is, ap length (sym digits_are), front_fits (is_digit (row_base row)) (drop (at + 1) text), length-drop (at + 1) text, behind_space_lem);
                    room = rw there.2 (omega (arith, adds_at_most (op_at row o) n.value value_small, so_far.room, ap most apart));
                    same =
                        rw (value_is, end_is, there.2, behind_digits)
                        (sym (one_said (row_notation row) _ _ word at (drop at text) space_there b) ∙ whole_is);
                  }
