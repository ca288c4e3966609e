-- The numbers that a word has for the operands of a row, by the slots of the table. Carried by the laws of its cells.
-- Assumes nothing.
use Prim.Native.Nat.{ℕ, ◌/◌, ◌%◌, ◌^◌, ◌≤◌, ◌<◌}
use mathlib.Core.Path.{◌≡◌, refl, ◌∙◌}
use mathlib.Core.List.{List}
use native.Mathlib.Nat.{one-le-pow}
use native.Mathlib.Omega.{arith}
use lib.ListN.{length, get_or, length-map}
use Rattle.std.specs.Prelude.{Option, Some, None}
use Rattle.std.proofs.lemmas.List.{get_or-map}
use Rattle.text_rules.specs.Forms.{form_at}
use Rattle.text_rules.specs.Listing.{number_in, numbers_in}
use Rattle.text_rules.proofs.Rows.{sound}
use Rattle.text_table.specs.declared.rows.Field.{Field}
use Rattle.text_table.specs.declared.rows.Row.{Row}
use Rattle.text_table.specs.Table.{form_table}
use Rattle.text_table.proofs.Cells.{no_operand, ops_of, op_at, limit_within, none_left, one_more}

module _ (row w : ℕ) (h : row < 26) where
  abbrev numbers : List ℕ
  numbers = numbers_in w (form_at row)

  as_many : length numbers ≡ length (ops_of row)
  as_many = length-map (ops_of row) (number_in w)

  -- no row has more than four
  pub four_passed : {i : ℕ} → 4 ≤ i → length numbers ≤ i
  four_passed k = omega (arith, k, as_many, (sound row h).few)

  -- in the table as the code has it: an empty slot
  module _ {rows : List Row} (e : rows ≡ form_table) (d : Row) (i : ℕ) (k : i < 4) (s : Option Field) where
    pub none_more : get_or (get_or rows row d).operands i s ≡ None → length numbers ≤ i
    none_more n = omega (arith, as_many, none_left row i h e k d s n)

    -- and a slot with an operand
    module _ {f : Field} (slot : get_or (get_or rows row d).operands i s ≡ Some f) where
      there : (i < length (ops_of row)) × (f.limit ≡ (op_at row i).limit) × (f.weight ≡ 2 ^ (op_at row i).place)
      there = one_more row i h e k d s slot

      pub number_there : i < length numbers
      number_there = omega (arith, as_many, there.0)

      pub some_weight : 0 < f.weight
      some_weight = rw there.2 (one-le-pow (op_at row i).place 2 (omega arith))

      pub some_limit : 0 < f.limit
      some_limit = omega (arith, there.1, (limit_within row i h there.0).0)

      pub number_is : get_or numbers i 0 ≡ w / f.weight % f.limit
      number_is = get_or-map (number_in w) (ops_of row) i no_operand 0 there.0 ∙ rw (there.1, there.2) refl
