-- The rows of the table, each of them what its form says. Carried by `get_or-map`.
-- Assumes nothing.
use Prim.Native.Nat.{ℕ, zero, suc, ◌^◌, ◌≤◌, ◌<◌}
use mathlib.Core.Path.{◌≡◌, refl, ap, ◌∙◌}
use mathlib.Core.List.{List, [], ◌∷◌}
use native.Mathlib.Nat.{le_of_suc-le-suc, not-suc-le-zero, lt_of_not-le}
use native.Mathlib.Omega.{arith}
use lib.ListN.{length, get_or}
use Rattle.std.specs.Prelude.{Option, Some, None}
use Rattle.std.proofs.lemmas.List.{get_or-map}
use Rattle.text_rules.specs.Forms.{Operand, every_form, form_at}
use Rattle.text_rules.proofs.Rows.{sound, each_limit, largest_small}
use Rattle.text_table.specs.declared.rows.Field.{Field}
use Rattle.text_table.specs.declared.rows.Row.{Row}
use Rattle.text_table.specs.Table.{fields_of, row_of, form_table}

-- what is not above is at most
pub at_most_lem : (a b : ℕ) → (b < a → ⊥) → a ≤ b
at_most_lem a b f = le_of_suc-le-suc (lt_of_not-le f)

-- ---- a row

-- in the table as the code has it
module _ {rows : List Row} (e : rows ≡ form_table) (row : ℕ) (h : row < 26) where
  pub row_there : (d : Row) → get_or rows row d ≡ row_of (form_at row)
  unfolding form_table
  row_there d = ap (λ (l : List Row). get_or l row d) e ∙ get_or-map row_of every_form row _ d h

  pub operands_there : (d : Row) → (get_or rows row d).operands ≡ fields_of 4 (form_at row).operands
  operands_there d = ap (λ (r : Row). r.operands) (row_there d)

-- ---- an operand of a row

abbrev pub no_operand : Operand
no_operand = record { limit = 0; place = 0 }

abbrev pub ops_of : ℕ → List Operand
ops_of row = (form_at row).operands

abbrev pub op_at : ℕ → ℕ → Operand
op_at row o = get_or (ops_of row) o no_operand

-- what a slot says of the operands from one on: there is none, or there is, with its limit and the weight of its lowest bit
abbrev pub Says : Option Field → List Operand → ℕ → Type 0
Says None os o = length os ≤ o
Says (Some f) os o = (o < length os) × (f.limit ≡ (get_or os o no_operand).limit) × (f.weight ≡ 2 ^ (get_or os o no_operand).place)

says_in : (most : ℕ) (os : List Operand) (o : ℕ) (d : Option Field) → o < most → Says (get_or (fields_of most os) o d) os o
says_in zero os o d h = absurd (not-suc-le-zero h)
says_in (suc most) [] zero d h = omega arith
says_in (suc most) [] (suc o) d h = go (get_or (fields_of most []) o d) (says_in most [] o d (le_of_suc-le-suc h))
  where
    go : (s : Option Field) → Says s [] o → Says s [] (suc o)
    go None k = omega arith
    go (Some f) k = absurd (not-suc-le-zero k.0)
says_in (suc most) (x ∷ os) zero d h = (omega arith, refl, refl)
says_in (suc most) (x ∷ os) (suc o) d h = go (get_or (fields_of most os) o d) (says_in most os o d (le_of_suc-le-suc h))
  where
    go : (s : Option Field) → Says s os o → Says s (x ∷ os) (suc o)
    go None k = omega arith
    go (Some f) k = (omega (arith, k.0), k.1, k.2)

module _ (row o : ℕ) (h : row < 26) where
  pub slot_says : (d : Option Field) → o < 4 → Says (get_or (fields_of 4 (ops_of row)) o d) (ops_of row) o
  slot_says d k = says_in 4 (ops_of row) o d k

  module _ {rows : List Row} (e : rows ≡ form_table) (k : o < 4) (d : Row) (s : Option Field) where
    says_there : Says (get_or (get_or rows row d).operands o s) (ops_of row) o
    says_there = rw (operands_there e row h d) (slot_says s k)

    pub none_left : get_or (get_or rows row d).operands o s ≡ None → length (ops_of row) ≤ o
    none_left n = rw n at says_there

    pub one_more : {f : Field} → get_or (get_or rows row d).operands o s ≡ Some f
        → (o < length (ops_of row)) × (f.limit ≡ (op_at row o).limit) × (f.weight ≡ 2 ^ (op_at row o).place)
    one_more n = rw n at says_there

  -- no limit is 0, and none above 2^25
  pub limit_within : o < length (ops_of row) → (0 < (op_at row o).limit) × ((op_at row o).limit ≤ 2 ^ 25)
  limit_within l =
      let notation = (form_at row).notation in
      let each = each_limit notation (ops_of row) (sound row h).limits o l no_operand in
      (each.0, omega (arith, each.1, largest_small notation))
