-- The row of a key: the place of the first row of the table that has it. Carried by induction over the forms.
-- Assumes nothing.
use Prim.Native.Nat.{ℕ, suc, ◌+◌}
use mathlib.Core.Path.{◌≡◌, refl, ap, ◌∙◌}
use mathlib.Core.Bool.{Bool, true, false, cond, not}
use mathlib.Core.List.{List, [], ◌∷◌, map}
use native.Mathlib.Omega.{arith}
use lib.Dec.{ltb, eqb}
use Rattle.std.specs.Prelude.{Some, None, position}
use Rattle.std.specs.List.{position_or_len}
use Rattle.text_rules.specs.Forms.{Form, every_form, first_row}
use Rattle.text_table.specs.declared.rows.Row.{Row}
use Rattle.text_table.specs.Table.{key_of, row_of, form_table}
use Rattle.text_reader.specs.Keys.{row_found}

module _ (key : ℕ) where
  abbrev has_key : Row → Bool
  has_key r = eqb r.key key

  counted : (t : Bool) {a b : ℕ} → a ≡ b → cond (not t) (1 + a) 0 ≡ cond t 0 (suc b)
  counted true e = refl
  counted false e = omega arith

  place_lem : (fs : List Form) → position_or_len has_key (map row_of fs) ≡ first_row (λ (f : Form). eqb (key_of f.name) key) fs
  unfolding first_row
  place_lem [] = refl
  place_lem (f ∷ fs) = counted (eqb (key_of f.name) key) (place_lem fs)

  pub found_lem : {rows : List Row} → rows ≡ form_table → position has_key rows ≡ row_found key
  unfolding form_table
  found_lem e = ap (position has_key) e ∙ ap (λ (i : ℕ). cond (ltb i 26) (Some i) None) (place_lem every_form)
