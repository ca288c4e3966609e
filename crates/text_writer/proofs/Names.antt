-- The names of the rows by their keys. Carried by the laws of positional digits: the last byte of a name is what is left of its key over 256.
-- Assumes nothing.
use Prim.Native.Nat.{ℕ, suc, ◌+◌, ◌*◌, ◌-◌, ◌/◌, ◌%◌, ◌≤◌, ◌<◌}
use mathlib.Core.Path.{◌≡◌, refl, sym, ap, ◌∙◌}
use mathlib.Core.Bool.{true}
use mathlib.Core.List.{List, [], ◌∷◌, ◌++◌}
use native.Mathlib.Omega.{arith}
use lib.Dec.{ltb}
use lib.ListN.{length, get_or, take, drop, set}
use lib.Seq.{take-suc, take_all}
use Rattle.buffer.specs.Front.{from_start}
use Rattle.text_rules.specs.Forms.{form_at}
use Rattle.text_rules.proofs.Positional.{AllBelow, each_below, every_below, snoc}
use Rattle.text_rules.proofs.Rows.{every, agree}
use Rattle.text_table.specs.Table.{key_of, form_table}
use Rattle.text_table.specs.declared.rows.Row.{Row}
use Rattle.text_table.proofs.Cells.{row_there}
use Rattle.text_writer.specs.Name.{size_by_key}
use Rattle.text_writer.proofs.Backwards.{one_back}

-- ---- in the table

-- a name's size by its key, in every row
sized : (row : ℕ) → row < 26 → size_by_key (key_of (form_at row).name) ≡ length (form_at row).name
sized = agree 26 (λ (row : ℕ). size_by_key (key_of (form_at row).name)) (λ (row : ℕ). length (form_at row).name) refl

-- names are bytes
bytes_there : (row : ℕ) → row < 26 → every (λ b. ltb b 256) (form_at row).name ≡ true
bytes_there = agree 26 (λ (row : ℕ). every (λ b. ltb b 256) (form_at row).name) (λ (_ : ℕ). true) refl

pub name_bytes : (row : ℕ) → row < 26 → AllBelow 256 (form_at row).name
name_bytes row h = every_below 256 (form_at row).name (bytes_there row h)

-- in the table as the code has it
module _ {rows : List Row} (e : rows ≡ form_table) (row : ℕ) (h : row < 26) (d : Row) where
  key_there : (get_or rows row d).key ≡ key_of (form_at row).name
  key_there = ap (λ (r : Row). r.key) (row_there e row h d)

  -- the size that is found by the key there
  pub size_there : {size : ℕ} → size ≡ size_by_key (get_or rows row d).key → size ≡ length (form_at row).name
  size_there q = q ∙ ap size_by_key key_there ∙ sized row h

  -- all of the name is left, and its key is there
  pub all_left : (size : ℕ) → size ≡ length (form_at row).name → (get_or rows row d).key ≡ key_of (take size (form_at row).name)
  all_left size q = key_there ∙ ap key_of (sym (take_all size (form_at row).name (omega arith)))

-- ---- from the last byte back

module _ (name : List ℕ) (bytes : AllBelow 256 name) (i rest : ℕ) (some : 0 < i) (within : i ≤ length name) (left : rest ≡ key_of (take i name)) where
  apart : take i name ≡ take (i - 1) name ++ get_or name (i - 1) 0 ∷ []
  apart = let next : suc (i - 1) ≡ i = omega arith in rw next at (take-suc name (i - 1) 0 (omega arith))

  split : rest ≡ 256 * key_of (take (i - 1) name) + get_or name (i - 1) 0
  split = left ∙ ap key_of apart ∙ snoc 256 1 (take (i - 1) name) (get_or name (i - 1) 0)

  small : get_or name (i - 1) 0 < 256
  small = each_below 256 name bytes (i - 1) (omega arith)

  -- the last byte of what is left of a name
  left_apart : take i name ≡ take (i - 1) name ++ (rest % 256) ∷ []
  left_apart = let same : rest % 256 ≡ get_or name (i - 1) 0 = omega (arith, split, small) in rw same apart

  -- the key of what is before it
  pub less_left : rest / 256 ≡ key_of (take (i - 1) name)
  less_left = omega (arith, split, small)

  -- and that byte stored
  pub byte_back : (old out : List ℕ) → length name ≤ length old → out ≡ from_start i (drop i name) old
      → set out (i - 1) (rest % 256) ≡ from_start (i - 1) (drop (i - 1) name) old
  byte_back old out room e = one_back name i some within (take (i - 1) name) (rest % 256) left_apart old out room e
