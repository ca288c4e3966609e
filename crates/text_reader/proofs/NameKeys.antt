-- A name and its key have the same row. Carried by the laws of digits: keys of bytes are the same only for the same bytes, since they stand behind a 1.
-- Assumes nothing.
use Prim.Native.Nat.{ℕ, ◌*◌, ◌^◌, ◌≤◌, ◌<◌}
use mathlib.Core.Path.{◌≡◌, refl, sym, ap, ◌∙◌}
use mathlib.Core.Bool.{Bool, true, false, ◌&&◌, true≢false}
use mathlib.Core.List.{List, [], ◌∷◌}
use native.Mathlib.Nat.{le_antisymm, pow-suc, pow-le-pow_right}
use native.Mathlib.Omega.{arith}
use borrow.Author.Tests.{leb-true, eq-eqb, ne_eqb}
use lib.Dec.{ltb, leb, eqb}
use lib.ListN.{length, take}
use lib.Seq.{take_all, length-take-le}
use Rattle.text_rules.specs.Forms.{Form, every_form, first_row, same_bytes, row_named}
use Rattle.text_rules.proofs.Positional.{AllBelow, every_below, same_length, below_power, above_power}
use Rattle.text_rules.proofs.Rows.{both, every, same_bytes_lem, same_as_itself, sound}
use Rattle.text_rules.proofs.Stated.{found}
use Rattle.text_table.specs.Table.{key_of}
use Rattle.text_reader.specs.Keys.{row_keyed}
use Rattle.text_table.proofs.Cells.{at_most_lem}

-- ---- keys

-- of fewer bytes is less
shorter_less : (xs ys : List ℕ) → AllBelow 256 xs → length xs < length ys → key_of xs < key_of ys
shorter_less xs ys h l =
    let more : 256 ^ length xs * 256 ≤ 256 ^ length ys = rw (pow-suc 256 (length xs)) at (pow-le-pow_right {n = 256} (omega arith) l) in
    omega (arith, below_power 256 1 xs h, above_power 256 1 ys)

-- no two names have the same
pub same_key : (xs ys : List ℕ) → AllBelow 256 xs → AllBelow 256 ys → key_of xs ≡ key_of ys → xs ≡ ys
same_key xs ys hx hy e =
    let no_longer : length xs ≤ length ys = at_most_lem _ _ (λ l. omega (arith, shorter_less ys xs hy l)) in
    let no-shorter : length ys ≤ length xs = at_most_lem _ _ (λ l. omega (arith, shorter_less xs ys hx l)) in
    (same_length 256 1 1 xs ys hx hy (le_antisymm no_longer no-shorter) e).1

-- ---- the seven bytes of a name that are read tell whether it is another of at most six

module _ (name other : List ℕ) (short : length other ≤ 6) where
  -- they are all of it where it is
  whole : name ≡ other → take 7 name ≡ name
  whole e = take_all 7 name (omega (arith, ap length e))

  -- and where they are the other, they are all of it
  cut : other ≡ take 7 name → name ≡ other
  cut e = sym (e ∙ take_all 7 name (at_most_lem _ _ (λ l. omega (arith, ap length e, length-take-le 7 name (omega arith)))))

  by_seven : AllBelow 256 (take 7 name) → AllBelow 256 other → eqb (key_of other) (key_of (take 7 name)) ≡ same_bytes name other
  by_seven hn ho = go (same_bytes name other) refl
    where
      go : (t : Bool) → same_bytes name other ≡ t → eqb (key_of other) (key_of (take 7 name)) ≡ t
      go true e = let same = same_bytes_lem name other e in eq-eqb _ _ (ap key_of (sym (whole same ∙ same)))
      go false e =
          ne_eqb _ _
          (λ k. true≢false (sym (ap (same_bytes name) (sym (cut (same_key other (take 7 name) ho hn k))) ∙ same_as_itself name) ∙ e))

-- ---- in the table

-- every name has at most six bytes
abbrev keyed : Form → Bool
keyed f = leb (length f.name) 6 && every (λ b. ltb b 256) f.name

same_row : (name : List ℕ) → AllBelow 256 (take 7 name) → (fs : List Form) → every keyed fs ≡ true
    → first_row (λ (f : Form). eqb (key_of f.name) (key_of (take 7 name))) fs ≡ first_row (λ (f : Form). same_bytes name f.name) fs
unfolding first_row
same_row name h [] e = refl
same_row name h (f ∷ fs) e =
    let s = both (keyed f) (every keyed fs) e in
    let t = both (leb (length f.name) 6) (every (λ b. ltb b 256) f.name) s.0 in
    rw (by_seven name f.name (leb-true _ _ t.0) h (every_below 256 f.name t.1), same_row name h fs s.1)

-- the row of a name's key is the row of the name
pub row_of_key : (name : List ℕ) → AllBelow 256 (take 7 name) → row_keyed (key_of (take 7 name)) ≡ row_named name
row_of_key name h = same_row name h every_form refl

-- seven bytes hold a name that has a row
pub named_whole : (name : List ℕ) → row_named name < 26 → take 7 name ≡ name
named_whole name h = take_all 7 name (omega (arith, ap length (found name h), (sound (row_named name) h).short))
