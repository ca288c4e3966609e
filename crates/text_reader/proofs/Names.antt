-- The name in front of a text, a byte at a time, and its key. Carried by the laws of fronts, and by those of digits for the keys.
-- Assumes nothing.
use Prim.Native.Nat.{ℕ, suc, ◌+◌, ◌*◌, ◌-◌, ◌^◌, ◌≤◌, ◌<◌}
use mathlib.Core.Path.{◌≡◌, sym, ap, ◌∙◌}
use mathlib.Core.Bool.{Bool, true, false}
use mathlib.Core.List.{List, [], ◌∷◌}
use native.Mathlib.Nat.{mul-le-mul_left, pow-le-pow_right, min-le_left}
use native.Mathlib.Omega.{arith}
use borrow.Author.Tests.{ltb-true, ltb-false}
use mir.Syntax.{w8}
use mir.Val.{Fits}
use lib.Dec.{ltb}
use lib.ListN.{length, get_or, take, drop, length-take}
use lib.Seq.{take-nil}
use Rattle.text_rules.specs.Line.{in_name, name_in}
use Rattle.text_rules.specs.Number.{positional}
use Rattle.text_rules.proofs.Fronts.{all_parts, all_front, front_at_end, front_ended, front_more}
use Rattle.text_rules.proofs.Positional.{AllBelow, below_power, at_least}
use Rattle.text_table.specs.Table.{key_of}
use Rattle.text_reader.specs.Front.{NameRead}

-- ---- what is left of a name, of seven bytes at most, from a byte on

abbrev left_of : List ℕ → ℕ → List ℕ
left_of text size = take (7 - size) (name_in (drop size text))

-- nothing, behind seven bytes, at the end of the text and at a byte that ends a name
none_asked : (text : List ℕ) (size : ℕ) → 7 ≤ size → left_of text size ≡ []
none_asked text size h = let none : 7 - size ≡ 0 = omega arith in rw none

none_left : (text : List ℕ) (size : ℕ) → length text ≤ size → left_of text size ≡ []
none_left text size h = rw (front_at_end in_name text size h) (take-nil (7 - size))

name_ended : (text : List ℕ) (size : ℕ) → size < length text → in_name (get_or text size 0) ≡ false → left_of text size ≡ []
name_ended text size h e = rw (front_ended in_name text size h e) (take-nil (7 - size))

-- the byte, and what is left behind it
byte_left : (text : List ℕ) (size : ℕ) → size < 7 → size < length text → in_name (get_or text size 0) ≡ true
    → left_of text size ≡ get_or text size 0 ∷ left_of text (size + 1)
byte_left text size k h e =
    let one : 7 - size ≡ suc (7 - (size + 1)) = omega arith in
    rw (one, front_more in_name text size h e)

-- a key and a size so far: with what is left behind them they are those of the name
pub record NameSoFar (text : List ℕ) (key size : ℕ) : Type 0 where
  pub keyed : positional 256 key (left_of text size) ≡ key_of (left_of text 0)
  pub size_of : size + length (left_of text size) ≡ length (left_of text 0)

-- ---- bytes, and so a key that fits 64 bits

all_below : (base : ℕ) (l : List ℕ) → ((i : ℕ) → get_or l i 0 < base) → AllBelow base l
all_below base [] h = tt
all_below base (b ∷ l) h = (h 0, all_below base l (λ i. h (suc i)))

-- what is read of a name is bytes
pub name_bytes : (text : List ℕ) → ((i : ℕ) → get_or text i 0 < 256) → AllBelow 256 (take 7 (name_in text))
name_bytes text h = (all_parts _ 7 (name_in text) (all_front in_name _ text (all_below 256 text h))).0

key_fits : (text : List ℕ) → ((i : ℕ) → get_or text i 0 < 256) → key_of (left_of text 0) < 2 ^ 57
key_fits text h =
    let name = name_in text in
    let short : length (take 7 name) ≤ 7 = omega (arith, length-take 7 name, min-le_left 7 (length name)) in
    omega (arith, below_power 256 1 (take 7 name) (name_bytes text h), mul-le-mul_left 2 (pow-le-pow_right {n = 256} (omega arith) short))

-- ---- a turn of the loop that reads a name, by its tests as they came out

module _ (text : List ℕ) (key size : ℕ) (so_far : NameSoFar text key size) where
  -- where nothing is left, the name is read
  name_read : left_of text size ≡ [] → NameRead (record { key = key; size = size }) text
  name_read none = record {
    key = sym (ap (positional 256 key) none) ∙ so_far.keyed;
    size = omega (arith, so_far.size_of, ap length none);
  }

  module _ (short : size < 7) (there : ltb size (length text) ≡ true) {t : Bool} (test : t ≡ in_name (get_or text size 0)) where
    -- a byte that does not end the name is the next of its key
    pub name_more : t ≡ true → NameSoFar text (256 * key + get_or text size 0) (size + 1)
    name_more on =
        let left = byte_left text size short (ltb-true size (length text) there) (sym test ∙ on) in
        record {
          keyed = sym (ap (positional 256 key) left) ∙ so_far.keyed;
          size_of = omega (arith, so_far.size_of, ap length left);
        }

    -- the key that it makes is on the way to the name's, and so it fits
    pub key_room : ((i : ℕ) → Fits w8 (get_or text i 0)) → t ≡ true → 256 * key + get_or text size 0 < 2 ^ 57
    key_room bytes on =
        omega (
          arith,
          key_fits text (λ i. (bytes i).fits),
          at_least 256 (256 * key + get_or text size 0) (left_of text (size + 1)) (omega arith),
          (name_more on).keyed,
        )

    -- one that ends it
    pub name_ends : t ≡ false → NameRead (record { key = key; size = size }) text
    name_ends off = name_read (name_ended text size (ltb-true size (length text) there) (sym test ∙ off))

  -- the end of the text
  pub text_ends : ltb size (length text) ≡ false → NameRead (record { key = key; size = size }) text
  text_ends off = name_read (none_left text size (ltb-false size (length text) off))
