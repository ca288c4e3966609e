-- How the card counts the ones of a word: in fields, side by side.
-- Assumes nothing.
use Rattle.std.specs.Prelude.{ℕ, zero, suc, ◌/◌, List, [], ◌∷◌}
use Rattle.std.specs.Int.Count.{ones_in}
use Rattle.register.specs.Halves.{low, high, join}

-- f at each of the n lowest fields of d bits of x
unfoldable pub in_fields : ℕ → ℕ → (ℕ → ℕ) → ℕ → ℕ
in_fields d zero f x = 0
in_fields d (suc n) f x = join d (in_fields d n f (high d x)) (f (low d x))

-- "sums of four, of eight and of sixteen bits": the word whose every field of d bits holds the number of ones that this field has in w
abbrev pub ones_in_fields : ℕ → ℕ → ℕ
ones_in_fields d w = in_fields d (32 / d) (ones_in d) w

-- "pair sums, then sums of four, of eight and of sixteen bits", "two halfwords of a word side by side": what stands there after each of the four steps
abbrev pub ones_by_step : ℕ → List ℕ
ones_by_step w = ones_in_fields 2 w ∷ ones_in_fields 4 w ∷ ones_in_fields 8 w ∷ ones_in_fields 16 w ∷ []
