-- Numbers for a line's operands, and the word of a line by its row.
-- Assumes nothing.
use Prim.Native.Nat.{ℕ, ◌<◌}
use mathlib.Core.List.{List, [], ◌∷◌}
use Rattle.text_rules.specs.Forms.{Operand, form_at}
use Rattle.text_rules.specs.Listing.{word_with}

-- numbers, one for each operand and each below its limit
abbrev pub Below : List Operand → List ℕ → Type 0
Below [] [] = Unit {0}
Below [] (v ∷ vs) = ⊥
Below (o ∷ os) [] = ⊥
Below (o ∷ os) (v ∷ vs) = (v < o.limit) × Below os vs

-- the word of a row of the table, with these numbers
abbrev pub word_of : ℕ → List ℕ → ℕ
word_of row vs = word_with (form_at row) vs
