-- The front of a text.
-- Assumes nothing.
use Rattle.std.specs.Prelude.{ℕ, Bool, cond, List, [], ◌∷◌}

-- the bytes of a text up to the first that fails a test, or to its end
unfoldable pub front_while : (ℕ → Bool) → List ℕ → List ℕ
front_while test [] = []
front_while test (b ∷ l) = cond (test b) (b ∷ front_while test l) []
