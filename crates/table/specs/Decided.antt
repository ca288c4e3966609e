-- Tests in an order, each with its answer.
-- Assumes nothing.
use Rattle.std.specs.Prelude.{Bool, cond, List, [], ◌∷◌}

-- "Each holds where no earlier test refuses": the first test that holds gives its answer, and where none holds the last argument is the answer
unfoldable pub decided : {A : Type 0} → List (Bool × A) → A → A
decided [] otherwise = otherwise
decided (test ∷ tests) otherwise = cond test.0 test.1 (decided tests otherwise)
