-- For the reader of specs/: a fact asks nothing only where it holds, so a `requires` that nobody can meet is no such fact.
-- Assumes nothing.
use mathlib.Core.Logic.{∥∥₁_map}
use seplogic.Ra.Ura.{Ura}
use contract.Monad.{fact}
use Rattle.determined.specs.Determined.{AsksNothing}

pub free_holds : {M : Type 1} (𝓤 : Ura M) {φ : Type 0} → AsksNothing 𝓤 (fact 𝓤 φ) → ∥ φ ∥₁
free_holds 𝓤 free = ∥∥₁_map (free.apply 𝓤.one tt) (λ holds. holds.0)
