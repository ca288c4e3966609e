-- Carried by the form of a contract: one without a `requires` asks nothing, and where its `ensures` is an equation of the answer, no second one fits.
-- Assumes nothing.
use Prim.Native.Nat.{ℕ}
use mathlib.Core.Path.{◌≡◌, ◌∙◌, sym}
use mathlib.Core.List.{List}
use contract.Lifetimes.{Lfts}
use borrow.Fn.Kinds.{ParamKind, ResultKind, Dens, ended_of, res_t}
use borrow.Fn.World.{World, Pr}
use denote.Triple.Clauses.{Lasts}
use base.Logic.{emp, id⊢}
use Rattle.determined.specs.Determined.{AsksNothing, Determined}

-- a contract without a `requires` has `emp` there
pub no_requires : (w : World) → AsksNothing w.𝓤 (emp w.𝓤)
no_requires w = id⊢ w.𝓤 (emp w.𝓤)

module _ {n : ℕ} {ps : List (ParamKind n)} {r : ResultKind n} {requires : (κs : Lfts n) → Dens κs ps → Unit {0} → (w : World) → Pr w}
    {f : (κs : Lfts n) → Dens κs ps → (res_t r κs).Denot}
    (asks : (κs : Lfts n) (a : Dens κs ps) (w : World) → AsksNothing w.𝓤 (requires κs a tt w))
    (nothing_lent : (κs : Lfts n) (a : Dens κs ps) (v w : Lasts (ended_of n ps r) κs a) → v ≡ w) where
  -- an answer by value, of which the `ensures` is an equation
  pub by_value : Determined n ps r requires (λ κs a x s. x ≡ f κs a)
  by_value = record { asks_nothing = asks; one_answer = λ κs a x y v w p q. (p ∙ sym q, nothing_lent κs a v w) }

  -- and a bound stands beside the equation
  pub bounded : {B : (κs : Lfts n) → Dens κs ps → (res_t r κs).Denot → Type 0} → Determined n ps r requires (λ κs a x s. (x ≡ f κs a) × B κs a x)
  bounded = record { asks_nothing = asks; one_answer = λ κs a x y v w p q. (p.0 ∙ sym q.0, nothing_lent κs a v w) }
