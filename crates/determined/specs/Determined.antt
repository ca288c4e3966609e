-- "It is proved that no second answer fits", and a public function asks nothing of its input: what both say of a function's contract.
-- Assumes nothing.
use Rattle.std.specs.Prelude.{ℕ, ◌≡◌, List}
use contract.Lifetimes.{Lfts}
use contract.Monad.{Fun, fact}
use borrow.Fn.Kinds.{ParamKind, ResultKind, Out, Dens, ended_of}
use borrow.Fn.World.{World, Pr}
use denote.Triple.Clauses.{Ended, Clauses, Lasts, AtExit, at_exit}
use denote.Triple.Entry.{Args, Res}
use seplogic.Ra.Ura.{Ura}
use prog.Memory.{Memory}
use prog.Routine.{Routine}
use types.Logic.{Logic}
use base.Logic.{SProp, ent, emp}

-- A `requires` asks nothing where it follows from nothing: then every caller meets it.
abbrev pub AsksNothing : {M : Type 1} (𝓤 : Ura M) → SProp 𝓤 → Type 1
AsksNothing 𝓤 requires = ent 𝓤 (emp 𝓤) requires

-- What an `ensures` says of the arguments, the answer and what was lent, at exit, for a function of the signature `T`.
abbrev pub Reading : Ended → Type 1
Reading T = (κs : Lfts T.signature.lifetimes) → Args T.signature κs → Res T.signature κs → AtExit T κs → Type 0

-- Whatever the arguments `a`: if the answer `x` with the last contents `v` of all that was lent as `&mut` meets the `ensures`, and `y` with `w` does
-- too, then `x` is `y` and `v` is `w`. A function that is lent nothing has no contents there, so this one definition serves answers by value and lent
-- buffers.
abbrev pub OneAnswer : (T : Ended) → Reading T → Type 0
OneAnswer T Post =
    (κs : Lfts T.signature.lifetimes) (a : Args T.signature κs) (x y : Res T.signature κs) (v w : Lasts T κs a)
    → Post κs a x (at_exit T κs a v) → Post κs a y (at_exit T κs a w) → (x ≡ y) × (v ≡ w)

-- A function that the borrow checker covers. The checker generates `ps` and `r`, the kinds of its parameters and of its answer at `n` lifetimes,
-- `requires`, the clause itself in every model `w` of the logic, and `Post`, its reading of the `ensures`. `Unit` says that the contract has no ghost
-- value.
pub record Determined
    (n : ℕ)
    (ps : List (ParamKind n))
    (r : ResultKind n)
    (requires : (κs : Lfts n) → Dens κs ps → Unit {0} → (w : World) → Pr w)
    (Post : Out n ps r) : Type 2 where
  pub asks_nothing : (κs : Lfts n) (a : Dens κs ps) (w : World) → AsksNothing w.𝓤 (requires κs a tt w)
  pub one_answer : OneAnswer (ended_of n ps r) Post

-- Its counterpart for a function of which only the contract's clauses `C` are taken, at the signature `T`, as for those over a struct lent by `&mut`.
-- So the reading is written out as `Post`, and `reads` says that the `ensures` is that fact and nothing else. `g` is the contract's ghost value, which
-- the caller chooses.
pub record Unique
    (T : Ended)
    (C : (M : Type 1) (𝓤 : Ura M) (𝓛 : Logic 𝓤) → (Memory → SProp 𝓤) → (Routine → Fun 𝓤) → Clauses 𝓤 T) : Type 2 where
  pub Post : Reading T
  pub reads : {M : Type 1} {𝓤 : Ura M} (𝓛 : Logic 𝓤) (mem : Memory → SProp 𝓤) (run : Routine → Fun 𝓤)
      (κs : Lfts T.signature.lifetimes) (a : Args T.signature κs) (g : (C M 𝓤 𝓛 mem run κs a).ghost)
      (r : Res T.signature κs) (s : AtExit T κs)
      → (C M 𝓤 𝓛 mem run κs a).ensures g r s ≡ fact 𝓤 (Post κs a r s)
  pub asks_nothing : {M : Type 1} {𝓤 : Ura M} (𝓛 : Logic 𝓤) (mem : Memory → SProp 𝓤) (run : Routine → Fun 𝓤)
      (κs : Lfts T.signature.lifetimes) (a : Args T.signature κs)
      → (g : (C M 𝓤 𝓛 mem run κs a).ghost) × AsksNothing 𝓤 ((C M 𝓤 𝓛 mem run κs a).requires g)
  pub one_answer : OneAnswer T Post
