-- For every public function: it asks nothing, and no second answer and no second unit or buffer afterwards fits, since its contract is one equation
-- and has no `requires`. Each reading of a contract is written out here, and `reads` ties it to the
-- contract.
-- Assumes nothing.
use mathlib.Core.Path.{◌∙◌, ◌≡◌, refl, sym}
use base.Logic.{emp, id⊢}
use Rattle.unit_rules.specs.Calls.{asked_drained, cycled_of, go_of, load_of, ran_of, register_of}
use Rattle.trace_rules.specs.Call.{traced_of}
use Rattle.determined.specs.Determined.{Unique, Reading}
use mathlib.Core.Path.{ap}
use Prim.Native.Nat.{ℕ}
use mathlib.Core.List.{List}
use Rattle.unit_rules.specs.Answers.{Cycled, beside, said_loaded, said_gone, said_cycled, said_ran, said_register, said_drained}
use Rattle.unit_rules.specs.declared.Answered.{Answered}
use Rattle.unit_rules.proofs.Said.{unsaid_loaded, unsaid_go, unsaid_cycled, cycle_no_word, unsaid_run, unsaid_register, unsaid_drained}
use Rattle.trace_row.proofs.Unique.{never_word}
use Rattle.unit_lent.specs.contracts.load as load
use Rattle.unit_lent.specs.contracts.go as go
use Rattle.unit_lent.specs.contracts.cycle as cycle
use Rattle.unit_lent.specs.contracts.cycle_with_row as cycle_with_row
use Rattle.unit_lent.specs.contracts.run as run
use Rattle.unit_lent.specs.contracts.register_of as register_of
use Rattle.unit_lent.specs.contracts.drained as drained

abbrev pub load_promise : Reading load.ended
load_promise κs a r s = said_loaded (beside r s.0.now) ≡ load_of a.1.0.now a.0.now

abbrev pub go_promise : Reading go.ended
go_promise κs a r s = said_gone (beside r s.0.now) ≡ go_of a.0.now

abbrev pub cycle_promise : Reading cycle.ended
cycle_promise κs a r s = said_cycled (beside r s.0.now) ≡ cycled_of a.0.now

abbrev pub cycle_with_row_promise : Reading cycle_with_row.ended
cycle_with_row_promise κs a r s = (said_cycled (beside r s.0.now), s.1.0.now) ≡ traced_of a.0.now a.1.1.0 a.1.0.now

abbrev pub run_promise : Reading run.ended
run_promise κs a r s = said_ran (beside r s.0.now) ≡ ran_of a.0.now a.1.0

abbrev pub register_of_promise : Reading register_of.ended
register_of_promise κs a r s = said_register r ≡ register_of a.0.now a.1.0

abbrev pub drained_promise : Reading drained.ended
drained_promise κs a r s = said_drained r ≡ asked_drained a.0.now

pub load_unique : Unique load.ended (λ M 𝓤 𝓛. load.clauses 𝓛)
load_unique = record {
  Post = load_promise;
  reads = λ 𝓛 mem run κs a g r s. refl;
  asks_nothing = λ {𝓤 = 𝓤} 𝓛 mem run κs a. (tt, id⊢ 𝓤 (emp 𝓤));
  one_answer = λ κs a x y v w p q. let same = unsaid_loaded (beside x v.0) (beside y w.0) (p ∙ sym q) in (ap (λ (z : Answered (Unit {0})). z.answer) same, λ i. ((same i).unit, v.1));
}

pub go_unique : Unique go.ended (λ M 𝓤 𝓛. go.clauses 𝓛)
go_unique = record {
  Post = go_promise;
  reads = λ 𝓛 mem run κs a g r s. refl;
  asks_nothing = λ {𝓤 = 𝓤} 𝓛 mem run κs a. (tt, id⊢ 𝓤 (emp 𝓤));
  one_answer = λ κs a x y v w p q. let same = unsaid_go a.0.now (beside x v.0) (beside y w.0) p q in (ap (λ (z : Answered (Unit {0})). z.answer) same, λ i. ((same i).unit, v.1));
}

pub cycle_unique : Unique cycle.ended (λ M 𝓤 𝓛. cycle.clauses 𝓛)
cycle_unique = record {
  Post = cycle_promise;
  reads = λ 𝓛 mem run κs a g r s. refl;
  asks_nothing = λ {𝓤 = 𝓤} 𝓛 mem run κs a. (tt, id⊢ 𝓤 (emp 𝓤));
  one_answer = λ κs a x y v w p q. let same = unsaid_cycled a.0.now (cycle_no_word a.0.now) (beside x v.0) (beside y w.0) p q in (ap (λ (z : Answered (Unit {0})). z.answer) same, λ i. ((same i).unit, v.1));
}

pub cycle_with_row_unique : Unique cycle_with_row.ended (λ M 𝓤 𝓛. cycle_with_row.clauses 𝓛)
cycle_with_row_unique = record {
  Post = cycle_with_row_promise;
  reads = λ 𝓛 mem run κs a g r s. refl;
  asks_nothing = λ {𝓤 = 𝓤} 𝓛 mem run κs a. (tt, id⊢ 𝓤 (emp 𝓤));
  one_answer = λ κs a x y v w p q.
      let same = unsaid_cycled a.0.now (never_word a.0.now a.1.1.0 a.1.0.now) (beside x v.0) (beside y w.0)
      (ap (λ (z : Cycled × List ℕ). z.0) p) (ap (λ (z : Cycled × List ℕ). z.0) q) in
      (ap (λ (z : Answered (Unit {0})). z.answer) same, λ i. ((same i).unit, (ap (λ (z : Cycled × List ℕ). z.1) (p ∙ sym q) i, v.1.1)));
}

pub run_unique : Unique run.ended (λ M 𝓤 𝓛. run.clauses 𝓛)
run_unique = record {
  Post = run_promise;
  reads = λ 𝓛 mem run κs a g r s. refl;
  asks_nothing = λ {𝓤 = 𝓤} 𝓛 mem run κs a. (tt, id⊢ 𝓤 (emp 𝓤));
  one_answer = λ κs a x y v w p q. let same = unsaid_run a.0.now a.1.0 (beside x v.0) (beside y w.0) p q in (ap (λ (z : Answered ℕ). z.answer) same, λ i. ((same i).unit, v.1));
}

pub register_of_unique : Unique register_of.ended (λ M 𝓤 𝓛. register_of.clauses 𝓛)
register_of_unique = record {
  Post = register_of_promise;
  reads = λ 𝓛 mem run κs a g r s. refl;
  asks_nothing = λ {𝓤 = 𝓤} 𝓛 mem run κs a. (tt, id⊢ 𝓤 (emp 𝓤));
  one_answer = λ κs a x y v w p q. (unsaid_register a.0.now a.1.0 x y p q, refl);
}

pub drained_unique : Unique drained.ended (λ M 𝓤 𝓛. drained.clauses 𝓛)
drained_unique = record {
  Post = drained_promise;
  reads = λ 𝓛 mem run κs a g r s. refl;
  asks_nothing = λ {𝓤 = 𝓤} 𝓛 mem run κs a. (tt, id⊢ 𝓤 (emp 𝓤));
  one_answer = λ κs a x y v w p q. (unsaid_drained a.0.now x y p q, refl);
}
