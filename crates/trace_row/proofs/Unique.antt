-- For every public function: it asks nothing and no second answer fits, since its contract is one equation and has no `requires`.
-- Assumes nothing.
use mathlib.Core.Path.{◌≡◌, refl, sym, ◌∙◌, ap}
use Rattle.determined.specs.Determined.{Determined}
use Rattle.determined.proofs.OneEquation.{by_value, no_requires}
use Rattle.trace_row.proofs.shown.row_of_stages.Kinds as row_of_stages_kinds
use Rattle.trace_row.proofs.shown.row_of_stages.Reads as row_of_stages_reads
use Rattle.trace_row.proofs.shown.row_of_cycle.Kinds as row_of_cycle_kinds
use Rattle.trace_row.proofs.shown.row_of_cycle.Reads as row_of_cycle_reads
use Prim.Native.Nat.{ℕ}
use mathlib.Core.List.{List}
use native.Mathlib.Omega.{arith}
use Rattle.table.specs.Refusal.{WORD}
use Rattle.table.proofs.Decided.{each}
use Rattle.unit_rules.specs.declared.Unit.{Unit as Model}
use Rattle.unit_rules.specs.Answers.{Cycled}
use Rattle.unit_rules.proofs.Said.{unsaid_cycled}
use Rattle.trace_rules.specs.Call.{traced_of}
use Rattle.trace_row.proofs.cycle_with_row.Kinds as cycle_with_row_kinds
use Rattle.trace_row.proofs.cycle_with_row.Reads as cycle_with_row_reads

pub row_of_stages_unique : Determined 0 row_of_stages_kinds.ps row_of_stages_kinds.r row_of_stages_reads.requires row_of_stages_reads.Post
row_of_stages_unique = by_value (λ κs a. no_requires) (λ κs a v w. refl)

pub row_of_cycle_unique : Determined 0 row_of_cycle_kinds.ps row_of_cycle_kinds.r row_of_cycle_reads.requires row_of_cycle_reads.Post
row_of_cycle_unique = by_value (λ κs a. no_requires) (λ κs a v w. refl)

-- a cycle with a row is refused with 8, 9 and 10 only
pub never_word : (u : Model) (start : ℕ) (buffer : List ℕ) → (traced_of u start buffer).0.refusal ≡ WORD → ⊥
unfolding traced_of
never_word u start buffer =
    each (λ (z : Cycled × List ℕ). z.0.refusal ≡ WORD → ⊥) _ _ (λ e. omega (arith, e), (λ e. omega (arith, e), (λ e. omega (arith, e), tt))) (λ e. omega (arith, e))

pub cycle_with_row_unique : Determined 1 cycle_with_row_kinds.ps cycle_with_row_kinds.r cycle_with_row_reads.requires cycle_with_row_reads.Post
cycle_with_row_unique = record {
  asks_nothing = λ κs a. no_requires;
  one_answer = λ κs a x y v w p q. (
    unsaid_cycled a.0 (never_word a.0 a.1.1.0 a.1.0.now) x y (ap (λ (z : Cycled × List ℕ). z.0) p) (ap (λ (z : Cycled × List ℕ). z.0) q),
    λ i. (v.0, (ap (λ (z : Cycled × List ℕ). z.1) (p ∙ sym q) i, v.1.1)),
  );
}
