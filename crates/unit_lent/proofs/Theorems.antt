-- For the reader of the contracts: a call over a lent unit leaves the unit that the call of that name leaves in a sequence (unit_rules/specs/Sequence.antt), and answers how many cycles
-- are made in it, so that demand 3 holds with these calls as with the others; after a refusal the unit and the buffer are what they were. The two calls that ask take the unit by `&`, and change nothing.
-- Assumes nothing.
use Rattle.std.proofs.Common.{◌≡◌, ◌∙◌, ap, length}
use contract.Lifetimes.{Lfts}
use denote.Triple.Clauses.{AtExit}
use denote.Triple.Entry.{Args, Res}
use Prim.Native.Nat.{◌+◌}
use lib.Dec.{leb}
use Rattle.table.specs.Refusal.{number_in, value_in}
use Rattle.row_rules.specs.Text.{row_size}
use Rattle.unit_rules.specs.Sequence.{unit_after, made_unless, cycles_in}
use Rattle.unit_rules.specs.Sequence.Call.{load as a_load, go as a_go, cycle as a_cycle, row as a_row, run as a_run}
use Rattle.unit_rules.proofs.Demand3.{demand3_load_refused}
use Rattle.unit_rules.proofs.Theorems as model
use Rattle.trace_rules.proofs.Theorems as shown
use Rattle.unit_lent.proofs.Unique.{load_promise, go_promise, cycle_promise, cycle_with_row_promise, run_promise}
use Rattle.unit_lent.specs.contracts.load as load
use Rattle.unit_lent.specs.contracts.go as go
use Rattle.unit_lent.specs.contracts.cycle as cycle
use Rattle.unit_lent.specs.contracts.cycle_with_row as cycle_with_row
use Rattle.unit_lent.specs.contracts.run as run

-- ---- the unit afterwards

pub load_as_a_call : (κs : Lfts 2) (a : Args load.signature κs) (r : Res load.signature κs) (s : AtExit load.ended κs)
    → load_promise κs a r s → s.0.now ≡ unit_after (a_load a.1.0.now) a.0.now
load_as_a_call κs a r s p = ap (λ z. z.unit) p

pub go_as_a_call : (κs : Lfts 1) (a : Args go.signature κs) (r : Res go.signature κs) (s : AtExit go.ended κs)
    → go_promise κs a r s → s.0.now ≡ unit_after a_go a.0.now
go_as_a_call κs a r s p = ap (λ z. z.unit) p

pub cycle_as_a_call : (κs : Lfts 1) (a : Args cycle.signature κs) (r : Res cycle.signature κs) (s : AtExit cycle.ended κs)
    → cycle_promise κs a r s → (s.0.now ≡ unit_after a_cycle a.0.now) × (made_unless (number_in r) ≡ cycles_in a_cycle a.0.now)
cycle_as_a_call κs a r s p = (ap (λ z. z.unit) p, ap (λ z. made_unless z.refusal) p)

pub cycle_with_row_as_a_call : (κs : Lfts 2) (a : Args cycle_with_row.signature κs) (r : Res cycle_with_row.signature κs) (s : AtExit cycle_with_row.ended κs)
    → cycle_with_row_promise κs a r s
    → (let x = a_row (leb (a.1.1.0 + row_size) (length a.1.0.now)) in (s.0.now ≡ unit_after x a.0.now) × (made_unless (number_in r) ≡ cycles_in x a.0.now))
cycle_with_row_as_a_call κs a r s p =
    let call = shown.row_is_a_call a.0.now a.1.1.0 a.1.0.now in
    (ap (λ z. z.0.unit) p ∙ call.0, ap (λ z. made_unless z.0.refusal) p ∙ call.1)

pub run_as_a_call : (κs : Lfts 1) (a : Args run.signature κs) (r : Res run.signature κs) (s : AtExit run.ended κs)
    → run_promise κs a r s → (s.0.now ≡ unit_after (a_run a.1.0) a.0.now) × (value_in 0 r ≡ cycles_in (a_run a.1.0) a.0.now)
run_as_a_call κs a r s p = (ap (λ z. z.unit) p, ap (λ z. z.made) p)

-- ---- after a refusal

pub load_refused : (κs : Lfts 2) (a : Args load.signature κs) (r : Res load.signature κs) (s : AtExit load.ended κs)
    → load_promise κs a r s → (number_in r ≡ 0 → ⊥) → s.0.now ≡ a.0.now
load_refused κs a r s p h = ap (λ z. z.unit) p ∙ demand3_load_refused a.1.0.now a.0.now (λ e. h (ap (λ z. z.refusal) p ∙ e))

pub go_refused : (κs : Lfts 1) (a : Args go.signature κs) (r : Res go.signature κs) (s : AtExit go.ended κs)
    → go_promise κs a r s → (number_in r ≡ 0 → ⊥) → s.0.now ≡ a.0.now
go_refused κs a r s p h = ap (λ z. z.unit) p ∙ model.go_refused a.0.now (λ e. h (ap (λ z. z.refusal) p ∙ e))

pub cycle_refused : (κs : Lfts 1) (a : Args cycle.signature κs) (r : Res cycle.signature κs) (s : AtExit cycle.ended κs)
    → cycle_promise κs a r s → (number_in r ≡ 0 → ⊥) → s.0.now ≡ a.0.now
cycle_refused κs a r s p h = ap (λ z. z.unit) p ∙ model.cycle_refused a.0.now (λ e. h (ap (λ z. z.refusal) p ∙ e))

pub cycle_with_row_refused : (κs : Lfts 2) (a : Args cycle_with_row.signature κs) (r : Res cycle_with_row.signature κs) (s : AtExit cycle_with_row.ended κs)
    → cycle_with_row_promise κs a r s → (number_in r ≡ 0 → ⊥) → (s.0.now ≡ a.0.now) × (s.1.0.now ≡ a.1.0.now)
cycle_with_row_refused κs a r s p h =
    let kept = shown.refused_unaltered a.0.now a.1.1.0 a.1.0.now (λ e. h (ap (λ z. z.0.refusal) p ∙ e)) in
    (ap (λ z. z.0.unit) p ∙ kept.0, ap (λ z. z.1) p ∙ kept.1)

pub run_refused : (κs : Lfts 1) (a : Args run.signature κs) (r : Res run.signature κs) (s : AtExit run.ended κs)
    → run_promise κs a r s → (number_in r ≡ 0 → ⊥) → s.0.now ≡ a.0.now
run_refused κs a r s p h = ap (λ z. z.unit) p ∙ model.run_refused a.0.now a.1.0 (λ e. h (ap (λ z. z.refusal) p ∙ e))
