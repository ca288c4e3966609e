-- For every public function: it asks nothing and no second answer fits, since its contract is one equation and has no `requires`.
-- Assumes nothing.
use mathlib.Core.Path.{refl, sym, ◌∙◌}
use Rattle.determined.specs.Determined.{Determined}
use Rattle.unit_rules.proofs.Said.{unsaid_loaded, unsaid_go, unsaid_cycled, cycle_no_word, unsaid_run, unsaid_register, unsaid_drained}
use Rattle.determined.proofs.OneEquation.{by_value, no_requires}
use Rattle.unit.proofs.ask.register_of.Kinds as register_of_kinds
use Rattle.unit.proofs.ask.register_of.Reads as register_of_reads
use Rattle.unit.proofs.ask.drained.Kinds as drained_kinds
use Rattle.unit.proofs.ask.drained.Reads as drained_reads
use Rattle.unit.proofs.begin.fresh.Kinds as fresh_kinds
use Rattle.unit.proofs.begin.fresh.Reads as fresh_reads
use Rattle.unit.proofs.begin.load.Kinds as load_kinds
use Rattle.unit.proofs.begin.load.Reads as load_reads
use Rattle.unit.proofs.begin.go.Kinds as go_kinds
use Rattle.unit.proofs.begin.go.Reads as go_reads
use Rattle.unit.proofs.cycle.Kinds as cycle_kinds
use Rattle.unit.proofs.cycle.Reads as cycle_reads
use Rattle.unit.proofs.run.Kinds as run_kinds
use Rattle.unit.proofs.run.Reads as run_reads
use Rattle.unit.proofs.told.made_in.Kinds as made_in_kinds
use Rattle.unit.proofs.told.made_in.Reads as made_in_reads
use Rattle.unit.proofs.told.register_in.Kinds as register_in_kinds
use Rattle.unit.proofs.told.register_in.Reads as register_in_reads
use Rattle.unit.proofs.told.drained_in.Kinds as drained_in_kinds
use Rattle.unit.proofs.told.drained_in.Reads as drained_in_reads

pub register_of_unique : Determined 0 register_of_kinds.ps register_of_kinds.r register_of_reads.requires register_of_reads.Post
register_of_unique = record { asks_nothing = λ κs a. no_requires; one_answer = λ κs a x y v w p q. (unsaid_register a.0 a.1.0 x y p q, refl) }

pub drained_unique : Determined 0 drained_kinds.ps drained_kinds.r drained_reads.requires drained_reads.Post
drained_unique = record { asks_nothing = λ κs a. no_requires; one_answer = λ κs a x y v w p q. (unsaid_drained a.0 x y p q, refl) }

pub fresh_unique : Determined 0 fresh_kinds.ps fresh_kinds.r fresh_reads.requires fresh_reads.Post
fresh_unique = by_value (λ κs a. no_requires) (λ κs a v w. refl)

pub load_unique : Determined 1 load_kinds.ps load_kinds.r load_reads.requires load_reads.Post
load_unique = record { asks_nothing = λ κs a. no_requires; one_answer = λ κs a x y v w p q. (unsaid_loaded x y (p ∙ sym q), refl) }

pub go_unique : Determined 0 go_kinds.ps go_kinds.r go_reads.requires go_reads.Post
go_unique = record { asks_nothing = λ κs a. no_requires; one_answer = λ κs a x y v w p q. (unsaid_go a.0 x y p q, refl) }

pub cycle_unique : Determined 0 cycle_kinds.ps cycle_kinds.r cycle_reads.requires cycle_reads.Post
cycle_unique = record { asks_nothing = λ κs a. no_requires; one_answer = λ κs a x y v w p q. (unsaid_cycled a.0 (cycle_no_word a.0) x y p q, refl) }

pub run_unique : Determined 0 run_kinds.ps run_kinds.r run_reads.requires run_reads.Post
run_unique = record { asks_nothing = λ κs a. no_requires; one_answer = λ κs a x y v w p q. (unsaid_run a.0 a.1.0 x y p q, refl) }

pub made_in_unique : Determined 1 made_in_kinds.ps made_in_kinds.r made_in_reads.requires made_in_reads.Post
made_in_unique = by_value (λ κs a. no_requires) (λ κs a v w. refl)

pub register_in_unique : Determined 1 register_in_kinds.ps register_in_kinds.r register_in_reads.requires register_in_reads.Post
register_in_unique = by_value (λ κs a. no_requires) (λ κs a v w. refl)

pub drained_in_unique : Determined 1 drained_in_kinds.ps drained_in_kinds.r drained_in_reads.requires drained_in_reads.Post
drained_in_unique = by_value (λ κs a. no_requires) (λ κs a v w. refl)
