-- For every public function: it asks nothing and no second answer fits, since its contract is one equation and has no `requires`.
-- Assumes nothing.
use mathlib.Core.Path.{refl}
use Rattle.determined.specs.Determined.{Determined}
use Rattle.determined.proofs.OneEquation.{by_value, no_requires}
use Rattle.unit_record.proofs.numbers.last.Kinds as last_kinds
use Rattle.unit_record.proofs.numbers.last.Reads as last_reads
use Rattle.unit_record.proofs.numbers.count_at.Kinds as count_at_kinds
use Rattle.unit_record.proofs.numbers.count_at.Reads as count_at_reads
use Rattle.unit_record.proofs.numbers.program_made.Kinds as program_made_kinds
use Rattle.unit_record.proofs.numbers.program_made.Reads as program_made_reads
use Rattle.unit_record.proofs.numbers.numbers_made.Kinds as numbers_made_kinds
use Rattle.unit_record.proofs.numbers.numbers_made.Reads as numbers_made_reads
use Rattle.unit_record.proofs.latches.in_decoded.Kinds as in_decoded_kinds
use Rattle.unit_record.proofs.latches.in_decoded.Reads as in_decoded_reads
use Rattle.unit_record.proofs.latches.in_executed.Kinds as in_executed_kinds
use Rattle.unit_record.proofs.latches.in_executed.Reads as in_executed_reads
use Rattle.unit_record.proofs.fetched_in.Kinds as fetched_in_kinds
use Rattle.unit_record.proofs.fetched_in.Reads as fetched_in_reads
use Rattle.unit_record.proofs.well_made.Kinds as well_made_kinds
use Rattle.unit_record.proofs.well_made.Reads as well_made_reads
use Rattle.unit_record.proofs.is_drained.Kinds as is_drained_kinds
use Rattle.unit_record.proofs.is_drained.Reads as is_drained_reads
use Rattle.unit_record.proofs.latches.instruction.Kinds as instruction_kinds
use Rattle.unit_record.proofs.latches.instruction.Reads as instruction_reads

pub last_unique : Determined 0 last_kinds.ps last_kinds.r last_reads.requires last_reads.Post
last_unique = by_value (λ κs a. no_requires) (λ κs a v w. refl)

pub count_at_unique : Determined 0 count_at_kinds.ps count_at_kinds.r count_at_reads.requires count_at_reads.Post
count_at_unique = by_value (λ κs a. no_requires) (λ κs a v w. refl)

pub program_made_unique : Determined 1 program_made_kinds.ps program_made_kinds.r program_made_reads.requires program_made_reads.Post
program_made_unique = by_value (λ κs a. no_requires) (λ κs a v w. refl)

pub numbers_made_unique : Determined 0 numbers_made_kinds.ps numbers_made_kinds.r numbers_made_reads.requires numbers_made_reads.Post
numbers_made_unique = by_value (λ κs a. no_requires) (λ κs a v w. refl)

pub in_decoded_unique : Determined 0 in_decoded_kinds.ps in_decoded_kinds.r in_decoded_reads.requires in_decoded_reads.Post
in_decoded_unique = by_value (λ κs a. no_requires) (λ κs a v w. refl)

pub in_executed_unique : Determined 0 in_executed_kinds.ps in_executed_kinds.r in_executed_reads.requires in_executed_reads.Post
in_executed_unique = by_value (λ κs a. no_requires) (λ κs a v w. refl)

pub fetched_in_unique : Determined 1 fetched_in_kinds.ps fetched_in_kinds.r fetched_in_reads.requires fetched_in_reads.Post
fetched_in_unique = by_value (λ κs a. no_requires) (λ κs a v w. refl)

pub well_made_unique : Determined 0 well_made_kinds.ps well_made_kinds.r well_made_reads.requires well_made_reads.Post
well_made_unique = by_value (λ κs a. no_requires) (λ κs a v w. refl)

pub is_drained_unique : Determined 0 is_drained_kinds.ps is_drained_kinds.r is_drained_reads.requires is_drained_reads.Post
is_drained_unique = by_value (λ κs a. no_requires) (λ κs a v w. refl)

pub instruction_unique : Determined 0 instruction_kinds.ps instruction_kinds.r instruction_reads.requires instruction_reads.Post
instruction_unique = by_value (λ κs a. no_requires) (λ κs a v w. refl)
