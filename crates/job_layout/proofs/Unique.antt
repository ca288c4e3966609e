-- For every public function: it asks nothing and no second answer fits, since its contract is one equation and has no `requires`.
-- Assumes nothing.
use mathlib.Core.Path.{refl}
use Rattle.determined.specs.Determined.{Determined}
use Rattle.determined.proofs.OneEquation.{by_value, no_requires}
use Rattle.job_layout.proofs.instructions_at.Kinds as instructions_at_kinds
use Rattle.job_layout.proofs.instructions_at.Reads as instructions_at_reads
use Rattle.job_layout.proofs.may_hold.Kinds as may_hold_kinds
use Rattle.job_layout.proofs.may_hold.Reads as may_hold_reads

pub instructions_at_unique : Determined 0 instructions_at_kinds.ps instructions_at_kinds.r instructions_at_reads.requires instructions_at_reads.Post
instructions_at_unique = by_value (λ κs a. no_requires) (λ κs a v w. refl)

pub may_hold_unique : Determined 0 may_hold_kinds.ps may_hold_kinds.r may_hold_reads.requires may_hold_reads.Post
may_hold_unique = by_value (λ κs a. no_requires) (λ κs a v w. refl)
