-- For every public function: it asks nothing and no second answer fits, since its contract is one equation and has no `requires`.
-- Assumes nothing.
use Rattle.std.proofs.Common.{refl}
use Rattle.determined.specs.Determined.{Determined}
use Rattle.determined.proofs.OneEquation.{by_value, no_requires}
use Rattle.alu_lanes.proofs.wrapped.add.Kinds as add_kinds
use Rattle.alu_lanes.proofs.wrapped.add.Reads as add_reads
use Rattle.alu_lanes.proofs.wrapped.subtract_from.Kinds as subtract_from_kinds
use Rattle.alu_lanes.proofs.wrapped.subtract_from.Reads as subtract_from_reads
use Rattle.alu_lanes.proofs.counted.ones_in_halfwords.Kinds as ones_in_halfwords_kinds
use Rattle.alu_lanes.proofs.counted.ones_in_halfwords.Reads as ones_in_halfwords_reads
use Rattle.alu_lanes.proofs.ones.by_step.Kinds as by_step_kinds
use Rattle.alu_lanes.proofs.ones.by_step.Reads as by_step_reads
use Rattle.alu_lanes.proofs.counted.leading_zeros.Kinds as leading_zeros_kinds
use Rattle.alu_lanes.proofs.counted.leading_zeros.Reads as leading_zeros_reads
use Rattle.alu_lanes.proofs.moved.shift_halfwords_right.Kinds as shift_halfwords_right_kinds
use Rattle.alu_lanes.proofs.moved.shift_halfwords_right.Reads as shift_halfwords_right_reads
use Rattle.alu_lanes.proofs.moved.rotate_right.Kinds as rotate_right_kinds
use Rattle.alu_lanes.proofs.moved.rotate_right.Reads as rotate_right_reads
use Rattle.alu_lanes.proofs.multiplied.multiply_low_halves.Kinds as multiply_low_halves_kinds
use Rattle.alu_lanes.proofs.multiplied.multiply_low_halves.Reads as multiply_low_halves_reads
use Rattle.alu_lanes.proofs.multiplied.multiply_low_half_by.Kinds as multiply_low_half_by_kinds
use Rattle.alu_lanes.proofs.multiplied.multiply_low_half_by.Reads as multiply_low_half_by_reads
use Rattle.alu_lanes.proofs.bitwise.or.Kinds as or_kinds
use Rattle.alu_lanes.proofs.bitwise.or.Reads as or_reads
use Rattle.alu_lanes.proofs.bitwise.and.Kinds as and_kinds
use Rattle.alu_lanes.proofs.bitwise.and.Reads as and_reads
use Rattle.alu_lanes.proofs.clamped.U32Multiplied.multiply.Kinds as multiply_16_kinds
use Rattle.alu_lanes.proofs.clamped.U32Multiplied.multiply.Reads as multiply_16_reads
use Rattle.alu_lanes.proofs.clamped.U64Multiplied.multiply.Kinds as multiply_32_kinds
use Rattle.alu_lanes.proofs.clamped.U64Multiplied.multiply.Reads as multiply_32_reads
use Rattle.alu_lanes.proofs.clamped.add_clamped.Kinds as add_clamped_kinds
use Rattle.alu_lanes.proofs.clamped.add_clamped.Reads as add_clamped_reads
use Rattle.alu_lanes.proofs.clamped.subtract_from_clamped.Kinds as subtract_from_clamped_kinds
use Rattle.alu_lanes.proofs.clamped.subtract_from_clamped.Reads as subtract_from_clamped_reads
use Rattle.alu_lanes.proofs.ordered.larger.Kinds as larger_kinds
use Rattle.alu_lanes.proofs.ordered.larger.Reads as larger_reads
use Rattle.alu_lanes.proofs.ordered.smaller.Kinds as smaller_kinds
use Rattle.alu_lanes.proofs.ordered.smaller.Reads as smaller_reads

pub add_unique : Determined 0 add_kinds.ps add_kinds.r add_reads.requires add_reads.Post
add_unique = by_value (λ κs a. no_requires) (λ κs a v w. refl)

pub subtract_from_unique : Determined 0 subtract_from_kinds.ps subtract_from_kinds.r subtract_from_reads.requires subtract_from_reads.Post
subtract_from_unique = by_value (λ κs a. no_requires) (λ κs a v w. refl)

pub ones_in_halfwords_unique :
    Determined 0 ones_in_halfwords_kinds.ps ones_in_halfwords_kinds.r ones_in_halfwords_reads.requires ones_in_halfwords_reads.Post
ones_in_halfwords_unique = by_value (λ κs a. no_requires) (λ κs a v w. refl)

pub by_step_unique : Determined 0 by_step_kinds.ps by_step_kinds.r by_step_reads.requires by_step_reads.Post
by_step_unique = by_value (λ κs a. no_requires) (λ κs a v w. refl)

pub leading_zeros_unique : Determined 0 leading_zeros_kinds.ps leading_zeros_kinds.r leading_zeros_reads.requires leading_zeros_reads.Post
leading_zeros_unique = by_value (λ κs a. no_requires) (λ κs a v w. refl)

pub shift_halfwords_right_unique :
    Determined 0 shift_halfwords_right_kinds.ps shift_halfwords_right_kinds.r shift_halfwords_right_reads.requires shift_halfwords_right_reads.Post
shift_halfwords_right_unique = by_value (λ κs a. no_requires) (λ κs a v w. refl)

pub rotate_right_unique : Determined 0 rotate_right_kinds.ps rotate_right_kinds.r rotate_right_reads.requires rotate_right_reads.Post
rotate_right_unique = by_value (λ κs a. no_requires) (λ κs a v w. refl)

pub multiply_low_halves_unique :
    Determined 0 multiply_low_halves_kinds.ps multiply_low_halves_kinds.r multiply_low_halves_reads.requires multiply_low_halves_reads.Post
multiply_low_halves_unique = by_value (λ κs a. no_requires) (λ κs a v w. refl)

pub multiply_low_half_by_unique :
    Determined 0 multiply_low_half_by_kinds.ps multiply_low_half_by_kinds.r multiply_low_half_by_reads.requires multiply_low_half_by_reads.Post
multiply_low_half_by_unique = by_value (λ κs a. no_requires) (λ κs a v w. refl)

pub or_unique : Determined 0 or_kinds.ps or_kinds.r or_reads.requires or_reads.Post
or_unique = by_value (λ κs a. no_requires) (λ κs a v w. refl)

pub and_unique : Determined 0 and_kinds.ps and_kinds.r and_reads.requires and_reads.Post
and_unique = by_value (λ κs a. no_requires) (λ κs a v w. refl)

pub multiply_16_unique : Determined 0 multiply_16_kinds.ps multiply_16_kinds.r multiply_16_reads.requires multiply_16_reads.Post
multiply_16_unique = by_value (λ κs a. no_requires) (λ κs a v w. refl)

pub multiply_32_unique : Determined 0 multiply_32_kinds.ps multiply_32_kinds.r multiply_32_reads.requires multiply_32_reads.Post
multiply_32_unique = by_value (λ κs a. no_requires) (λ κs a v w. refl)

pub add_clamped_unique : Determined 0 add_clamped_kinds.ps add_clamped_kinds.r add_clamped_reads.requires add_clamped_reads.Post
add_clamped_unique = by_value (λ κs a. no_requires) (λ κs a v w. refl)

pub subtract_from_clamped_unique :
    Determined 0 subtract_from_clamped_kinds.ps subtract_from_clamped_kinds.r subtract_from_clamped_reads.requires subtract_from_clamped_reads.Post
subtract_from_clamped_unique = by_value (λ κs a. no_requires) (λ κs a v w. refl)

pub larger_unique : Determined 0 larger_kinds.ps larger_kinds.r larger_reads.requires larger_reads.Post
larger_unique = by_value (λ κs a. no_requires) (λ κs a v w. refl)

pub smaller_unique : Determined 0 smaller_kinds.ps smaller_kinds.r smaller_reads.requires smaller_reads.Post
smaller_unique = by_value (λ κs a. no_requires) (λ κs a v w. refl)
