-- For every public function: it asks nothing and no second answer fits, since its contract is one equation and has no `requires`.
-- Assumes nothing.
use mathlib.Core.Path.{refl}
use Rattle.determined.specs.Determined.{Determined}
use Rattle.determined.proofs.OneEquation.{by_value, no_requires}
use Rattle.alu.proofs.multiply.multiply.Kinds as multiply_kinds
use Rattle.alu.proofs.multiply.multiply.Reads as multiply_reads
use Rattle.alu.proofs.halfwords.shift_right.Kinds as shift_right_kinds
use Rattle.alu.proofs.halfwords.shift_right.Reads as shift_right_reads
use Rattle.alu.proofs.halfwords.ones.Kinds as ones_kinds
use Rattle.alu.proofs.halfwords.ones.Reads as ones_reads
use Rattle.alu.proofs.halfwords.add_clamped.Kinds as add_clamped_kinds
use Rattle.alu.proofs.halfwords.add_clamped.Reads as add_clamped_reads
use Rattle.alu.proofs.halfwords.subtract_from_clamped.Kinds as subtract_from_clamped_kinds
use Rattle.alu.proofs.halfwords.subtract_from_clamped.Reads as subtract_from_clamped_reads
use Rattle.alu.proofs.halfwords.add_marked.Kinds as add_marked_kinds
use Rattle.alu.proofs.halfwords.add_marked.Reads as add_marked_reads
use Rattle.alu.proofs.halfwords.subtract_from_marked.Kinds as subtract_from_marked_kinds
use Rattle.alu.proofs.halfwords.subtract_from_marked.Reads as subtract_from_marked_reads
use Rattle.alu.proofs.words.add.Kinds as add_kinds
use Rattle.alu.proofs.words.add.Reads as add_reads
use Rattle.alu.proofs.words.or.Kinds as or_kinds
use Rattle.alu.proofs.words.or.Reads as or_reads
use Rattle.alu.proofs.words.broadcast.Kinds as broadcast_kinds
use Rattle.alu.proofs.words.broadcast.Reads as broadcast_reads
use Rattle.alu.proofs.words.larger.Kinds as larger_kinds
use Rattle.alu.proofs.words.larger.Reads as larger_reads
use Rattle.alu.proofs.words.smaller.Kinds as smaller_kinds
use Rattle.alu.proofs.words.smaller.Reads as smaller_reads
use Rattle.alu.proofs.words.multiply_low_halves.Kinds as multiply_low_halves_kinds
use Rattle.alu.proofs.words.multiply_low_halves.Reads as multiply_low_halves_reads
use Rattle.alu.proofs.words.multiply_low_halves_by.Kinds as multiply_low_halves_by_kinds
use Rattle.alu.proofs.words.multiply_low_halves_by.Reads as multiply_low_halves_by_reads
use Rattle.alu.proofs.words.and.Kinds as and_kinds
use Rattle.alu.proofs.words.and.Reads as and_reads
use Rattle.alu.proofs.words.leading_zeros.Kinds as leading_zeros_kinds
use Rattle.alu.proofs.words.leading_zeros.Reads as leading_zeros_reads
use Rattle.alu.proofs.words.rotate_right.Kinds as rotate_right_kinds
use Rattle.alu.proofs.words.rotate_right.Reads as rotate_right_reads
use Rattle.alu.proofs.words.subtract_from.Kinds as subtract_from_kinds
use Rattle.alu.proofs.words.subtract_from.Reads as subtract_from_reads
use Rattle.alu.proofs.li_outcome.Kinds as li_outcome_kinds
use Rattle.alu.proofs.li_outcome.Reads as li_outcome_reads
use Rattle.alu.proofs.multiply_outcome.Kinds as multiply_outcome_kinds
use Rattle.alu.proofs.multiply_outcome.Reads as multiply_outcome_reads
use Rattle.alu.proofs.short_value.Kinds as short_value_kinds
use Rattle.alu.proofs.short_value.Reads as short_value_reads
use Rattle.alu.proofs.short_outcome.Kinds as short_outcome_kinds
use Rattle.alu.proofs.short_outcome.Reads as short_outcome_reads
use Rattle.alu.proofs.result.Kinds as result_kinds
use Rattle.alu.proofs.result.Reads as result_reads

pub multiply_unique : Determined 0 multiply_kinds.ps multiply_kinds.r multiply_reads.requires multiply_reads.Post
multiply_unique = by_value (λ κs a. no_requires) (λ κs a v w. refl)

pub shift_right_unique : Determined 0 shift_right_kinds.ps shift_right_kinds.r shift_right_reads.requires shift_right_reads.Post
shift_right_unique = by_value (λ κs a. no_requires) (λ κs a v w. refl)

pub ones_unique : Determined 0 ones_kinds.ps ones_kinds.r ones_reads.requires ones_reads.Post
ones_unique = by_value (λ κs a. no_requires) (λ κs a v w. refl)

pub add_clamped_unique : Determined 0 add_clamped_kinds.ps add_clamped_kinds.r add_clamped_reads.requires add_clamped_reads.Post
add_clamped_unique = by_value (λ κs a. no_requires) (λ κs a v w. refl)

pub subtract_from_clamped_unique :
    Determined 0 subtract_from_clamped_kinds.ps subtract_from_clamped_kinds.r subtract_from_clamped_reads.requires subtract_from_clamped_reads.Post
subtract_from_clamped_unique = by_value (λ κs a. no_requires) (λ κs a v w. refl)

pub add_marked_unique : Determined 0 add_marked_kinds.ps add_marked_kinds.r add_marked_reads.requires add_marked_reads.Post
add_marked_unique = by_value (λ κs a. no_requires) (λ κs a v w. refl)

pub subtract_from_marked_unique :
    Determined 0 subtract_from_marked_kinds.ps subtract_from_marked_kinds.r subtract_from_marked_reads.requires subtract_from_marked_reads.Post
subtract_from_marked_unique = by_value (λ κs a. no_requires) (λ κs a v w. refl)

pub add_unique : Determined 0 add_kinds.ps add_kinds.r add_reads.requires add_reads.Post
add_unique = by_value (λ κs a. no_requires) (λ κs a v w. refl)

pub or_unique : Determined 0 or_kinds.ps or_kinds.r or_reads.requires or_reads.Post
or_unique = by_value (λ κs a. no_requires) (λ κs a v w. refl)

pub broadcast_unique : Determined 0 broadcast_kinds.ps broadcast_kinds.r broadcast_reads.requires broadcast_reads.Post
broadcast_unique = by_value (λ κs a. no_requires) (λ κs a v w. refl)

pub larger_unique : Determined 0 larger_kinds.ps larger_kinds.r larger_reads.requires larger_reads.Post
larger_unique = by_value (λ κs a. no_requires) (λ κs a v w. refl)

pub smaller_unique : Determined 0 smaller_kinds.ps smaller_kinds.r smaller_reads.requires smaller_reads.Post
smaller_unique = by_value (λ κs a. no_requires) (λ κs a v w. refl)

pub multiply_low_halves_unique :
    Determined 0 multiply_low_halves_kinds.ps multiply_low_halves_kinds.r multiply_low_halves_reads.requires multiply_low_halves_reads.Post
multiply_low_halves_unique = by_value (λ κs a. no_requires) (λ κs a v w. refl)

pub multiply_low_halves_by_unique :
    Determined 0 multiply_low_halves_by_kinds.ps multiply_low_halves_by_kinds.r multiply_low_halves_by_reads.requires multiply_low_halves_by_reads.Post
multiply_low_halves_by_unique = by_value (λ κs a. no_requires) (λ κs a v w. refl)

pub and_unique : Determined 0 and_kinds.ps and_kinds.r and_reads.requires and_reads.Post
and_unique = by_value (λ κs a. no_requires) (λ κs a v w. refl)

pub leading_zeros_unique : Determined 0 leading_zeros_kinds.ps leading_zeros_kinds.r leading_zeros_reads.requires leading_zeros_reads.Post
leading_zeros_unique = by_value (λ κs a. no_requires) (λ κs a v w. refl)

pub rotate_right_unique : Determined 0 rotate_right_kinds.ps rotate_right_kinds.r rotate_right_reads.requires rotate_right_reads.Post
rotate_right_unique = by_value (λ κs a. no_requires) (λ κs a v w. refl)

pub subtract_from_unique : Determined 0 subtract_from_kinds.ps subtract_from_kinds.r subtract_from_reads.requires subtract_from_reads.Post
subtract_from_unique = by_value (λ κs a. no_requires) (λ κs a v w. refl)

pub li_outcome_unique : Determined 0 li_outcome_kinds.ps li_outcome_kinds.r li_outcome_reads.requires li_outcome_reads.Post
li_outcome_unique = by_value (λ κs a. no_requires) (λ κs a v w. refl)

pub multiply_outcome_unique : Determined 0 multiply_outcome_kinds.ps multiply_outcome_kinds.r multiply_outcome_reads.requires multiply_outcome_reads.Post
multiply_outcome_unique = by_value (λ κs a. no_requires) (λ κs a v w. refl)

pub short_value_unique : Determined 0 short_value_kinds.ps short_value_kinds.r short_value_reads.requires short_value_reads.Post
short_value_unique = by_value (λ κs a. no_requires) (λ κs a v w. refl)

pub short_outcome_unique : Determined 0 short_outcome_kinds.ps short_outcome_kinds.r short_outcome_reads.requires short_outcome_reads.Post
short_outcome_unique = by_value (λ κs a. no_requires) (λ κs a v w. refl)

pub result_unique : Determined 0 result_kinds.ps result_kinds.r result_reads.requires result_reads.Post
result_unique = by_value (λ κs a. no_requires) (λ κs a v w. refl)
