-- For every public function: it asks nothing and no second answer fits, since its contract has an equation for the whole answer and no `requires`.
-- Assumes nothing.
use mathlib.Core.Path.{refl}
use Rattle.determined.specs.Determined.{Determined}
use Rattle.determined.proofs.OneEquation.{bounded, by_value, no_requires}
use Rattle.table.proofs.fields.is_li.Kinds as is_li_kinds
use Rattle.table.proofs.fields.is_li.Reads as is_li_reads
use Rattle.table.proofs.fields.is_multiply.Kinds as is_multiply_kinds
use Rattle.table.proofs.fields.is_multiply.Reads as is_multiply_reads
use Rattle.table.proofs.fields.is_long.Kinds as is_long_kinds
use Rattle.table.proofs.fields.is_long.Reads as is_long_reads
use Rattle.table.proofs.fields.is_subtract.Kinds as is_subtract_kinds
use Rattle.table.proofs.fields.is_subtract.Reads as is_subtract_reads
use Rattle.table.proofs.fields.is_high.Kinds as is_high_kinds
use Rattle.table.proofs.fields.is_high.Reads as is_high_reads
use Rattle.table.proofs.fields.immediate.Kinds as immediate_kinds
use Rattle.table.proofs.fields.immediate.Reads as immediate_reads
use Rattle.table.proofs.fields.index.Kinds as index_kinds
use Rattle.table.proofs.fields.index.Reads as index_reads
use Rattle.table.proofs.fields.code.Kinds as code_kinds
use Rattle.table.proofs.fields.code.Reads as code_reads
use Rattle.table.proofs.fields.constant.Kinds as constant_kinds
use Rattle.table.proofs.fields.constant.Reads as constant_reads
use Rattle.table.proofs.fields.rd.Kinds as rd_kinds
use Rattle.table.proofs.fields.rd.Reads as rd_reads
use Rattle.table.proofs.fields.rs1.Kinds as rs1_kinds
use Rattle.table.proofs.fields.rs1.Reads as rs1_reads
use Rattle.table.proofs.fields.rs2.Kinds as rs2_kinds
use Rattle.table.proofs.fields.rs2.Reads as rs2_reads
use Rattle.table.proofs.fields.rs3.Kinds as rs3_kinds
use Rattle.table.proofs.fields.rs3.Reads as rs3_reads
use Rattle.table.proofs.fields.first.Kinds as first_kinds
use Rattle.table.proofs.fields.first.Reads as first_reads
use Rattle.table.proofs.operands.reads.Kinds as reads_kinds
use Rattle.table.proofs.operands.reads.Reads as reads_reads
use Rattle.table.proofs.writes.is_nop.Kinds as is_nop_kinds
use Rattle.table.proofs.writes.is_nop.Reads as is_nop_reads
use Rattle.table.proofs.writes.is_wired.Kinds as is_wired_kinds
use Rattle.table.proofs.writes.is_wired.Reads as is_wired_reads
use Rattle.table.proofs.writes.target_of.Kinds as target_of_kinds
use Rattle.table.proofs.writes.target_of.Reads as target_of_reads
use Rattle.table.proofs.refusal.Refusal.number.Kinds as number_kinds
use Rattle.table.proofs.refusal.Refusal.number.Reads as number_reads
use Rattle.table.proofs.refusal.Refusal.place.Kinds as place_kinds
use Rattle.table.proofs.refusal.Refusal.place.Reads as place_reads
use Rattle.table.proofs.refusal.first_bad.Kinds as first_bad_kinds
use Rattle.table.proofs.refusal.first_bad.Reads as first_bad_reads

pub is_li_unique : Determined 0 is_li_kinds.ps is_li_kinds.r is_li_reads.requires is_li_reads.Post
is_li_unique = by_value (λ κs a. no_requires) (λ κs a v w. refl)

pub is_multiply_unique : Determined 0 is_multiply_kinds.ps is_multiply_kinds.r is_multiply_reads.requires is_multiply_reads.Post
is_multiply_unique = by_value (λ κs a. no_requires) (λ κs a v w. refl)

pub is_long_unique : Determined 0 is_long_kinds.ps is_long_kinds.r is_long_reads.requires is_long_reads.Post
is_long_unique = by_value (λ κs a. no_requires) (λ κs a v w. refl)

pub is_subtract_unique : Determined 0 is_subtract_kinds.ps is_subtract_kinds.r is_subtract_reads.requires is_subtract_reads.Post
is_subtract_unique = by_value (λ κs a. no_requires) (λ κs a v w. refl)

pub is_high_unique : Determined 0 is_high_kinds.ps is_high_kinds.r is_high_reads.requires is_high_reads.Post
is_high_unique = by_value (λ κs a. no_requires) (λ κs a v w. refl)

pub immediate_unique : Determined 0 immediate_kinds.ps immediate_kinds.r immediate_reads.requires immediate_reads.Post
immediate_unique = by_value (λ κs a. no_requires) (λ κs a v w. refl)

-- ---- fields with a bound beside the equation

pub index_unique : Determined 0 index_kinds.ps index_kinds.r index_reads.requires index_reads.Post
index_unique = bounded (λ κs a. no_requires) (λ κs a v w. refl)

pub code_unique : Determined 0 code_kinds.ps code_kinds.r code_reads.requires code_reads.Post
code_unique = bounded (λ κs a. no_requires) (λ κs a v w. refl)

pub constant_unique : Determined 0 constant_kinds.ps constant_kinds.r constant_reads.requires constant_reads.Post
constant_unique = bounded (λ κs a. no_requires) (λ κs a v w. refl)

pub rd_unique : Determined 0 rd_kinds.ps rd_kinds.r rd_reads.requires rd_reads.Post
rd_unique = bounded (λ κs a. no_requires) (λ κs a v w. refl)

pub rs1_unique : Determined 0 rs1_kinds.ps rs1_kinds.r rs1_reads.requires rs1_reads.Post
rs1_unique = bounded (λ κs a. no_requires) (λ κs a v w. refl)

pub rs2_unique : Determined 0 rs2_kinds.ps rs2_kinds.r rs2_reads.requires rs2_reads.Post
rs2_unique = bounded (λ κs a. no_requires) (λ κs a v w. refl)

pub rs3_unique : Determined 0 rs3_kinds.ps rs3_kinds.r rs3_reads.requires rs3_reads.Post
rs3_unique = bounded (λ κs a. no_requires) (λ κs a v w. refl)

pub first_unique : Determined 0 first_kinds.ps first_kinds.r first_reads.requires first_reads.Post
first_unique = bounded (λ κs a. no_requires) (λ κs a v w. refl)

-- ---- whole words

pub reads_unique : Determined 0 reads_kinds.ps reads_kinds.r reads_reads.requires reads_reads.Post
reads_unique = by_value (λ κs a. no_requires) (λ κs a v w. refl)

pub is_nop_unique : Determined 0 is_nop_kinds.ps is_nop_kinds.r is_nop_reads.requires is_nop_reads.Post
is_nop_unique = by_value (λ κs a. no_requires) (λ κs a v w. refl)

pub is_wired_unique : Determined 0 is_wired_kinds.ps is_wired_kinds.r is_wired_reads.requires is_wired_reads.Post
is_wired_unique = by_value (λ κs a. no_requires) (λ κs a v w. refl)

pub target_of_unique : Determined 0 target_of_kinds.ps target_of_kinds.r target_of_reads.requires target_of_reads.Post
target_of_unique = by_value (λ κs a. no_requires) (λ κs a v w. refl)

pub first_bad_unique : Determined 1 first_bad_kinds.ps first_bad_kinds.r first_bad_reads.requires first_bad_reads.Post
first_bad_unique = by_value (λ κs a. no_requires) (λ κs a v w. refl)

pub number_unique : Determined 0 number_kinds.ps number_kinds.r number_reads.requires number_reads.Post
number_unique = by_value (λ κs a. no_requires) (λ κs a v w. refl)

pub place_unique : Determined 0 place_kinds.ps place_kinds.r place_reads.requires place_reads.Post
place_unique = by_value (λ κs a. no_requires) (λ κs a v w. refl)
