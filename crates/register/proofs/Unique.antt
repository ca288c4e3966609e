-- For every public function: it asks nothing and no second answer fits, since its contract is one equation and has no `requires`.
-- Assumes nothing.
use mathlib.Core.Path.{refl}
use Rattle.determined.specs.Determined.{Determined}
use Rattle.determined.proofs.OneEquation.{by_value, no_requires}
use Rattle.register.proofs.Register.zeroed.Kinds as zeroed_kinds
use Rattle.register.proofs.Register.zeroed.Reads as zeroed_reads
use Rattle.register.proofs.Register.is_zero.Kinds as is_zero_kinds
use Rattle.register.proofs.Register.is_zero.Reads as is_zero_reads
use Rattle.register.proofs.Register.from_bytes.Kinds as from_bytes_kinds
use Rattle.register.proofs.Register.from_bytes.Reads as from_bytes_reads
use Rattle.register.proofs.Register.to_bytes.Kinds as to_bytes_kinds
use Rattle.register.proofs.Register.to_bytes.Reads as to_bytes_reads
use Rattle.register.proofs.Register.from_row.Kinds as from_row_kinds
use Rattle.register.proofs.Register.from_row.Reads as from_row_reads
use Rattle.register.proofs.Register.to_row.Kinds as to_row_kinds
use Rattle.register.proofs.Register.to_row.Reads as to_row_reads
use Rattle.register.proofs.Register.with_halfword.Kinds as with_halfword_kinds
use Rattle.register.proofs.Register.with_halfword.Reads as with_halfword_reads
use Rattle.register.proofs.bytes.word_of_bytes.Kinds as word_of_bytes_kinds
use Rattle.register.proofs.bytes.word_of_bytes.Reads as word_of_bytes_reads
use Rattle.register.proofs.bytes.RegisterFromArrayU816.from.Kinds as bytes_to_register_kinds
use Rattle.register.proofs.bytes.RegisterFromArrayU816.from.Reads as bytes_to_register_reads
use Rattle.register.proofs.bytes.ArrayU816FromRegister.from.Kinds as register_to_bytes_kinds
use Rattle.register.proofs.bytes.ArrayU816FromRegister.from.Reads as register_to_bytes_reads
use Rattle.register.proofs.rows.RegisterFromArrayU324.from.Kinds as row_to_register_kinds
use Rattle.register.proofs.rows.RegisterFromArrayU324.from.Reads as row_to_register_reads
use Rattle.register.proofs.rows.ArrayU324FromRegister.from.Kinds as register_to_row_kinds
use Rattle.register.proofs.rows.ArrayU324FromRegister.from.Reads as register_to_row_reads
use Rattle.register.proofs.halves.U32Halved.half.Kinds as half_of_word_kinds
use Rattle.register.proofs.halves.U32Halved.half.Reads as half_of_word_reads
use Rattle.register.proofs.halves.U64Halved.half.Kinds as half_of_long_kinds
use Rattle.register.proofs.halves.U64Halved.half.Reads as half_of_long_reads
use Rattle.register.proofs.halves.U32Halved.join.Kinds as join_halfwords_kinds
use Rattle.register.proofs.halves.U32Halved.join.Reads as join_halfwords_reads
use Rattle.register.proofs.halves.U64Halved.join.Kinds as join_words_kinds
use Rattle.register.proofs.halves.U64Halved.join.Reads as join_words_reads

pub zeroed_unique : Determined 0 zeroed_kinds.ps zeroed_kinds.r zeroed_reads.requires zeroed_reads.Post
zeroed_unique = by_value (λ κs a. no_requires) (λ κs a v w. refl)

pub is_zero_unique : Determined 0 is_zero_kinds.ps is_zero_kinds.r is_zero_reads.requires is_zero_reads.Post
is_zero_unique = by_value (λ κs a. no_requires) (λ κs a v w. refl)

pub from_bytes_unique : Determined 0 from_bytes_kinds.ps from_bytes_kinds.r from_bytes_reads.requires from_bytes_reads.Post
from_bytes_unique = by_value (λ κs a. no_requires) (λ κs a v w. refl)

pub to_bytes_unique : Determined 0 to_bytes_kinds.ps to_bytes_kinds.r to_bytes_reads.requires to_bytes_reads.Post
to_bytes_unique = by_value (λ κs a. no_requires) (λ κs a v w. refl)

pub from_row_unique : Determined 0 from_row_kinds.ps from_row_kinds.r from_row_reads.requires from_row_reads.Post
from_row_unique = by_value (λ κs a. no_requires) (λ κs a v w. refl)

pub to_row_unique : Determined 0 to_row_kinds.ps to_row_kinds.r to_row_reads.requires to_row_reads.Post
to_row_unique = by_value (λ κs a. no_requires) (λ κs a v w. refl)

pub with_halfword_unique : Determined 0 with_halfword_kinds.ps with_halfword_kinds.r with_halfword_reads.requires with_halfword_reads.Post
with_halfword_unique = by_value (λ κs a. no_requires) (λ κs a v w. refl)

pub word_of_bytes_unique : Determined 0 word_of_bytes_kinds.ps word_of_bytes_kinds.r word_of_bytes_reads.requires word_of_bytes_reads.Post
word_of_bytes_unique = by_value (λ κs a. no_requires) (λ κs a v w. refl)

pub half_of_word_unique : Determined 0 half_of_word_kinds.ps half_of_word_kinds.r half_of_word_reads.requires half_of_word_reads.Post
half_of_word_unique = by_value (λ κs a. no_requires) (λ κs a v w. refl)

pub half_of_long_unique : Determined 0 half_of_long_kinds.ps half_of_long_kinds.r half_of_long_reads.requires half_of_long_reads.Post
half_of_long_unique = by_value (λ κs a. no_requires) (λ κs a v w. refl)

pub join_halfwords_unique : Determined 0 join_halfwords_kinds.ps join_halfwords_kinds.r join_halfwords_reads.requires join_halfwords_reads.Post
join_halfwords_unique = by_value (λ κs a. no_requires) (λ κs a v w. refl)

pub join_words_unique : Determined 0 join_words_kinds.ps join_words_kinds.r join_words_reads.requires join_words_reads.Post
join_words_unique = by_value (λ κs a. no_requires) (λ κs a v w. refl)

-- conversions, by `From`
pub bytes_to_register_unique : Determined 0 bytes_to_register_kinds.ps bytes_to_register_kinds.r bytes_to_register_reads.requires bytes_to_register_reads.Post
bytes_to_register_unique = by_value (λ κs a. no_requires) (λ κs a v w. refl)

pub register_to_bytes_unique : Determined 0 register_to_bytes_kinds.ps register_to_bytes_kinds.r register_to_bytes_reads.requires register_to_bytes_reads.Post
register_to_bytes_unique = by_value (λ κs a. no_requires) (λ κs a v w. refl)

pub row_to_register_unique : Determined 0 row_to_register_kinds.ps row_to_register_kinds.r row_to_register_reads.requires row_to_register_reads.Post
row_to_register_unique = by_value (λ κs a. no_requires) (λ κs a v w. refl)

pub register_to_row_unique : Determined 0 register_to_row_kinds.ps register_to_row_kinds.r register_to_row_reads.requires register_to_row_reads.Post
register_to_row_unique = by_value (λ κs a. no_requires) (λ κs a v w. refl)
