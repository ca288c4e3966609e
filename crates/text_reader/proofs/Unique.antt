-- For every public function: it asks nothing and no second answer fits, since its contract is one equation and has no `requires`, and what an answer says is undone.
-- Assumes nothing.
use mathlib.Core.Path.{refl}
use Rattle.determined.specs.Determined.{Determined}
use Rattle.determined.proofs.OneEquation.{by_value, no_requires}
use Rattle.text_rules.proofs.Said.{unsaid_text}
use Rattle.text_reader.proofs.bytes_to_read.Kinds as bytes_to_read_kinds
use Rattle.text_reader.proofs.bytes_to_read.Reads as bytes_to_read_reads
use Rattle.text_reader.proofs.read_text.Kinds as read_text_kinds
use Rattle.text_reader.proofs.read_text.Reads as read_text_reads

pub bytes_to_read_unique : Determined 0 bytes_to_read_kinds.ps bytes_to_read_kinds.r bytes_to_read_reads.requires bytes_to_read_reads.Post
bytes_to_read_unique = by_value (λ κs a. no_requires) (λ κs a v w. refl)

pub read_text_unique : Determined 1 read_text_kinds.ps read_text_kinds.r read_text_reads.requires read_text_reads.Post
read_text_unique = record { asks_nothing = λ κs a. no_requires; one_answer = λ κs a x y v w p q. (unsaid_text _ x y p q, refl) }
