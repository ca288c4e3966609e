-- For every public function: it asks nothing and no second answer fits, since its contract is one equation and has no `requires`.
-- Assumes nothing.
use mathlib.Core.Path.{refl, sym, ◌∙◌}
use Rattle.determined.specs.Determined.{Determined}
use Rattle.determined.proofs.OneEquation.{by_value, no_requires}
use Rattle.buffer.proofs.has_room.Kinds as has_room_kinds
use Rattle.buffer.proofs.has_room.Reads as has_room_reads
use Rattle.buffer.proofs.put_front.Kinds as put_front_kinds
use Rattle.buffer.proofs.put_front.Reads as put_front_reads

pub has_room_unique : Determined 0 has_room_kinds.ps has_room_kinds.r has_room_reads.requires has_room_reads.Post
has_room_unique = by_value (λ κs a. no_requires) (λ κs a v w. refl)

pub put_front_unique : Determined 2 put_front_kinds.ps put_front_kinds.r put_front_reads.requires put_front_reads.Post
put_front_unique = record { asks_nothing = λ κs a. no_requires; one_answer = λ κs a x y v w p q. (refl, λ i. ((p ∙ sym q) i, v.1)) }
