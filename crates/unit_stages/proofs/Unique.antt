-- For every public function: it asks nothing and no second answer fits, since its contract is one equation and has no `requires`.
-- Assumes nothing.
use mathlib.Core.Path.{refl, sym, ap, ◌∙◌}
use mathlib.Core.List.{List}
use Rattle.register.specs.declared.Register.{Register}
use Rattle.unit_rules.specs.declared.InFlight.{InFlight}
use Rattle.unit_stages.proofs.decode.read_at.Kinds as read_at_kinds
use Rattle.unit_stages.proofs.decode.read_at.Reads as read_at_reads
use Rattle.unit_stages.proofs.write_back.store.Kinds as store_kinds
use Rattle.unit_stages.proofs.write_back.store.Reads as store_reads
use Rattle.unit_stages.proofs.turn.Kinds as turn_kinds
use Rattle.unit_stages.proofs.turn.Reads as turn_reads
use Rattle.determined.specs.Determined.{Determined}
use Rattle.determined.proofs.OneEquation.{by_value, no_requires}
use Rattle.unit_stages.proofs.fetch.delivered.Kinds as delivered_kinds
use Rattle.unit_stages.proofs.fetch.delivered.Reads as delivered_reads
use Rattle.unit_stages.proofs.fetch.next_count.Kinds as next_count_kinds
use Rattle.unit_stages.proofs.fetch.next_count.Reads as next_count_reads
use Rattle.unit_stages.proofs.write_back.written.Kinds as written_kinds
use Rattle.unit_stages.proofs.write_back.written.Reads as written_reads
use Rattle.unit_stages.proofs.forward.takes_first.Kinds as takes_first_kinds
use Rattle.unit_stages.proofs.forward.takes_first.Reads as takes_first_reads
use Rattle.unit_stages.proofs.forward.takes_second.Kinds as takes_second_kinds
use Rattle.unit_stages.proofs.forward.takes_second.Reads as takes_second_reads
use Rattle.unit_stages.proofs.forward.takes_third.Kinds as takes_third_kinds
use Rattle.unit_stages.proofs.forward.takes_third.Reads as takes_third_reads
use Rattle.unit_stages.proofs.forward.newest_operands.Kinds as newest_operands_kinds
use Rattle.unit_stages.proofs.forward.newest_operands.Reads as newest_operands_reads
use Rattle.unit_stages.proofs.execute.executed.Kinds as executed_kinds
use Rattle.unit_stages.proofs.execute.executed.Reads as executed_reads
use Rattle.unit_stages.proofs.decode.read_from.Kinds as read_from_kinds
use Rattle.unit_stages.proofs.decode.read_from.Reads as read_from_reads
use Rattle.unit_stages.proofs.decode.decoded.Kinds as decoded_kinds
use Rattle.unit_stages.proofs.decode.decoded.Reads as decoded_reads
use Rattle.unit_stages.proofs.in_flight.Kinds as in_flight_kinds
use Rattle.unit_stages.proofs.in_flight.Reads as in_flight_reads
use Rattle.unit_stages.proofs.advanced.Kinds as advanced_kinds
use Rattle.unit_stages.proofs.advanced.Reads as advanced_reads

pub delivered_unique : Determined 0 delivered_kinds.ps delivered_kinds.r delivered_reads.requires delivered_reads.Post
delivered_unique = by_value (λ κs a. no_requires) (λ κs a v w. refl)

pub next_count_unique : Determined 0 next_count_kinds.ps next_count_kinds.r next_count_reads.requires next_count_reads.Post
next_count_unique = by_value (λ κs a. no_requires) (λ κs a v w. refl)

pub written_unique : Determined 0 written_kinds.ps written_kinds.r written_reads.requires written_reads.Post
written_unique = by_value (λ κs a. no_requires) (λ κs a v w. refl)

pub takes_first_unique : Determined 0 takes_first_kinds.ps takes_first_kinds.r takes_first_reads.requires takes_first_reads.Post
takes_first_unique = by_value (λ κs a. no_requires) (λ κs a v w. refl)

pub takes_second_unique : Determined 0 takes_second_kinds.ps takes_second_kinds.r takes_second_reads.requires takes_second_reads.Post
takes_second_unique = by_value (λ κs a. no_requires) (λ κs a v w. refl)

pub takes_third_unique : Determined 0 takes_third_kinds.ps takes_third_kinds.r takes_third_reads.requires takes_third_reads.Post
takes_third_unique = by_value (λ κs a. no_requires) (λ κs a v w. refl)

pub newest_operands_unique : Determined 0 newest_operands_kinds.ps newest_operands_kinds.r newest_operands_reads.requires newest_operands_reads.Post
newest_operands_unique = by_value (λ κs a. no_requires) (λ κs a v w. refl)

pub executed_unique : Determined 0 executed_kinds.ps executed_kinds.r executed_reads.requires executed_reads.Post
executed_unique = by_value (λ κs a. no_requires) (λ κs a v w. refl)

pub read_from_unique : Determined 0 read_from_kinds.ps read_from_kinds.r read_from_reads.requires read_from_reads.Post
read_from_unique = by_value (λ κs a. no_requires) (λ κs a v w. refl)

pub decoded_unique : Determined 0 decoded_kinds.ps decoded_kinds.r decoded_reads.requires decoded_reads.Post
decoded_unique = by_value (λ κs a. no_requires) (λ κs a v w. refl)

pub in_flight_unique : Determined 0 in_flight_kinds.ps in_flight_kinds.r in_flight_reads.requires in_flight_reads.Post
in_flight_unique = by_value (λ κs a. no_requires) (λ κs a v w. refl)

pub advanced_unique : Determined 0 advanced_kinds.ps advanced_kinds.r advanced_reads.requires advanced_reads.Post
advanced_unique = by_value (λ κs a. no_requires) (λ κs a v w. refl)

pub read_at_unique : Determined 1 read_at_kinds.ps read_at_kinds.r read_at_reads.requires read_at_reads.Post
read_at_unique = by_value (λ κs a. no_requires) (λ κs a v w. refl)

pub store_unique : Determined 1 store_kinds.ps store_kinds.r store_reads.requires store_reads.Post
store_unique = record { asks_nothing = λ κs a. no_requires; one_answer = λ κs a x y v w p q. (refl, λ i. ((p ∙ sym q) i, v.1)) }

pub turn_unique : Determined 2 turn_kinds.ps turn_kinds.r turn_reads.requires turn_reads.Post
turn_unique = record {
  asks_nothing = λ κs a. no_requires;
  one_answer = λ κs a x y v w p q.
      let same = p ∙ sym q in
      (ap (λ (z : List Register × InFlight). z.1) same, λ i. (v.0, ((ap (λ (z : List Register × InFlight). z.0) same) i, v.1.1)));
}
