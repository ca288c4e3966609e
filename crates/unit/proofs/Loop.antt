-- The loop over cycles: its locals, put together, are the unit after so many cycles. Carried by the laws of the stages, a turn at a time.
-- Assumes nothing.
use Rattle.unit_rules.proofs.Shared.{ℕ, ◌+◌, ◌≤◌, ◌≡◌, sym, ap, ◌∙◌, List, add_assoc, add-zero}
use Rattle.unit_rules.proofs.Shared.{add-one, arith, Register, cycle_of, cycles_of, in_flight_of, unit_with, after_wb, after_id, decoded_with, read_at, sources_of}
use Rattle.unit_rules.specs.declared.Unit.{Unit}
use Rattle.unit_rules.specs.declared.InFlight.{InFlight}
use Rattle.unit_rules.specs.Stages.{turned_of}
use Rattle.unit_rules.proofs.OneCycle.{write_back, deliver, execute, decode}

-- a turn
pub turn : (u : Unit) {g : List Register} {l : InFlight} → u.program.n.0 ≤ 64 → (g, l) ≡ turned_of u.program u.registers (in_flight_of u) → unit_with u 1 g l ≡ cycle_of u
unfolding cycle_of
turn u {g = g} {l = l} few e =
    let stored : g ≡ after_wb u.executed u.registers = ap (λ (x : List Register × InFlight). x.0) e ∙ write_back u.executed u.registers in
    let read : decoded_with u.fetched (read_at (sources_of u.fetched) (after_wb u.executed u.registers)) ≡ after_id u.fetched (after_wb u.executed u.registers)
    = decode u.fetched (after_wb u.executed u.registers) in
    let after : l ≡ (turned_of u.program u.registers (in_flight_of u)).1 = ap (λ (x : List Register × InFlight). x.1) e in
    rw (after, stored, write_back u.executed u.registers, read, execute u.executed u.decoded, deliver u.program u.count few)

-- before the first turn
pub none_yet : (u : Unit) {l : InFlight} → l ≡ in_flight_of u → unit_with u 0 u.registers l ≡ cycles_of 0 u
unfolding cycles_of
none_yet u e = rw (e, add-zero u.cycle)

-- the unit after so many cycles, and one more
pub more : (i : ℕ) (u : Unit) {f g : List Register} {k l : InFlight} → unit_with u i f k ≡ cycles_of i u
    → unit_with (unit_with u i f k) 1 g l ≡ cycle_of (unit_with u i f k) → unit_with u (i + 1) g l ≡ cycles_of (i + 1) u
unfolding cycles_of
more i u {g = g} {l = l} h e =
    rw (sym (add_assoc u.cycle i 1)) e ∙ ap cycle_of h ∙ rw (add-one i)

-- after the last turn
pub all_made : (u : Unit) {i m : ℕ} {f : List Register} {l : InFlight} {v : Unit} → unit_with u i f l ≡ cycles_of i u
    → i ≤ m → m ≤ i → v ≡ unit_with u m f l → v ≡ cycles_of m u
all_made u {i = i} {m = m} h few all e = let last : i ≡ m = omega arith in e ∙ rw last at h
