-- What is in flight where every latched value is told by the registers: what ID reads there, and what EX makes of what is read there. What a run fills count and
-- latches with. That every unit is so from a go on, and two cycles after any well-made record, is in proofs/Settled.antt.
-- Assumes nothing.
use Rattle.std.specs.Prelude.{ℕ, ◌-◌, min, ◌≡◌, List}
use Rattle.register.specs.declared.Register.{Register}
use Rattle.job_rules.specs.declared.Program.{Program}
use Rattle.std.specs.declared.option.Option.TheVariants.{None}
use Rattle.unit_rules.specs.declared.InFlight.{InFlight}
use Rattle.unit_rules.specs.declared.Unit.{Unit}
use Rattle.unit_rules.specs.Cycle.{after_ex, after_id, fetched_in}
use Rattle.unit_rules.specs.Stages.{in_flight_of}

-- at cycle c of a program, with the registers f: the latches hold what was fetched in cycles c, c-1 and c-2
abbrev pub settled_flight : Program → ℕ → List Register → InFlight
settled_flight program c f = record {
  count = record { 0 = min c program.n.0 };
  fetched = fetched_in program c;
  decoded = after_id (fetched_in program (c - 1)) f;
  executed = after_ex None (after_id (fetched_in program (c - 2)) f);
}

-- a unit in which it is so
abbrev pub Settled : Unit → Type 0
Settled u = in_flight_of u ≡ settled_flight u.program u.cycle u.registers
