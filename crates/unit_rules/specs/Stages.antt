-- The stages of "One cycle" as functions on latches and single registers, and a turn of them on the registers and the program. That they are
-- those of "One cycle" is in proofs/OneCycle.antt.
-- Assumes nothing.
use Rattle.std.specs.Prelude.{ℕ, ◌+◌, ◌%◌, Bool, cond, ◌&&◌, List, eqb, ltb, get_or, set}
use Rattle.register.specs.declared.Register.{Register}
use Rattle.register.specs.Layout.{zero_register}
use Rattle.table.specs.declared.Count.{Count}
use Rattle.table.specs.declared.Edition.{Edition}
use Rattle.table.specs.declared.Pointer.{Pointer}
use Rattle.std.specs.declared.option.Option.{Option}
use Rattle.std.specs.declared.option.Option.TheVariants.{None, Some}
use Rattle.table.specs.Operation.{takes_first, takes_second, takes_third}
use Rattle.job_rules.specs.declared.Program.{Program}
use Rattle.unit_rules.specs.declared.Instruction.{Instruction}
use Rattle.unit_rules.specs.Latches.{Operands, IfId, IdEx, ExWb, Write, Sources}
use Rattle.unit_rules.specs.declared.Unit.{Unit}
use Rattle.unit_rules.specs.declared.InFlight.{InFlight}
use Rattle.unit_rules.specs.Cycle.{instruction_of, read_by, worked, count_after}

-- 1. WB: what it writes in a cycle, if anything: where and what
abbrev pub write_to : Option Pointer → Register → Write
write_to None v = None
write_to (Some p) v = Some (p, v)

abbrev pub write_of : ExWb → Write
write_of None = None
write_of (Some (i, o)) = write_to i.target o.value

-- and the registers after it
abbrev pub stored_by : Write → List Register → List Register
stored_by None f = f
stored_by (Some (at, v)) f = set f at.0 v

-- 2. EX, with what WB writes
abbrev pub newest_by : Bool → Write → Pointer → Register → Register
newest_by reads None p latched = latched
newest_by reads (Some (at, v)) p latched = cond (reads && eqb at.0 p.0) v latched

abbrev pub newest_operands_by : Write → Instruction → Operands → Operands
newest_operands_by w i o = record {
  first = newest_by (takes_first (read_by i)) w i.first o.first;
  second = newest_by (takes_second (read_by i)) w i.second o.second;
  third = newest_by (takes_third (read_by i)) w i.third o.third;
}

abbrev pub executed_by : Write → IdEx → ExWb
executed_by w None = None
executed_by w (Some (i, o)) = worked i (newest_operands_by w i o)

-- 3. ID: where it reads, what it reads there, and what it latches
abbrev pub sources_of : IfId → Sources
sources_of None = record { first = record { 0 = 0 }; second = record { 0 = 0 }; third = record { 0 = 0 } }
sources_of (Some i) = record { first = i.first; second = i.second; third = i.third }

abbrev pub read_at : Sources → List Register → Operands
read_at s f = record {
  first = get_or f s.first.0 zero_register;
  second = get_or f s.second.0 zero_register;
  third = get_or f s.third.0 zero_register;
}

abbrev pub decoded_with : IfId → Operands → IdEx
decoded_with None o = None
decoded_with (Some i) o = Some (i, o)

-- 4. IF, with the word at the count
abbrev pub delivered_of : Edition → Count → Count → ℕ → IfId
delivered_of edition n k w = cond (ltb k.0 n.0) (Some (instruction_of edition w)) None

abbrev pub next_count : Count → Count → Count
next_count n k = record { 0 = count_after n.0 k.0 }

-- what is in flight: what a cycle hands on to the next one beside the registers
abbrev pub in_flight_of : Unit → InFlight
in_flight_of u = record { count = u.count; fetched = u.fetched; decoded = u.decoded; executed = u.executed }

-- a unit so many cycles on, from its registers and what is in flight
abbrev pub unit_with : Unit → ℕ → List Register → InFlight → Unit
unit_with u c f l = record {
  program = u.program;
  count = l.count;
  cycle = u.cycle + c;
  registers = f;
  fetched = l.fetched;
  decoded = l.decoded;
  executed = l.executed;
  gone = u.gone;
}

-- all of a cycle but its write: EX, ID and IF, with what WB writes, what ID reads and the word at the count
abbrev pub advanced_of : Edition → Count → InFlight → Write → Operands → ℕ → InFlight
advanced_of edition n l w o word = record {
  count = next_count n l.count;
  fetched = delivered_of edition n l.count word;
  decoded = decoded_with l.fetched o;
  executed = executed_by w l.decoded;
}

-- one cycle of a program, but for its number: the registers after WB's write, and what is in flight afterwards; a count below 64 is its own remainder
abbrev pub turned_of : Program → List Register → InFlight → List Register × InFlight
turned_of program f l =
    let w : Write = write_of l.executed in
    let g : List Register = stored_by w f in
    (g, advanced_of program.edition program.n l w (read_at (sources_of l.fetched) g) (get_or program.words (l.count.0 % 64) 0))
