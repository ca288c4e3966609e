-- The unit as a pipeline, cycle by cycle. Carried by `outcome_gated`: an operand that the table says is not read has no effect, so it does not matter that nothing
-- is forwarded to it.
-- Assumes nothing.
use Rattle.unit_rules.proofs.Shared.{ℕ, zero, suc, ◌+◌, ◌≤◌, ◌<◌, ◌≡◌, refl, sym, ap, ◌∙◌, Bool, true, false, cond, ◌&&◌, List}
use Rattle.unit_rules.proofs.Shared.{arith, eqb-true, eqb-false, eqb, ltb, get_or, set, length-set}
use Rattle.unit_rules.proofs.Shared.{get_or-set_same, get_or-set_other, Register, zero_register}
use Rattle.unit_rules.proofs.Shared.{Pointer, Option, None, Some, operation_of, reads_of, takes_first, takes_second}
use Rattle.unit_rules.proofs.Shared.{takes_third, target_of, stored, IfId, Edition}
use Rattle.unit_rules.proofs.Shared.{IdEx, ExWb, Program, Unit, instruction_at, fetched_in, given, after_wb, is_target, newest_operands, operands_in}
use Rattle.unit_rules.proofs.Shared.{after_ex, after_id, after_if, cycle_of, cycles_of, in_flight_of, Whole}
use Rattle.alu_rules.specs.declared.Outcome.{Outcome}
use Rattle.alu_rules.specs.Result.{outcome_of}
use Rattle.alu_rules.proofs.Rows.{gate, outcome_gated}
use Rattle.table.proofs.Theorems.{each_target}
use Rattle.pipeline.proofs.Stages.{Slot, Stages, Latched, Pipe, Lawful, GoodIn, through_wb, through_ex, through_id, cycled, cycled_all}
use Rattle.pipeline.proofs.Stages.Slot.{empty, holds}
use Rattle.unit_rules.specs.Latches.{Operands}
use Rattle.unit_rules.specs.declared.Instruction.{Instruction}
use Rattle.unit_rules.specs.declared.InFlight.{InFlight}
use Rattle.unit_rules.proofs.Positions.{Placed, placed_cycles, fetch_min, cycles_program, cycles_number}

-- ---- the unit's stages, on instructions

abbrev pub machine : Stages
machine = record {
  Instr = Instruction;
  Ops = Operands;
  Out = Outcome;
  File = List Register;
  read = operands_in;
  forward = λ j o i latched. newest_operands (Some (j, o)) i latched;
  work = given;
  commit = λ j o f. stored j.target o.value f;
}

-- a target that is none, or one of the 32 registers
abbrev pub InFile : Option Pointer → Type 0
InFile None = 0 ≤ 32
InFile (Some d) = d.0 < 32

abbrev pub Storable : Instruction → Type 0
Storable i = InFile i.target

pub target_in_file : (edition : Edition) (w : ℕ) → InFile (target_of edition w)
target_in_file edition w = each_target InFile edition w (omega arith) (λ _. omega arith)

-- one operand: where it is read, the newest is what stands in the file after the write
newest_is : (reads : Bool) (t : Option Pointer) (p : Pointer) (v : Register) (f : List Register) → InFile t → Whole f
    → gate reads (cond (reads && is_target t p) v (get_or f p.0 zero_register)) ≡ gate reads (get_or (stored t v f) p.0 zero_register)
newest_is false t p v f h k = refl
newest_is true None p v f h k = refl
newest_is true (Some d) p v f h k = go (eqb d.0 p.0) refl
  where
    go : (t : Bool) → eqb d.0 p.0 ≡ t → cond t v (get_or f p.0 zero_register) ≡ get_or (set f d.0 v) p.0 zero_register
    go true q = rw (← (eqb-true d.0 p.0 q)) (sym (get_or-set_same f d.0 v zero_register (omega arith)))
    go false q = sym (get_or-set_other f d.0 p.0 v zero_register (λ z. eqb-false d.0 p.0 q (sym z)))

forwarded : (j i : Instruction) (o : Outcome) (f : List Register) → Storable j → Whole f
    → given i (newest_operands (Some (j, o)) i (operands_in i f)) ≡ given i (operands_in i (stored j.target o.value f))
forwarded j i o f h k =
    let w = i.word in
    let r = reads_of (operation_of w) in
    let t = j.target in
    let v = o.value in
    outcome_gated w _ _ _
    ∙ (λ x. outcome_of w
    (newest_is (takes_first r) t i.first v f h k x)
    (newest_is (takes_second r) t i.second v f h k x)
    (newest_is (takes_third r) t i.third v f h k x))
    ∙ sym (outcome_gated w _ _ _)

pub stored_whole : (t : Option Pointer) (v : Register) (f : List Register) → Whole f → Whole (stored t v f)
stored_whole None v f k = k
stored_whole (Some d) v f k = length-set f d.0 v ∙ k

pub lawful : Lawful machine Storable Whole
lawful = record { keeps = λ j o f k. stored_whole j.target o.value f k; forwards = forwarded }

-- ---- the unit's latches and the pipeline's

abbrev pub slot_of : IfId → Slot Instruction
slot_of None = empty
slot_of (Some i) = holds i

abbrev pub slot_of_id_ex : IdEx → Slot (Latched Instruction Operands)
slot_of_id_ex None = empty
slot_of_id_ex (Some (i, o)) = holds (record { instr = i; rest = o })

abbrev pub slot_of_ex_wb : ExWb → Slot (Latched Instruction Outcome)
slot_of_ex_wb None = empty
slot_of_ex_wb (Some (i, o)) = holds (record { instr = i; rest = o })

-- registers and what is in flight, as a pipeline
abbrev pub pipe_with : List Register → InFlight → Pipe machine
pipe_with f l = record { file = f; ifid = slot_of l.fetched; idex = slot_of_id_ex l.decoded; exwb = slot_of_ex_wb l.executed }

abbrev pub pipe_of : Unit → Pipe machine
pipe_of u = pipe_with u.registers (in_flight_of u)

-- and back: nothing of the latches is lost
abbrev if_id_of : Slot Instruction → IfId
if_id_of empty = None
if_id_of (holds i) = Some i

abbrev id_ex_of : Slot (Latched Instruction Operands) → IdEx
id_ex_of empty = None
id_ex_of (holds x) = Some (x.instr, x.rest)

abbrev ex_wb_of : Slot (Latched Instruction Outcome) → ExWb
ex_wb_of empty = None
ex_wb_of (holds x) = Some (x.instr, x.rest)

if_id_back : (z : IfId) → if_id_of (slot_of z) ≡ z
if_id_back None = refl
if_id_back (Some i) = refl

id_ex_back : (y : IdEx) → id_ex_of (slot_of_id_ex y) ≡ y
id_ex_back None = refl
id_ex_back (Some (i, o)) = refl

ex_wb_back : (x : ExWb) → ex_wb_of (slot_of_ex_wb x) ≡ x
ex_wb_back None = refl
ex_wb_back (Some (i, o)) = refl

pub same_flight : (k l : InFlight) (f g : List Register) → k.count.0 ≡ l.count.0 → pipe_with f k ≡ pipe_with g l → k ≡ l
same_flight k l f g count pipe =
    let fetched = sym (if_id_back k.fetched) ∙ ap (λ (s : Pipe machine). if_id_of s.ifid) pipe ∙ if_id_back l.fetched in
    let decoded = sym (id_ex_back k.decoded) ∙ ap (λ (s : Pipe machine). id_ex_of s.idex) pipe ∙ id_ex_back l.decoded in
    let executed = sym (ex_wb_back k.executed) ∙ ap (λ (s : Pipe machine). ex_wb_of s.exwb) pipe ∙ ex_wb_back l.executed in
    λ i. record { count = record { 0 = count i }; fetched = fetched i; decoded = decoded i; executed = executed i }

-- ---- a cycle

as_wb : (x : ExWb) (f : List Register) → after_wb x f ≡ through_wb machine (slot_of_ex_wb x) f
as_wb None f = refl
as_wb (Some (i, o)) f = refl

pub as_id : (z : IfId) (f : List Register) → slot_of_id_ex (after_id z f) ≡ through_id machine (slot_of z) f
as_id None f = refl
as_id (Some i) f = refl

as_ex : (x : ExWb) (y : IdEx) → slot_of_ex_wb (after_ex x y) ≡ through_ex machine (slot_of_ex_wb x) (slot_of_id_ex y)
as_ex x None = refl
as_ex None (Some (i, o)) = refl
as_ex (Some (j, v)) (Some (i, o)) = refl

cycle_piped : (u : Unit) → pipe_of (cycle_of u) ≡ cycled machine (slot_of (after_if u.program u.count.0)) (pipe_of u)
unfolding cycle_of
cycle_piped u =
    let written = as_wb u.executed u.registers in
    let read = as_id u.fetched (after_wb u.executed u.registers) ∙ ap (through_id machine (slot_of u.fetched)) written in
    let worked = as_ex u.executed u.decoded in
    λ i. record { file = written i; ifid = slot_of (after_if u.program u.count.0); idex = read i; exwb = worked i }

-- what IF delivers from cycle c + 1 on
abbrev pub stream : Program → ℕ → ℕ → Slot Instruction
stream p c k = slot_of (fetched_in p (suc (c + k)))

-- so many cycles of a unit whose count and latches are where its cycle number puts them
pub cycles_piped : (u : Unit) → Placed u → (t : ℕ) → pipe_of (cycles_of t u) ≡ cycled_all machine (stream u.program u.cycle) t (pipe_of u)
unfolding cycles_of
cycles_piped u h zero = refl
cycles_piped u h (suc t) =
    let v = cycles_of t u in
    let p = placed_cycles t u h in
    let delivered : after_if v.program v.count.0 ≡ fetched_in u.program (suc (u.cycle + t))
    = ap (after_if v.program) p.counted ∙ fetch_min v.program v.cycle ∙ (λ i. fetched_in (cycles_program t u i) (suc (cycles_number t u i))) in
    cycle_piped v ∙ (λ i. cycled machine (slot_of (delivered i)) (cycles_piped u h t i))

-- every line of a program can be stored
pub good_fetched : (p : Program) (c : ℕ) → GoodIn machine Storable (slot_of (fetched_in p c))
good_fetched p zero = tt
good_fetched p (suc k) = go (ltb k p.n.0)
  where
    go : (t : Bool) → GoodIn machine Storable (slot_of (cond t (Some (instruction_at p k)) None))
    go true = target_in_file _ (get_or p.words k 0)
    go false = tt
