-- The unit in each edition. In the second register 0 is zero after every call, a write to it is dropped and not forwarded, and every read of it gives zero; the first is
-- untouched. Carried by the laws of `Wired`, and by demand 3, which tells the latched values.
-- Assumes nothing.
use Rattle.unit_rules.proofs.Shared.{None, Some, ℕ, ◌-◌, ◌≤◌, ◌≡◌, refl, sym, ap, ◌∙◌, Bool, true, false, false≢true, List, get_or, Register, zero_register, Edition, One, Two, Pointer}
use Rattle.unit_rules.proofs.Shared.{rd_of, first_of, is_li, cleared_for, plain, take, Program, lines_of, unit_with, IfId, IdEx, Unit, instruction_of, fetched_in, after_wb, newest, newest_operands, operands_in}
use Rattle.unit_rules.proofs.Shared.{after_id, last_of, well_made_of, fresh_of, go_of, registers_set, registers_loaded, Job, Whole, after_calls, Call, unit_after, unit_after_all}
use Rattle.job_rules.proofs.Theorems.{held_zero}
use Rattle.unit_rules.specs.declared.Instruction.{Instruction}
use Rattle.unit_rules.specs.Latches.{Operands}
use Rattle.unit_rules.specs.Settled.{settled_flight}
use Rattle.unit_rules.proofs.Wired.{newest_of_0, left_by_wb}
use Rattle.unit_rules.proofs.WellMade.{well_made_says}
use Rattle.unit_rules.proofs.Theorems.{go_keeps, kept_well_made, reached_well_made}
use Rattle.unit_rules.proofs.Demand3.{demand3_unit, demand3_well_made}

-- ---- the first edition

-- "Edition 1, which a fresh unit has": and what it clears and asks of a record is document 01's
pub edition_1_fresh : fresh_of.program.edition ≡ One
edition_1_fresh = refl

pub edition_1_loads : (j : Job) (f : List Register) → j.program.edition ≡ One → registers_loaded j f ≡ registers_set j.r j.registers f
edition_1_loads j f first = ap (λ (e : Edition). cleared_for e zero_register (registers_set j.r j.registers f)) first

-- registers are not among what makes a record well made
pub edition_1_registers : (u v : Unit) → u.program.edition ≡ One
    → u.program ≡ v.program → u.count ≡ v.count → u.cycle ≡ v.cycle → u.fetched ≡ v.fetched → u.decoded ≡ v.decoded → u.executed ≡ v.executed → u.gone ≡ v.gone
    → well_made_of u ≡ well_made_of v
unfolding well_made_of
edition_1_registers u v first program count cycle fetched decoded executed gone = rw (sym program, sym count, sym cycle, sym fetched, sym decoded, sym executed, sym gone, first)

-- ---- the second: register 0 is zero

module _ (u : Unit) (made : well_made_of u ≡ true) (second : u.program.edition ≡ Two) where
  pub register_0_zero : get_or u.registers 0 zero_register ≡ zero_register
  register_0_zero = held_zero u.program.edition _ second (well_made_says u made).held

  -- "a write to it is dropped": in every well-made record, whatever is latched
  pub write_dropped : get_or (after_wb u.executed u.registers) 0 zero_register ≡ zero_register
  write_dropped = left_by_wb u.program second (u.cycle - 2) u.executed (well_made_says u made).placed.in_ex_wb u.registers ∙ register_0_zero

  -- "is not forwarded": where an operand is register 0, EX takes what is latched
  pub not_forwarded : (reads : Bool) (p : Pointer) → p.0 ≡ 0 → (latched : Register) → newest u.executed reads p latched ≡ latched
  not_forwarded reads p zeroth latched = newest_of_0 u.program second (u.cycle - 2) u.executed (well_made_says u made).placed.in_ex_wb reads p zeroth latched

  -- and what ID reads for it is zero
  pub read_by_id : (i : Instruction)
      → (i.first.0 ≡ 0 → (operands_in i (after_wb u.executed u.registers)).first ≡ zero_register)
      × (i.second.0 ≡ 0 → (operands_in i (after_wb u.executed u.registers)).second ≡ zero_register)
      × (i.third.0 ≡ 0 → (operands_in i (after_wb u.executed u.registers)).third ≡ zero_register)
  read_by_id i = (at, at, at)
    where
      at : {k : ℕ} → k ≡ 0 → get_or (after_wb u.executed u.registers) k zero_register ≡ zero_register
      at zeroth = ap (λ (j : ℕ). get_or (after_wb u.executed u.registers) j zero_register) zeroth ∙ write_dropped

-- after every call on a well-made unit, and so after any calls on a fresh one
pub zero_after_every_call : (x : Call) (u : Unit) → well_made_of u ≡ true → (unit_after x u).program.edition ≡ Two
    → get_or (unit_after x u).registers 0 zero_register ≡ zero_register
zero_after_every_call x u made second = register_0_zero (unit_after x u) (kept_well_made x u made) second

pub zero_after_all_calls : (calls : List Call) → (unit_after_all calls fresh_of).program.edition ≡ Two
    → get_or (unit_after_all calls fresh_of).registers 0 zero_register ≡ zero_register
zero_after_all_calls calls second = register_0_zero (unit_after_all calls fresh_of) (reached_well_made calls) second

-- ---- every read of it gives zero

-- what ID latched, of a latch that it filled from these registers
latched_is : (z : IfId) (f : List Register) (i : Instruction) (o : Operands) → after_id z f ≡ Some (i, o) → o ≡ operands_in i f
latched_is None f i o e = absurd (false≢true (sym (ap filled e)))
  where
    filled : IdEx → Bool
    filled None = true
    filled (Some (j, x)) = false
latched_is (Some j) f i o e = sym (ap operands e) ∙ ap (λ (k : Instruction). operands_in k f) (ap instruction e)
  where
    operands : IdEx → Operands
    operands None = o
    operands (Some (k, x)) = x

    instruction : IdEx → Instruction
    instruction None = i
    instruction (Some (k, x)) = k

-- the operands that EX works with, of a unit with this instruction and these values in ID/EX
abbrev pub working : Unit → Instruction → Operands → Operands
working v i latched = newest_operands v.executed i latched

-- From a go on, after c cycles: whatever is in EX, each operand that is register 0 is zero.
pub reads_zero : (u : Unit) → Whole u.registers → well_made_of u ≡ true → u.program.edition ≡ Two → (c : ℕ) → c ≤ last_of u.program.n.0
    → (let v = after_calls c (go_of u).unit in
    (i : Instruction) (o : Operands) → v.decoded ≡ Some (i, o)
    → (i.first.0 ≡ 0 → (working v i o).first ≡ zero_register) × (i.second.0 ≡ 0 → (working v i o).second ≡ zero_register) × (i.third.0 ≡ 0 → (working v i o).third ≡ zero_register))
reads_zero u whole made second c h i o e = (zeroed _ i.first o.first first, zeroed _ i.second o.second second_read, zeroed _ i.third o.third third)
  where
    v : Unit
    v = after_calls c (go_of u).unit

    is : (let g = plain u.program.edition (take (c - 3) (lines_of u.program)) u.registers in v ≡ unit_with (go_of u).unit c g (settled_flight u.program c g))
    is = demand3_unit u whole made c h

    v_made : well_made_of v ≡ true
    v_made = demand3_well_made u whole made c h

    v_second : v.program.edition ≡ Two
    v_second = ap (λ (x : Unit). x.program.edition) is ∙ ap (λ (p : Program). p.edition) (go_keeps u).1 ∙ second

    latched : o ≡ operands_in i v.registers
    latched = latched_is (fetched_in u.program (c - 1)) v.registers i o
        (ap (λ (x : Unit). after_id (fetched_in u.program (c - 1)) x.registers) is ∙ sym (ap (λ (x : Unit). x.decoded) is) ∙ e)

    first : o.first ≡ get_or v.registers i.first.0 zero_register
    first = ap (λ (x : Operands). x.first) latched

    second_read : o.second ≡ get_or v.registers i.second.0 zero_register
    second_read = ap (λ (x : Operands). x.second) latched

    third : o.third ≡ get_or v.registers i.third.0 zero_register
    third = ap (λ (x : Operands). x.third) latched

    zeroed : (reads : Bool) (p : Pointer) (r : Register) → r ≡ get_or v.registers p.0 zero_register → p.0 ≡ 0 → newest v.executed reads p r ≡ zero_register
    zeroed reads p r read zeroth =
        not_forwarded v v_made v_second reads p zeroth r
        ∙ read ∙ ap (λ (k : ℕ). get_or v.registers k zero_register) zeroth ∙ register_0_zero v v_made v_second

-- "li's old value included": it is li's first operand, that of its rd
pub li_reads_its_rd : (edition : Edition) (w : ℕ) → is_li w ≡ true → (instruction_of edition w).first ≡ rd_of w
unfolding first_of
li_reads_its_rd edition w li = rw li
