-- Register 0 where a program's edition wires it: what is latched behind EX never names it as a target, so that a cycle leaves it. Carried by `never_to_0` of
-- plain_rules.
-- Assumes nothing.
use Rattle.unit_rules.proofs.Shared.{None, Some, ℕ, zero, suc, ◌-◌, ◌≡◌, refl, sym, ap, ◌∙◌, Bool, true, false, cond, and-false, false≢true, List, [], ◌∷◌, map}
use Rattle.unit_rules.proofs.Shared.{ltb, get_or, Register, zero_register, row_of, Edition, One, Two, Pointer, Option, target_of}
use Rattle.unit_rules.proofs.Shared.{stored, cleared_for, cleared_rows, Program, may_hold, IfId, ExWb, Unit, instruction_at, fetched_in, after_wb, is_target, newest, cycle_of, cycles_of}
use Rattle.unit_rules.proofs.Shared.{in_executed, is_empty}
use Rattle.table.proofs.Theorems.{each_target}
use Rattle.job_rules.proofs.Theorems.{held_zero}
use Rattle.plain_rules.proofs.Editions.{never_to_0}
use Rattle.unit_rules.specs.declared.Instruction.{Instruction}
use Rattle.unit_rules.proofs.Positions.{Placed, placed_cycles, cycles_program}

-- ---- the target of what was fetched

-- what was fetched in some cycle is a line of the program
pub fetched_line : (p : Program) (c : ℕ) (i : Instruction) → Some i ≡ fetched_in p c → (k : ℕ) × (i ≡ instruction_at p k)
fetched_line p zero i e = absurd (false≢true (ap is_empty e))
fetched_line p (suc k) i e = go (ltb k p.n.0) e
  where
    held : IfId → Instruction
    held None = i
    held (Some j) = j

    go : (t : Bool) → Some i ≡ cond t (Some (instruction_at p k)) None → (m : ℕ) × (i ≡ instruction_at p m)
    go true q = (k, ap held q)
    go false q = absurd (false≢true (ap is_empty q))

-- and in the second edition its target is not register 0
not_the_target : (w : ℕ) (q : Pointer) → q.0 ≡ 0 → is_target (target_of Two w) q ≡ false
not_the_target w q e = each_target (λ (t : Option Pointer). is_target t q ≡ false) Two w refl (λ free. rw e free)

module _ (p : Program) (second : p.edition ≡ Two) (c : ℕ) where
  pub not_0 : (i : Instruction) → Some i ≡ fetched_in p c → (q : Pointer) → q.0 ≡ 0 → is_target i.target q ≡ false
  not_0 i e q z =
      let line = fetched_line p c i e in
      ap (λ (j : Instruction). is_target j.target q) line.1
      ∙ ap (λ (edition : Edition). is_target (target_of edition (get_or p.words line.0 0)) q) second
      ∙ not_the_target (get_or p.words line.0 0) q z

  -- so EX takes nothing for it from WB
  pub newest_of_0 : (x : ExWb) → in_executed x ≡ fetched_in p c → (reads : Bool) (q : Pointer) → q.0 ≡ 0 → (latched : Register) → newest x reads q latched ≡ latched
  newest_of_0 None e reads q z latched = refl
  newest_of_0 (Some (i, o)) e reads q z latched = rw (not_0 i e q z, and-false reads)

  -- and WB leaves it as it was
  pub left_by_wb : (x : ExWb) → in_executed x ≡ fetched_in p c → (f : List Register) → get_or (after_wb x f) 0 zero_register ≡ get_or f 0 zero_register
  left_by_wb None e f = refl
  left_by_wb (Some (i, o)) e f =
      let line = fetched_line p c i e in
      ap (λ (j : Instruction). get_or (stored j.target o.value f) 0 zero_register) line.1
      ∙ ap (λ (edition : Edition). get_or (stored (target_of edition (get_or p.words line.0 0)) o.value f) 0 zero_register) second
      ∙ never_to_0 (get_or p.words line.0 0) o.value zero_register f

-- ---- what register 0 may hold: what a cleared file has there

pub cleared_held : (edition : Edition) (f : List Register) → may_hold edition (get_or (cleared_for edition zero_register f) 0 zero_register) ≡ true
cleared_held One f = refl
cleared_held Two [] = refl
cleared_held Two (x ∷ f) = refl

-- clearing changes nothing where it holds that already
pub cleared_already : (edition : Edition) (f : List Register) → may_hold edition (get_or f 0 zero_register) ≡ true → cleared_rows edition (map row_of f) ≡ map row_of f
cleared_already One f h = refl
cleared_already Two [] h = refl
cleared_already Two (x ∷ f) h = ap (λ (r : Register). row_of r ∷ map row_of f) (sym (held_zero Two x refl h))

-- ---- a cycle later

held_later : (edition : Edition) {r s : Register} → (edition ≡ Two → r ≡ s) → may_hold edition r ≡ may_hold edition s
held_later One same = refl
held_later Two same = ap (may_hold Two) (same refl)

pub cycles_held : (c : ℕ) (u : Unit) → Placed u
    → may_hold u.program.edition (get_or (cycles_of c u).registers 0 zero_register) ≡ may_hold u.program.edition (get_or u.registers 0 zero_register)
unfolding cycles_of cycle_of
cycles_held zero u h = refl
cycles_held (suc c) u h =
    let v : Unit = cycles_of c u in
    let same = cycles_program c u in
    held_later u.program.edition
    (λ second. left_by_wb v.program (ap (λ (p : Program). p.edition) same ∙ second) (v.cycle - 2) v.executed (placed_cycles c u h).in_ex_wb v.registers)
    ∙ cycles_held c u h
