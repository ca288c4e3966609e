-- For the reader of specs/: what a row says is what happened. Carried by where the latches are (`Positions` of `unit_rules`) and by the cases of a latch.
-- Assumes nothing.
use Rattle.unit_rules.proofs.Shared.{ℕ, zero, suc, ◌+◌, ◌-◌, ◌<◌, ◌≤◌, ◌≡◌, refl, sym, ap, subst, ◌∙◌, ◌⊎◌, ⊎_elim, Bool, true, false, cond, ◌&&◌, ◌||◌}
use Rattle.unit_rules.proofs.Shared.{and-false, List, arith, leb-false, lt-ltb, lt-leb, le-leb, ltb-true, ltb-false, leb, ltb, length, take, STATE, DRAINED, ROOM, Register, Pointer, Option, None, is_li}
use Rattle.unit_rules.proofs.Shared.{rd_of, first_of, rs2_of, rs3_of, Operation, operation_of, reads_of, takes_first, takes_second, takes_third, is_nop, is_wired, target_of, stored, Edition, Two}
use Rattle.unit_rules.proofs.Shared.{plain, lines_of, instruction_of, instruction_at, fetched_in, is_target, newest, read_by, newest_operands, after_wb, after_ex, cycle_of, in_decoded}
use Rattle.unit_rules.proofs.Shared.{false≢true, map, get_or, row_of, in_executed, decoded_with, last_of, drained_of, well_made_of, go_of, cycled_of, Whole, after_calls, unit_after, made_unless, cycles_in}
use Rattle.std.specs.declared.option.Option.TheVariants.{None, Some}
use Rattle.table.proofs.Decided.{stops, passes, ends, apart, each, not_denied, the_second}
use borrow.Author.Tests.{eq-eqb}
use Rattle.row_rules.specs.declared.Flags.{Flags}
use Rattle.alu_rules.specs.declared.Outcome.{Outcome}
use Rattle.job_rules.specs.declared.Program.{Program}
use Rattle.plain_rules.specs.Answer.{execute_all_of}
use Rattle.row_rules.specs.Shown.{Stage, Change}
use Rattle.row_rules.specs.Text.{row_size}
use Rattle.unit_rules.specs.declared.Instruction.{Instruction}
use Rattle.unit_rules.specs.Latches.{Operands, IfId, IdEx, ExWb}
use Rattle.unit_rules.specs.declared.Unit.{Unit}
use Rattle.unit_rules.specs.Answers.{Cycled}
use Rattle.unit_rules.specs.Cycle.{worked, mark_in}
use Rattle.unit_rules.specs.Sequence.Call.{row}
use Rattle.unit_rules.proofs.Positions.{placed_cycle, drained_is, not_drained_gone}
use Rattle.unit_rules.proofs.WellMade.{well_made_says, last_small}
use Rattle.unit_rules.proofs.Wired.{not_0}
use Rattle.unit_rules.proofs.Demand3.{demand3_number, demand3_registers, demand3_cycle_answers, demand3_marks}
use Rattle.trace_rules.proofs.Going.{goes}
use Rattle.trace_rules.specs.RowOfCycle.{stage_of, writes_to, flag_of, flags_for, flags_of, change_to, change_of, shown_by, shown_of}
use Rattle.trace_rules.specs.Call.{traced_of}
use Rattle.trace_rules.specs.Happened.{changed_by, is_nothing, mark_shown, writes_nothing, shows, flags_shown, operand_shown, operands_shown}

-- ---- the stages

-- "in cycle c, counted from 1 at the start, IF, ID, EX and WB hold instructions c-1, c-2, c-3 and c-4 (from 0), or nothing outside 0 .. n-1":
-- what was fetched in cycles c, c-1, c-2 and c-3
pub row_stages : (u : Unit) → well_made_of u ≡ true
    → (let c = u.cycle + 1 in
    ((shown_of u).cycle ≡ c)
    × ((shown_of u).fetch ≡ stage_of (fetched_in u.program c))
    × ((shown_of u).decode ≡ stage_of (fetched_in u.program (c - 1)))
    × ((shown_of u).execute ≡ stage_of (fetched_in u.program (c - 2)))
    × ((shown_of u).write ≡ stage_of (fetched_in u.program (c - 3))))
unfolding shown_by cycle_of
row_stages u made =
    let h = (well_made_says u made).placed in
    let one-ago : u.cycle ≡ u.cycle + 1 - 1 = omega arith in
    let two-ago : u.cycle - 1 ≡ u.cycle + 1 - 2 = omega arith in
    let three-ago : u.cycle - 2 ≡ u.cycle + 1 - 3 = omega arith in
    let fetched : ℕ → Stage = λ c. stage_of (fetched_in u.program c) in (
      refl,
      ap stage_of (placed_cycle u h).in_if_id,
      ap stage_of h.in_if_id ∙ ap fetched one-ago,
      ap stage_of h.in_id_ex ∙ ap fetched two-ago,
      ap stage_of h.in_ex_wb ∙ ap fetched three-ago,
    )

-- nothing of the values that ID has read is shown: any others could stand in their place
pub no_value_shown : (cycle : ℕ) (delivered fetched : IfId) (decoded : IdEx) (executed : ExWb) (o : Operands)
    → shown_by cycle delivered fetched (decoded_with (in_decoded decoded) o) executed ≡ shown_by cycle delivered fetched decoded executed
unfolding shown_by
no_value_shown cycle delivered fetched None executed o = refl
no_value_shown cycle delivered fetched (Some (i, p)) executed o = refl

-- "cycle (two decimal digits, 67 at most)"
pub row_cycle : (u : Unit) → (cycled_of u).refusal ≡ 0 → (shown_of u).cycle ≤ 67
unfolding shown_by
row_cycle u e =
    let going = goes u e in
    let more = leb-false (last_of u.program.n.0) u.cycle (sym (drained_is u (not_drained_gone u going.more) (well_made_says u going.made).placed) ∙ going.more) in
    omega (arith, more, last_small u going.made)

-- ---- the register written, and its new value

change_by : (latch : ExWb) (f : List Register) → changed_by (change_of latch) f ≡ after_wb latch f
change_by None f = refl
change_by (Some (i, o)) f = go i.target
  where
    go : (t : Option Pointer) → changed_by (change_to t o) f ≡ stored t o.value f
    go None = refl
    go (Some p) = refl

-- the register and the value that a row shows are those by which the cycle changes the registers
pub row_change : (u : Unit) → (cycle_of u).registers ≡ changed_by (shown_of u).change u.registers
unfolding shown_by cycle_of
row_change u = sym (change_by u.executed u.registers)

-- every instruction that a well-made unit holds is the instruction of its word
abbrev held_in : Edition → IfId → Instruction
held_in edition None = instruction_of edition 0
held_in edition (Some i) = i

abbrev OfItsWord : Edition → IfId → Type 0
OfItsWord edition z = held_in edition z ≡ instruction_of edition (held_in edition z).word

fetched_of_its_word : (p : Program) (c : ℕ) → OfItsWord p.edition (fetched_in p c)
fetched_of_its_word p zero = refl
fetched_of_its_word p (suc k) = go (ltb k p.n.0)
  where
    go : (t : Bool) → OfItsWord p.edition (cond t (Some (instruction_at p k)) None)
    go true = refl
    go false = refl

nothing_of : (edition : Edition) (latch : ExWb) → OfItsWord edition (in_executed latch) → is_nothing (change_of latch) ≡ writes_nothing edition (stage_of (in_executed latch))
unfolding target_of
nothing_of edition None e = refl
nothing_of edition (Some (i, o)) e = rw (ap (λ (j : Instruction). j.target) e) (go (is_nop i.word || is_wired edition (rd_of i.word)))
  where
    go : (t : Bool) → is_nothing (change_to (cond t None (Some (rd_of i.word))) o) ≡ t
    go true = refl
    go false = refl

-- `--` exactly where nothing was written: WB "is empty or holds a NOP", or its write is dropped
pub row_nothing : (u : Unit) → well_made_of u ≡ true → is_nothing (shown_of u).change ≡ writes_nothing u.program.edition (shown_of u).write
unfolding shown_by
row_nothing u made =
    let here = (well_made_says u made).placed.in_ex_wb in
    nothing_of u.program.edition u.executed (subst (OfItsWord u.program.edition) (sym here) (fetched_of_its_word u.program (u.cycle - 2)))

-- ---- the flags

shows_to : (target : Option Pointer) (o : Outcome) (p : Pointer) → is_target target p ≡ shows (change_to target o) p
shows_to None o p = refl
shows_to (Some q) o p = refl

shows_of : (latch : ExWb) (p : Pointer) → writes_to latch p ≡ shows (change_of latch) p
shows_of None p = refl
shows_of (Some (i, o)) p = shows_to i.target o p

flags_by : (edition : Edition) (wb : ExWb) (ex : IdEx) → OfItsWord edition (in_decoded ex) → flags_of wb ex ≡ flags_shown (stage_of (in_decoded ex)) (change_of wb)
flags_by edition wb None e = refl
flags_by edition wb (Some (i, o)) e =
    let first = there i.first (first_of i.word) (ap (λ (j : Instruction). j.first) e) in
    let second = there i.second (rs2_of i.word) (ap (λ (j : Instruction). j.second) e) in
    let third = there i.third (rs3_of i.word) (ap (λ (j : Instruction). j.third) e) in
    λ k. record {
      rs1 = takes_first (reads_of (operation_of i.word)) && first k;
      rs2 = takes_second (reads_of (operation_of i.word)) && second k;
      rs3 = takes_third (reads_of (operation_of i.word)) && third k;
    }
  where
    there : (p q : Pointer) → p ≡ q → writes_to wb p ≡ shows (change_of wb) q
    there p q same = shows_of wb p ∙ ap (shows (change_of wb)) same

-- "A flag is 1 exactly when EX's instruction reads that field by the table and WB writes that register": by what else the row shows
pub row_flags : (u : Unit) → well_made_of u ≡ true → (shown_of u).flags ≡ flags_shown (shown_of u).execute (shown_of u).change
unfolding shown_by
row_flags u made =
    let here = (well_made_says u made).placed.in_id_ex in
    flags_by u.program.edition u.executed u.decoded (subst (OfItsWord u.program.edition) (sym here) (fetched_of_its_word u.program (u.cycle - 1)))

-- "raises no flag and shows `--`": in the second edition, whatever is latched, no row shows that register 0 was written
module _ (u : Unit) (made : well_made_of u ≡ true) (second : u.program.edition ≡ Two) where
  pub register_0_not_shown : (p : Pointer) → p.0 ≡ 0 → shows (shown_of u).change p ≡ false
  unfolding shown_by
  register_0_not_shown p zeroth = sym (shows_of u.executed p) ∙ go u.executed (well_made_says u made).placed.in_ex_wb
    where
      go : (x : ExWb) → in_executed x ≡ fetched_in u.program (u.cycle - 2) → writes_to x p ≡ false
      go None e = refl
      go (Some (i, o)) e = not_0 u.program second (u.cycle - 2) i e p zeroth

  -- a word in WB that names it as its rd shows `--`
  pub dropped_shows_nothing : (w : ℕ) → (shown_of u).write ≡ Some w → (rd_of w).0 ≡ 0 → is_nothing (shown_of u).change ≡ true
  dropped_shows_nothing w here zeroth =
      row_nothing u made ∙ ap (writes_nothing u.program.edition) here ∙ the_second (is_nop w) (ap (λ (e : Edition). is_wired e (rd_of w)) second ∙ eq-eqb (rd_of w).0 0 zeroth)

  -- and of the word in EX, no field that names it has its flag
  pub register_0_raises_nothing : (w : ℕ) → (shown_of u).execute ≡ Some w
      → ((first_of w).0 ≡ 0 → (shown_of u).flags.rs1 ≡ false) × ((rs2_of w).0 ≡ 0 → (shown_of u).flags.rs2 ≡ false) × ((rs3_of w).0 ≡ 0 → (shown_of u).flags.rs3 ≡ false)
  register_0_raises_nothing w here =
      let all = row_flags u made ∙ ap (λ (s : Stage). flags_shown s (shown_of u).change) here in (
        λ zeroth. ap (λ (f : Flags). f.rs1) all ∙ none (takes_first (reads_of (operation_of w))) (first_of w) zeroth,
        λ zeroth. ap (λ (f : Flags). f.rs2) all ∙ none (takes_second (reads_of (operation_of w))) (rs2_of w) zeroth,
        λ zeroth. ap (λ (f : Flags). f.rs3) all ∙ none (takes_third (reads_of (operation_of w))) (rs3_of w) zeroth,
      )
    where
      none : (reads : Bool) (p : Pointer) → p.0 ≡ 0 → (reads && shows (shown_of u).change p) ≡ false
      none true p zeroth = register_0_not_shown p zeroth
      none false p zeroth = refl

li_shown : (w : ℕ) (x : Change) → is_li w ≡ true → flags_shown (Some w) x ≡ record { rs1 = shows x (rd_of w); rs2 = false; rs3 = false }
unfolding operation_of first_of
li_shown w x h = rw h

-- "the first flag for li is 1 exactly when WB writes li's rd": when the row shows that its rd was written; and the other two are 0
pub li_flags : (u : Unit) (w : ℕ) → well_made_of u ≡ true → (shown_of u).execute ≡ Some w → is_li w ≡ true
    → (shown_of u).flags ≡ record { rs1 = shows (shown_of u).change (rd_of w); rs2 = false; rs3 = false }
li_flags u w made here h = row_flags u made ∙ ap (λ (s : Stage). flags_shown s (shown_of u).change) here ∙ li_shown w (shown_of u).change h

-- the immediate of SHRHI or MLHCU is no register pointer
pub immediate_raises_nothing : (w : ℕ) (x : Change) → (operation_of w ≡ Operation.shrhi) ⊎ (operation_of w ≡ Operation.mlhcu) → (flags_shown (Some w) x).rs2 ≡ false
immediate_raises_nothing w x = ⊎_elim (λ e. rw e) (λ e. rw e)

-- "it never forwards": where nothing is written, as with a NOP in WB, no flag is raised
pub nothing_raises_nothing : (s : Stage) → flags_shown s None ≡ record { rs1 = false; rs2 = false; rs3 = false }
nothing_raises_nothing None = refl
nothing_raises_nothing (Some w) = simp and-false

operand_by : (wb : ExWb) (reads : Bool) (p : Pointer) (latched : Register) → newest wb reads p latched ≡ operand_shown (flag_of reads wb p) (change_of wb) latched
operand_by None reads p latched = refl
operand_by (Some (i, o)) reads p latched = go i.target
  where
    go : (t : Option Pointer) → cond (reads && is_target t p) o.value latched ≡ operand_shown (reads && is_target t p) (change_to t o) latched
    go None = simp and-false
    go (Some q) = refl

operands_by : (wb : ExWb) (i : Instruction) (o : Operands) → newest_operands wb i o ≡ operands_shown (flags_for wb i) (change_of wb) o
operands_by wb i o =
    let first = operand_by wb (takes_first (read_by i)) i.first o.first in
    let second = operand_by wb (takes_second (read_by i)) i.second o.second in
    let third = operand_by wb (takes_third (read_by i)) i.third o.third in
    λ k. record { first = first k; second = second k; third = third k }

module _ (u : Unit) (i : Instruction) (o : Operands) (here : u.decoded ≡ Some (i, o)) where
  -- "Where WB writes a register that this instruction reads, WB's value takes the place of the latched one": where a flag is 1, which is only where the row shows
  -- a value (`nothing_raises_nothing`), EX takes that for the operand, and otherwise the latched one
  pub row_operands : newest_operands u.executed i o ≡ operands_shown (shown_of u).flags (shown_of u).change o
  unfolding shown_by
  row_operands =
      operands_by u.executed i o ∙ ap (λ (d : IdEx). operands_shown (flags_of u.executed d) (change_of u.executed) o) (sym here)

  -- and of these it makes its outcome in the cycle
  pub row_works : (cycle_of u).executed ≡ worked i (operands_shown (shown_of u).flags (shown_of u).change o)
  unfolding cycle_of
  row_works = ap (after_ex u.executed) here ∙ ap (worked i) row_operands

-- ---- the call

module _ (u : Unit) (start : ℕ) (buffer : List ℕ) where
  -- "then a cycle tests 8, with a trace row 8 and 9": a drained unit is refused with 8, whether or not there is room, and 9 is for one that is not drained
  pub drained_before_room : well_made_of u ≡ true → drained_of u ≡ true → traced_of u start buffer ≡ (record { refusal = DRAINED; unit = u }, buffer)
  unfolding traced_of
  drained_before_room made drained = sym (passes _ _ _ (not_denied made) (stops _ _ drained))

  pub room_behind_drained : well_made_of u ≡ true → drained_of u ≡ false → length buffer < start + row_size
      → traced_of u start buffer ≡ (record { refusal = ROOM; unit = u }, buffer)
  unfolding traced_of
  room_behind_drained made more short = sym (passes _ _ _ (not_denied made) (passes _ _ _ more (stops _ _ (lt-ltb _ _ short))))

  -- "unit, register file and buffers stay unaltered"
  pub refused_unaltered : ((traced_of u start buffer).0.refusal ≡ 0 → ⊥) → ((traced_of u start buffer).0.unit ≡ u) × ((traced_of u start buffer).1 ≡ buffer)
  unfolding traced_of
  refused_unaltered = each Kept _ _ (λ h. (refl, refl), (λ h. (refl, refl), (λ h. (refl, refl), tt))) (λ h. absurd (h refl))
    where
      Kept : Cycled × List ℕ → Type 0
      Kept a = (a.0.refusal ≡ 0 → ⊥) → (a.0.unit ≡ u) × (a.1 ≡ buffer)

  -- a cycle with a row leaves the unit that a cycle leaves
  pub as_without_a_row : (traced_of u start buffer).0.refusal ≡ 0 → (traced_of u start buffer).0 ≡ cycled_of u
  unfolding traced_of cycled_of
  as_without_a_row =
      apart _ _ Same _ _ (λ made h. stops _ _ made) (λ made. apart _ _ Same _ _ (λ drained h. passes _ _ _ made (stops _ _ drained))
      (λ more. apart _ _ Same _ _ (λ _ h. absurd (omega arith)) (λ _. subst Same ends (λ h. passes _ _ _ made (passes _ _ _ more ends)))))
    where
      Same : Cycled × List ℕ → Type 0
      Same a = a.0.refusal ≡ 0 → a.0 ≡ cycled_of u

  -- so it is the call `row` of a sequence (unit_rules/specs/Sequence.antt), with room or without, which leaves that unit and makes that many cycles
  abbrev room : Bool
  room = leb (start + row_size) (length buffer)

  abbrev AsCall : Cycled → Bool → Type 0
  AsCall a t = (a.unit ≡ unit_after (row t) u) × (made_unless a.refusal ≡ cycles_in (row t) u)

  -- where the cycle without a row is refused too, there is none with room and none without
  as_refused : (a : Cycled) → made_unless a.refusal ≡ 0 → a.unit ≡ u → cycled_of u ≡ a → (t : Bool) → AsCall a t
  as_refused a none kept e true = (ap (λ (x : Cycled). x.unit) (sym e), ap (λ (x : Cycled). made_unless x.refusal) (sym e))
  as_refused a none kept e false = (kept, none)

  pub row_is_a_call : AsCall (traced_of u start buffer).0 room
  unfolding traced_of cycled_of
  row_is_a_call =
      apart _ _ Same _ _ (λ ill. as_refused (record { refusal = STATE; unit = u }) refl refl (sym (stops _ _ ill)) room)
      (λ made. apart _ _ Same _ _ (λ done. as_refused (record { refusal = DRAINED; unit = u }) refl refl (sym (passes _ _ _ made (stops _ _ done))) room)
      (λ more. apart _ _ Same _ _ (λ short. subst (AsCall (record { refusal = ROOM; unit = u })) (sym (lt-leb (start + row_size) (length buffer) (ltb-true _ _ short))) (refl, refl))
      (λ long. subst Same ends (with_room long (passes _ _ _ made (passes _ _ _ more ends))))))
    where
      Same : Cycled × List ℕ → Type 0
      Same a = AsCall a.0 room

      with_room : ltb (length buffer) (start + row_size) ≡ false → record { refusal = 0; unit = cycle_of u } ≡ cycled_of u
          → AsCall (record { refusal = 0; unit = cycle_of u }) room
      with_room long e =
          subst (AsCall (record { refusal = 0; unit = cycle_of u })) (sym (le-leb (start + row_size) (length buffer) (ltb-false (length buffer) (start + row_size) long)))
          (ap (λ (x : Cycled). x.unit) e, ap (λ (x : Cycled). made_unless x.refusal) e)

-- ---- from a go

module _ (u : Unit) (whole : Whole u.registers) (made : well_made_of u ≡ true) (c : ℕ) (early : c < last_of u.program.n.0) where
  abbrev before : Unit
  before = after_calls c (go_of u).unit

  abbrev lines : List ℕ
  lines = lines_of u.program

  -- the row of the c-th cycle since a go, counted from 1, shows c
  pub gone_number : (shown_of before).cycle ≡ suc c
  unfolding shown_by
  gone_number = omega (arith, demand3_number u whole made c (omega arith))

  -- the row of cycle c + 1 since a go shows by what the plain machine's next word changes the registers
  pub gone_row : plain u.program.edition (take (suc c - 3) lines) u.registers
      ≡ changed_by (shown_of before).change (plain u.program.edition (take (c - 3) lines) u.registers)
  gone_row =
      let answers : (cycled_of before).refusal ≡ 0
      = rw (lt-leb (last_of u.program.n.0) c early) at (demand3_cycle_answers u whole made c (omega arith)) in
      let next : (cycled_of before).unit ≡ cycle_of before = ap (λ (a : Cycled). a.unit) (goes before answers).gone in
      sym (demand3_registers u whole made (suc c) (omega arith))
      ∙ ap (λ (v : Unit). v.registers) next
      ∙ row_change before
      ∙ ap (changed_by (shown_of before).change) (demand3_registers u whole made c (omega arith))

-- the mark of a latch is shown with the register that is written
mark_by : (latch : ExWb) → is_nothing (change_of latch) ≡ false → mark_shown (change_of latch) ≡ mark_in latch
mark_by None e = refl
mark_by (Some (i, o)) e = go i.target e
  where
    go : (t : Option Pointer) → is_nothing (change_to t o) ≡ false → mark_shown (change_to t o) ≡ o.mark
    go None f = absurd (false≢true (sym f))
    go (Some p) f = refl

-- "The mark travels through the latch to the row": the row of cycle k + 4 since a go, which has line k in WB, shows the mark that plain execution answers for that line, where
-- it does not show `--`
module _ (u : Unit) (whole : Whole u.registers) (made : well_made_of u ≡ true) (k : ℕ) (line : k < u.program.n.0) where
  pub gone_mark : (let shown = (shown_of (after_calls (k + 3) (go_of u).unit)).change in
      is_nothing shown ≡ false → mark_shown shown ≡ get_or (execute_all_of u.program.edition (lines_of u.program) (map row_of u.registers)).marks k 0)
  unfolding shown_by
  gone_mark writes = mark_by (after_calls (k + 3) (go_of u).unit).executed writes ∙ demand3_marks u whole made k line
