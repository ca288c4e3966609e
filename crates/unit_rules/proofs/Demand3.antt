-- Demand 3, which "counts from the last go, takes the registers as they stood then and holds until the next go or load": for every well-made unit, whatever it was doing before. Stated over what the calls
-- promise (specs/Calls.antt), one after another (specs/Sequence.antt). A unit's file of registers is 32 long (`Whole`), as `[Register; 32]` is.
-- Assumes nothing.
use Rattle.unit_rules.proofs.Shared.{None, Some, ℕ, suc, ◌+◌, ◌-◌, ◌≤◌, ◌<◌, min, ◌≡◌, refl, sym, ap, subst, ◌∙◌, ◌↔◌, Bool, true, false, cond, List, map, zero-add}
use Rattle.unit_rules.proofs.Shared.{le_refl, arith, lt-ltb, eqb-true, leb-true, leb-false, eqb, leb, get_or, take, length, get_or-take, take_all}
use Rattle.unit_rules.proofs.Shared.{length-take-le, Register, zero_register, row_of, DRAINED, STATE, BUSY, plain, plain_rows, registers_as_rows, Job}
use Rattle.unit_rules.proofs.Shared.{read_of, Program, lines_of, Unit, instruction_at, after_ex, after_id, fetched_in, Cycled, cycles_of, in_decoded, in_executed, drained_of, last_of}
use Rattle.unit_rules.proofs.Shared.{well_made_of, begun_of, gone_of, registers_set, load_of, go_of, cycled_of, ran_of, asked_drained, Whole, after_calls}
use Rattle.unit_rules.proofs.Shared.{Call, unit_after_all, cycles_in_all, renews_in_all, unit_with, Edition, One, Two, is_wired, registers_loaded, false≢true}
use Rattle.job_rules.proofs.Theorems.{register_0_read}
use Rattle.plain_rules.specs.Answer.{ExecutedProgram}
use Rattle.plain_rules.specs.Machine.{outcome_on, marks_rows}
use Rattle.plain_rules.specs.Answer.{answer_of, no_marks, execute_all_of}
use Rattle.plain_rules.proofs.Refusals.{executed}
use Rattle.plain_rules.proofs.Theorems.{marks_of_registers}
use Rattle.plain_rules.proofs.Marks.{mark_of_line}
use Rattle.table.proofs.Decided.{passes, ends, not_denied}
use Rattle.unit_rules.specs.Answers.{Loaded, Gone, Drained}
use Rattle.unit_rules.specs.Sequence.Call.{go}
use Rattle.unit_rules.specs.Cycle.{mark_in}
use Rattle.unit_rules.specs.Settled.{settled_flight}
use Rattle.unit_rules.proofs.Positions.{drained_after, drained_loaded, cycles_program, cycles_number, cycles_gone}
use Rattle.unit_rules.proofs.Settled.{id_told, ex_told}
use Rattle.unit_rules.proofs.Wired.{cleared_already}
use Rattle.unit_rules.proofs.WellMade.{WellMade, well_made_says, well_made_test, well_made_cycles, cycles_join, left_of}
use Rattle.unit_rules.proofs.Loading.{Sound, sound_read, load_ill_made, load_busy, load_reads, load_taken, load_sets, load_refused, go_begins, go_ill_made, left_as_they_were, loaded_whole, set_from_file, cleared_others, cleared_zero, loaded_made, plain_whole, well_made_gone, enough_words, unit_gone}
use Rattle.unit_rules.proofs.Calls.{next_call, no_call, calls_are_cycles, ran, cycle_of_drained, run_of_drained, rests_on, all_made, well_made_after, kept_made}

-- ---- a go

-- A go of a well-made unit is not refused: the program is begun on the registers as they stand.
pub demand3_go : (u : Unit) → well_made_of u ≡ true → go_of u ≡ record { refusal = 0; unit = begun_of true u.program u.registers }
demand3_go = go_begins

-- Go twice is go once, with the same answer.
pub demand3_go_twice : (u : Unit) → go_of (go_of u).unit ≡ go_of u
demand3_go_twice u = case (well_made_of u) refl
  where
    case : (t : Bool) → well_made_of u ≡ t → go_of (go_of u).unit ≡ go_of u
    case true made =
        let once = go_begins u made in
        ap (λ (a : Gone). go_of a.unit) once
        ∙ go_begins (gone_of u) (well_made_test (gone_of u) (well_made_gone u (well_made_says u made))) ∙ sym once
    case false ill = ap (λ (a : Gone). go_of a.unit) (go_ill_made u ill)

-- by the last cycle all n lines are completed
last_lines : (n : ℕ) → n ≤ last_of n - 3
last_lines n = go (eqb n 0) refl
  where
    go : (t : Bool) → eqb n 0 ≡ t → n ≤ cond t 0 (n + 3) - 3
    go true q = omega (arith, eqb-true n 0 q)
    go false q = omega arith

-- line k reaches EX/WB before the last cycle
in_time : (n k : ℕ) → k < n → k + 3 ≤ last_of n
in_time n k h = omega (arith, last_lines n)

module _ (u : Unit) (whole : Whole u.registers) (made : well_made_of u ≡ true) where
  -- the n lines of the loaded program; the unit after the go
  abbrev lines : List ℕ
  lines = lines_of u.program

  abbrev n : ℕ
  n = u.program.n.0

  abbrev gone : Unit
  gone = (go_of u).unit

  abbrev begun : Unit
  begun = gone_of u

  is_begun : gone ≡ begun
  is_begun = ap (λ (a : Gone). a.unit) (go_begins u made)

  before : WellMade u
  before = well_made_says u made

  w : WellMade begun
  w = well_made_gone u before

  -- c calls of `cycle` are c cycles
  are_cycles : (c : ℕ) → c ≤ last_of n → after_calls c gone ≡ cycles_of c begun
  are_cycles c h = ap (after_calls c) is_begun ∙ calls_are_cycles begun refl w c (omega arith)

  all_calls : (calls : List Call) → renews_in_all calls gone ≡ false
      → (cycles_in_all calls gone ≤ last_of n) × (unit_after_all calls gone ≡ cycles_of (cycles_in_all calls gone) begun)
  unfolding cycles_of
  all_calls calls none =
      let a = all_made begun refl w calls 0 (omega arith) (sym (ap (renews_in_all calls) is_begun) ∙ none) in
      let same : cycles_in_all calls gone ≡ cycles_in_all calls begun = ap (cycles_in_all calls) is_begun in (
        omega (arith, a.1, same),
        ap (unit_after_all calls) is_begun ∙ a.0 ∙ ap (λ (k : ℕ). cycles_of k begun) (zero-add (cycles_in_all calls begun) ∙ sym same),
      )

  -- After c cycles the whole unit: its registers are what the plain machine leaves after the first c - 3 words, beginning from the registers as they stood at the
  -- go; program, c and these registers tell count and latches, with the values that are latched; the rest is as the go left it.
  pub demand3_unit : (c : ℕ) → c ≤ last_of n
      → (let g = plain u.program.edition (take (c - 3) lines) u.registers in after_calls c gone ≡ unit_with gone c g (settled_flight u.program c g))
  demand3_unit c h =
      let g = plain u.program.edition (take (c - 3) lines) u.registers in
      are_cycles c h ∙ unit_gone u whole before c ∙ ap (λ (v : Unit). unit_with v c g (settled_flight u.program c g)) (sym is_begun)

  -- So the registers are these.
  pub demand3_registers : (c : ℕ) → c ≤ last_of n → (after_calls c gone).registers ≡ plain u.program.edition (take (c - 3) lines) u.registers
  demand3_registers c h = ap (λ (v : Unit). v.registers) (demand3_unit c h)

  -- Drained exactly at n + 3 cycles, or at once with n = 0, and never sooner.
  pub demand3_drained : (c : ℕ) → c ≤ last_of n → drained_of (after_calls c gone) ≡ leb (last_of n) c
  demand3_drained c h = ap drained_of (are_cycles c h) ∙ drained_after begun refl w.placed c ∙ ap (leb (last_of n)) (zero-add c)

  -- Every record that is reached is well made.
  pub demand3_well_made : (c : ℕ) → c ≤ last_of n → well_made_of (after_calls c gone) ≡ true
  demand3_well_made c h = ap well_made_of (are_cycles c h) ∙ well_made_test (cycles_of c begun) (well_made_cycles begun refl w c (omega arith))

  -- And so it is answered where it is asked for.
  pub demand3_asked : (c : ℕ) → c ≤ last_of n → ◌≡◌ {A = Drained} (asked_drained (after_calls c gone)) (record { refusal = 0; drained = leb (last_of n) c })
  unfolding asked_drained
  demand3_asked c h = sym (passes _ _ _ (not_denied (demand3_well_made c h)) (rw (demand3_drained c h) ends))

  -- Its cycle number is the number of cycles since the go.
  pub demand3_number : (c : ℕ) → c ≤ last_of n → (after_calls c gone).cycle ≡ c
  demand3_number c h = ap (λ (v : Unit). v.cycle) (are_cycles c h) ∙ cycles_number c begun ∙ zero-add c

  -- The latches hold what was fetched in cycles c, c-1 and c-2: instructions c-1, c-2 and c-3, or nothing outside 0 .. n-1.
  pub demand3_latches : (c : ℕ) → c ≤ last_of n
      → ((after_calls c gone).fetched ≡ fetched_in u.program c)
      × (in_decoded (after_calls c gone).decoded ≡ fetched_in u.program (c - 1))
      × (in_executed (after_calls c gone).executed ≡ fetched_in u.program (c - 2))
  demand3_latches c h =
      let e = demand3_unit c h in
      let g = plain u.program.edition (take (c - 3) lines) u.registers in (
        ap (λ (v : Unit). v.fetched) e,
        ap (λ (v : Unit). in_decoded v.decoded) e ∙ id_told u.program c g,
        ap (λ (v : Unit). in_executed v.executed) e ∙ ex_told u.program c g,
      )

  -- A call of `cycle` is refused with 8 exactly when the unit is drained.
  pub demand3_cycle_answers : (c : ℕ) → c ≤ last_of n → (cycled_of (after_calls c gone)).refusal ≡ cond (leb (last_of n) c) DRAINED 0
  demand3_cycle_answers c h =
      let e = ap (λ (v : Unit). (cycled_of v).refusal) (are_cycles c h) in
      go (leb (last_of n) c) refl e
    where
      go : (t : Bool) → leb (last_of n) c ≡ t → (cycled_of (after_calls c gone)).refusal ≡ (cycled_of (cycles_of c begun)).refusal
          → (cycled_of (after_calls c gone)).refusal ≡ cond t DRAINED 0
      go true q e = e ∙ ap (λ (a : Cycled). a.refusal) (no_call begun refl w c (omega (arith, leb-true (last_of n) c q)))
      go false q e = e ∙ ap (λ (a : Cycled). a.refusal) (next_call begun refl w c (omega (arith, leb-false (last_of n) c q)))

  -- A run with a budget k makes min(k, cycles left) cycles, answers that number, and leaves the unit that so many calls of `cycle` leave.
  pub demand3_run : (c : ℕ) → c ≤ last_of n → (k : ℕ)
      → (let m = min k (last_of n - c) in ran_of (after_calls c gone) k ≡ record { refusal = 0; made = m; unit = after_calls (c + m) gone })
  demand3_run c h k =
      let m = min k (last_of n - c) in
      let v : Unit = cycles_of c begun in
      let left : left_of v ≡ last_of n - c = rw (cycles_program c begun, cycles_number c begun) (omega arith) in
      ap (λ (x : Unit). ran_of x k) (are_cycles c h)
      ∙ ran v (cycles_gone c begun) (well_made_cycles begun refl w c (omega arith)) k
      ∙ (λ i. record { refusal = 0; made = min k (left i); unit = cycles_of (min k (left i)) v })
      ∙ ap (λ (x : Unit). record { refusal = 0; made = m; unit = x }) (cycles_join c m begun ∙ sym (are_cycles (c + m) (omega arith)))

  -- Until the next go or load: after any calls since then, of which c is the number of cycles made in them, the unit is the one that c calls of `cycle` leave,
  -- its registers are the plain machine's after the first c - 3 words, and it is drained exactly when c is n + 3, or 0 with n = 0.
  pub demand3_until_the_next_go_or_load : (calls : List Call) → renews_in_all calls gone ≡ false
      → (let c = cycles_in_all calls gone in
      (c ≤ last_of n)
      × (unit_after_all calls gone ≡ after_calls c gone)
      × ((unit_after_all calls gone).registers ≡ plain u.program.edition (take (c - 3) lines) u.registers)
      × (drained_of (unit_after_all calls gone) ≡ leb (last_of n) c))
  demand3_until_the_next_go_or_load calls none =
      let c = cycles_in_all calls gone in
      let a = all_calls calls none in
      let same : unit_after_all calls gone ≡ after_calls c gone = a.1 ∙ sym (are_cycles c a.0) in (
        a.0,
        same,
        ap (λ (v : Unit). v.registers) same ∙ demand3_registers c a.0,
        ap drained_of same ∙ demand3_drained c a.0,
      )

  -- However a run is split into runs and single cycles, with other calls between: as many cycles leave the same unit.
  pub demand3_any_split : (calls others : List Call) → renews_in_all calls gone ≡ false → renews_in_all others gone ≡ false
      → cycles_in_all calls gone ≡ cycles_in_all others gone → unit_after_all calls gone ≡ unit_after_all others gone
  demand3_any_split calls others none none_here same =
      (demand3_until_the_next_go_or_load calls none).1
      ∙ ap (λ (c : ℕ). after_calls c gone) same
      ∙ sym (demand3_until_the_next_go_or_load others none_here).1

  -- As rows they are the rows of crate `plain`.
  pub demand3_rows : (c : ℕ) → c ≤ last_of n → map row_of (after_calls c gone).registers ≡ plain_rows u.program.edition (take (c - 3) lines) (map row_of u.registers)
  demand3_rows c h = ap (map row_of) (demand3_registers c h) ∙ registers_as_rows u.program.edition (take (c - 3) lines) u.registers

  all_lines : length lines ≡ n
  all_lines = length-take-le n u.program.words (enough_words u before)

  -- what crate `plain` answers for the whole program, in the unit's edition: register 0 is cleared first, which changes nothing here
  abbrev answered : ExecutedProgram
  answered = execute_all_of u.program.edition lines (map row_of u.registers)

  is_answered : answered ≡ record {
    executed = answer_of 0 0 (plain_rows u.program.edition lines (map row_of u.registers));
    marks = marks_rows u.program.edition lines (map row_of u.registers) no_marks;
  }
  is_answered =
      executed u.program.edition lines (map row_of u.registers) (omega (arith, all_lines, before.few)) (omega (arith, all_lines, before.good))
      ∙ ap (λ (f : List (List ℕ)). record { executed = answer_of 0 0 (plain_rows u.program.edition lines f); marks = marks_rows u.program.edition lines f no_marks })
      (cleared_already u.program.edition u.registers before.held)

  -- Drained, they are what crate `plain` answers for the whole program.
  pub demand3_drained_rows : answered.executed ≡ answer_of 0 0 (map row_of (after_calls (last_of n) gone).registers)
  demand3_drained_rows =
      ap (λ (a : ExecutedProgram). a.executed) is_answered
      ∙ ap (answer_of 0 0)
      (ap (λ (p : List ℕ). plain_rows u.program.edition p (map row_of u.registers)) (sym (take_all (last_of n - 3) lines (omega (arith, all_lines, last_lines n))))
      ∙ sym (demand3_rows (last_of n) (le_refl (last_of n))))

  -- ---- what each line gives, value and mark

  -- After k + 3 cycles EX/WB holds line k, with what the plain machine makes of it on the registers that the lines before it leave.
  pub demand3_outcome : (k : ℕ) → k < n
      → (after_calls (k + 3) gone).executed ≡ Some ((instruction_at u.program k), (outcome_on (λ r. r) (λ r. r) zero_register (get_or lines k 0) (plain u.program.edition (take k lines) u.registers)))
  demand3_outcome k h =
      let c : k + 3 - 2 ≡ suc k = omega arith in
      let m : k + 3 - 3 ≡ k = omega arith in
      ap (λ (v : Unit). v.executed) (demand3_unit (k + 3) (in_time n k h))
      ∙ (λ i. after_ex None (after_id (fetched_in u.program (c i)) (plain u.program.edition (take (m i) lines) u.registers)))
      ∙ rw (lt-ltb k n h) (ap (λ (w : ℕ). Some ((instruction_at u.program k), (outcome_on (λ r. r) (λ r. r) zero_register w (plain u.program.edition (take k lines) u.registers)))) (sym (get_or-take n u.program.words k 0 h)))

  -- So its mark is the one that crate `plain` answers for that line.
  pub demand3_marks : (k : ℕ) → k < n → mark_in (after_calls (k + 3) gone).executed ≡ get_or answered.marks k 0
  demand3_marks k h =
      ap mark_in (demand3_outcome k h)
      ∙ sym (ap (λ (a : ExecutedProgram). get_or a.marks k 0) is_answered
      ∙ ap (λ (l : List ℕ). get_or l k 0) (marks_of_registers u.program.edition lines u.registers no_marks)
      ∙ mark_of_line (λ r. r) (λ r. r) zero_register u.program.edition lines k u.registers no_marks (omega (arith, all_lines)) (omega (arith, before.few)))

-- ---- a load

-- A load is accepted exactly where the unit is well made and drained and the file is good.
pub demand3_load_accepted : (file : List ℕ) (u : Unit)
    → ((load_of file u).refusal ≡ 0) ↔ ((well_made_of u ≡ true) × (drained_of u ≡ true) × ((read_of file).refusal ≡ 0))
demand3_load_accepted file u = (
  λ e. let t = load_taken file u e in (t.made, t.done, t.good),
  λ t. ap (λ (a : Loaded). a.refusal) (load_sets file u (record { made = t.0; done = t.1; good = t.2 })),
)

-- Else it answers 10; of a well-made unit 18 where it is not drained; and then the reader's refusal and place.
pub demand3_load_answers : (file : List ℕ) (u : Unit)
    → (well_made_of u ≡ false → load_of file u ≡ record { refusal = STATE; place = 0; unit = u })
    × (well_made_of u ≡ true → drained_of u ≡ false → load_of file u ≡ record { refusal = BUSY; place = 0; unit = u })
    × (well_made_of u ≡ true → drained_of u ≡ true
    → ◌≡◌ {A = ℕ × ℕ} ((load_of file u).refusal, (load_of file u).place) ((read_of file).refusal, (read_of file).place))
demand3_load_answers file u = (
  load_ill_made file u,
  load_busy file u,
  λ made done. ap (λ (a : Loaded). (a.refusal, a.place)) (load_reads file u made done),
)

-- Refused, the unit comes back as it was given.
pub demand3_load_refused : (file : List ℕ) (u : Unit) → ((load_of file u).refusal ≡ 0 → ⊥) → (load_of file u).unit ≡ u
demand3_load_refused = load_refused

-- No leftover matters: of two units that accept the same load with equal registers, whatever else differs, load makes equal units, with the same answer.
pub demand3_no_leftover : (file : List ℕ) (u v : Unit) → (load_of file u).refusal ≡ 0 → (load_of file v).refusal ≡ 0 → u.registers ≡ v.registers
    → load_of file u ≡ load_of file v
demand3_no_leftover file u v taken taken-too same =
    load_sets file u (load_taken file u taken)
    ∙ (λ i. let job = (read_of file).job in
    record { refusal = 0; place = 0; unit = begun_of false job.program (registers_loaded job (same i)) })
    ∙ sym (load_sets file v (load_taken file v taken-too))

-- So after the same load both go through equal units, whatever is asked of them, with equal answers: any function of the unit is equal.
pub demand3_no_leftover_later : {A : Type 0} (answer : Unit → A) (file : List ℕ) (u v : Unit) → (load_of file u).refusal ≡ 0 → (load_of file v).refusal ≡ 0
    → u.registers ≡ v.registers → (calls : List Call) → answer (unit_after_all calls (load_of file u).unit) ≡ answer (unit_after_all calls (load_of file v).unit)
demand3_no_leftover_later answer file u v taken taken-too same calls =
    ap (λ (s : Loaded). answer (unit_after_all calls s.unit)) (demand3_no_leftover file u v taken taken-too same)

module _ (file : List ℕ) (u : Unit) (whole : Whole u.registers) (accepts : (load_of file u).refusal ≡ 0) where
  -- the job that the file holds; the registers as the load sets them; the unit then
  abbrev job : Job
  job = (read_of file).job

  abbrev set : List Register
  set = registers_loaded job u.registers

  abbrev loaded : Unit
  loaded = (load_of file u).unit

  sound : Sound job
  sound = sound_read file (load_taken file u accepts).good

  -- It has the file's program and these registers, count and cycle zero, the latches empty, and has not gone.
  pub demand3_loaded : loaded ≡ begun_of false job.program set
  demand3_loaded = ap (λ (a : Loaded). a.unit) (load_sets file u (load_taken file u accepts))

  -- The registers as the load sets them: 0 .. r-1 from the file, the others as they were; and zero where the edition wires one, whether or not the file has it.
  pub demand3_set : (i : ℕ)
      → (i < job.r → get_or set i zero_register ≡ get_or job.registers i zero_register)
      × (job.r ≤ i → is_wired job.program.edition (record { 0 = i }) ≡ false → get_or set i zero_register ≡ get_or u.registers i zero_register)
      × (is_wired job.program.edition (record { 0 = i }) ≡ true → get_or set i zero_register ≡ zero_register)
  demand3_set i = (
    λ h. from_file h (is_wired job.program.edition (record { 0 = i })) refl,
    λ h free. cleared_others job.program.edition set_first i free ∙ left_as_they_were job.r job.registers u.registers i h,
    cleared_zero job.program.edition set_first i,
  )
    where
      set_first : List Register
      set_first = registers_set job.r job.registers u.registers

      from_file : i < job.r → (t : Bool) → is_wired job.program.edition (record { 0 = i }) ≡ t → get_or set i zero_register ≡ get_or job.registers i zero_register
      from_file h true wired = cleared_zero job.program.edition set_first i wired ∙ sym (zero_in_file job.program.edition refl wired)
        where
          zero_in_file : (edition : Edition) → job.program.edition ≡ edition → is_wired edition (record { 0 = i }) ≡ true → get_or job.registers i zero_register ≡ zero_register
          zero_in_file One e never = absurd (false≢true never)
          zero_in_file Two e zeroth = rw (eqb-true i 0 zeroth) (register_0_read file (load_taken file u accepts).good e)
      from_file h false free = cleared_others job.program.edition set_first i free ∙ set_from_file job.r job.registers u.registers whole sound.fewer i h

  pub demand3_loaded_made : Whole loaded.registers × (well_made_of loaded ≡ true)
  demand3_loaded_made = (
    ap (λ (v : Unit). length v.registers) demand3_loaded ∙ loaded_whole job u.registers whole,
    ap well_made_of demand3_loaded ∙ well_made_test _ (loaded_made job u sound),
  )

  -- A loaded unit is drained; a cycle of it is refused with 8, and a run of it makes 0 cycles.
  pub demand3_loaded_rests : (drained_of loaded ≡ true)
      × (cycled_of loaded ≡ record { refusal = DRAINED; unit = loaded })
      × ((k : ℕ) → ran_of loaded k ≡ record { refusal = 0; made = 0; unit = loaded })
  demand3_loaded_rests =
      let done = drained_loaded loaded (ap (λ (v : Unit). v.gone) demand3_loaded) in
      let made = demand3_loaded_made.1 in
      (done, cycle_of_drained loaded made done, run_of_drained loaded made done)

  -- Whatever calls come, it stays as it was loaded until the next go or load.
  pub demand3_loaded_until_it_goes : (calls : List Call) → renews_in_all calls loaded ≡ false → unit_after_all calls loaded ≡ loaded
  demand3_loaded_until_it_goes = rests_on loaded demand3_loaded_made.1 demand3_loaded_rests.0

  -- Gone then, after c cycles its registers are what the plain machine leaves of the file's first c - 3 words, beginning from the registers as the load set them.
  pub demand3_job : (c : ℕ) → c ≤ last_of job.program.n.0
      → (after_calls c (go_of loaded).unit).registers ≡ plain job.program.edition (take (c - 3) (lines_of job.program)) set
  demand3_job c h =
      demand3_registers loaded demand3_loaded_made.0 demand3_loaded_made.1 c (omega (arith, size))
      ∙ (λ i. plain (demand3_loaded i).program.edition (take (c - 3) (lines_of (demand3_loaded i).program)) (demand3_loaded i).registers)
    where
      size : last_of loaded.program.n.0 ≡ last_of job.program.n.0
      size = ap (λ (v : Unit). last_of v.program.n.0) demand3_loaded

-- ---- a second load

-- Once the unit is drained behind any calls since the go, a second file that is good is accepted, and what the unit has then of the first job are the registers that the
-- plain machine leaves after all of its words, and nothing else.
module _ (first : List ℕ) (u : Unit) (whole : Whole u.registers) (accepts : (load_of first u).refusal ≡ 0) (calls : List Call)
    (none : renews_in_all calls (go_of (load_of first u).unit).unit ≡ false) (done : drained_of (unit_after_all calls (go_of (load_of first u).unit).unit) ≡ true)
    (second : List ℕ) (good : (read_of second).refusal ≡ 0) where
  -- the unit loaded with the first job, and when that is done; both jobs; the registers that each of the loads sets
  abbrev with_first : Unit
  with_first = (load_of first u).unit

  abbrev first_done : Unit
  first_done = unit_after_all calls (go_of with_first).unit

  abbrev one : Job
  one = (read_of first).job

  abbrev two : Job
  two = (read_of second).job

  abbrev first_set : List Register
  first_set = registers_loaded one u.registers

  abbrev second_set : List Register
  second_set = registers_loaded two (plain one.program.edition (lines_of one.program) first_set)

  -- what demand 3 says of these calls, of the program and the registers that were loaded
  abbrev Until : Program → List Register → Type 0
  Until p f = (let c = cycles_in_all calls (go_of with_first).unit in
      (first_done.registers ≡ plain p.edition (take (c - 3) (lines_of p)) f) × (drained_of first_done ≡ leb (last_of p.n.0) c))

  until : Until one.program first_set
  until =
      let made = demand3_loaded_made first u whole accepts in
      let d = demand3_until_the_next_go_or_load with_first made.0 made.1 calls none in
      subst (λ (v : Unit). Until v.program v.registers) (demand3_loaded first u whole accepts) (d.2, d.3)

  left : first_done.registers ≡ plain one.program.edition (lines_of one.program) first_set
  left =
      let c = cycles_in_all calls (go_of with_first).unit in
      let all = leb-true (last_of one.program.n.0) c (sym until.1 ∙ done) in
      until.0 ∙ ap (λ (p : List ℕ). plain one.program.edition p first_set) (take_all (c - 3) (lines_of one.program) (omega (arith, all, many, last_lines one.program.n.0)))
    where
      many : length (lines_of one.program) ≡ one.program.n.0
      many =
          let sound = sound_read first (load_taken first u accepts).good in
          length-take-le one.program.n.0 one.program.words (omega (arith, sound.few, sound.lines))

  pub demand3_second_load : load_of second first_done ≡ record { refusal = 0; place = 0; unit = begun_of false two.program second_set }
  demand3_second_load =
      load_sets second first_done (record { made = well_made; done = done; good = good })
      ∙ (λ i. record { refusal = 0; place = 0; unit = begun_of false two.program (registers_loaded two (left i)) })
    where
      well_made : well_made_of first_done ≡ true
      well_made = kept_made calls (go_of with_first).unit (well_made_after with_first (demand3_loaded_made first u whole accepts).1 go)

  -- Gone then, after c cycles its registers are what the plain machine leaves of the second file's first c - 3 words, beginning from these.
  pub demand3_second_run : (c : ℕ) → c ≤ last_of two.program.n.0
      → (after_calls c (go_of (load_of second first_done).unit).unit).registers ≡ plain two.program.edition (take (c - 3) (lines_of two.program)) second_set
  demand3_second_run c h =
      demand3_job second first_done (rw left (plain_whole one.program.edition (lines_of one.program) first_set (loaded_whole one u.registers whole)))
      (ap (λ (a : Loaded). a.refusal) demand3_second_load) c h
      ∙ ap (λ (f : List Register). plain two.program.edition (take (c - 3) (lines_of two.program)) (registers_loaded two f)) left
