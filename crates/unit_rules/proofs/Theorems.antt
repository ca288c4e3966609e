-- For the reader of specs/: what the test of a record says in either state, that every call leaves a well-made record and refuses with 10 one that is not, what leaves the registers
-- as they are, and where a register's number ends.
-- Assumes nothing.
use Rattle.unit_rules.proofs.Shared.{None, ℕ, zero, suc, ◌+◌, ◌≤◌, ◌<◌, ◌≡◌, refl, sym, ap, subst, ◌∙◌, ◌↔◌, Bool, true, false, cond, not, ◌&&◌, ◌||◌, List}
use Rattle.unit_rules.proofs.Shared.{arith, lt-ltb, le-ltb, leb-true, le-leb, eq-eqb, eqb-false, leb, eqb, get_or, length-replicate, Register, zero_register, STATE, DRAINED}
use Rattle.unit_rules.proofs.Shared.{first_bad, lines_of, may_hold, IdEx, ExWb, Unit, Whole, in_decoded, in_executed, is_empty, all_empty, cycle_of}
use Rattle.unit_rules.proofs.Shared.{Cycled, Ran, drained_of, well_made_of, fresh_of, load_of, go_of, cycled_of, goes_on, ran_of, register_of, asked_drained}
use Rattle.unit_rules.proofs.Shared.{Call, unit_after, made_unless, cycles_in, renews, unit_after_all}
use Rattle.table.specs.Refusal.{POINTER}
use Rattle.table.proofs.Decided.{stops, passes, ends, each, denied, not_denied}
use Rattle.unit_rules.specs.Answers.{Loaded, Gone, RegisterAnswer, Drained}
use Rattle.unit_rules.specs.Sequence.Call.{load, go, cycle, row, run, register, drained}
use Rattle.table.proofs.Rows.{all_alike}
use Rattle.unit_rules.proofs.Positions.{drained_loaded}
use Rattle.unit_rules.proofs.Settled.{nothing_decoded, nothing_executed}
use Rattle.unit_rules.proofs.WellMade.{WellMade, well_made_says, well_made_test, rest_test, both, empty_held}
use Rattle.unit_rules.proofs.Loading.{load_ill_made, load_refused, go_ill_made}
use Rattle.unit_rules.proofs.Calls.{cycle_of_drained, run_of_drained, well_made_after, kept_made}

-- the test holds exactly of what the documents call well made
pub well_made_exactly : (u : Unit) → (well_made_of u ≡ true) ↔ WellMade u
well_made_exactly u = (well_made_says u, well_made_test u)

-- u with other contents of ID/EX and EX/WB
abbrev latching : IdEx → ExWb → Unit → Unit
latching decoded executed u = record {
  program = u.program;
  count = u.count;
  cycle = u.cycle;
  registers = u.registers;
  fetched = u.fetched;
  decoded = decoded;
  executed = executed;
  gone = u.gone;
}

-- The latches "hold instructions", and what stands beside these is free: with other operands in ID/EX, or another value or mark in EX/WB, a record is as well made.
pub latched_values_free : (u : Unit) (decoded : IdEx) (executed : ExWb)
    → in_decoded decoded ≡ in_decoded u.decoded → in_executed executed ≡ in_executed u.executed → well_made_of (latching decoded executed u) ≡ well_made_of u
unfolding well_made_of
latched_values_free u decoded executed d e = rw (d, e)

-- "A fresh unit .. is drained", and well made; it is loaded and has not gone
pub fresh_drained : (drained_of fresh_of ≡ true) × (well_made_of fresh_of ≡ true) × (fresh_of.gone ≡ false)
unfolding drained_of well_made_of first_bad
fresh_drained = (refl, refl, refl)

-- "a register number over 31"
pub register_over_31 : (u : Unit) (i : ℕ) → well_made_of u ≡ true → 31 < i
    → ◌≡◌ {A = RegisterAnswer} (register_of u i) (record { refusal = POINTER; register = zero_register })
unfolding register_of
register_over_31 u i w h = sym (passes _ _ _ (not_denied w) (stops _ _ (lt-ltb _ _ h)))

pub register_to_31 : (u : Unit) (i : ℕ) → well_made_of u ≡ true → i ≤ 31
    → ◌≡◌ {A = RegisterAnswer} (register_of u i) (record { refusal = 0; register = get_or u.registers i zero_register })
unfolding register_of
register_to_31 u i w h = sym (passes _ _ _ (not_denied w) (passes _ _ _ (le-ltb _ _ h) ends))

-- "n = 0, registers zero": each of the 32 that is asked for
pub fresh_registers : (fresh_of.program.n.0 ≡ 0) × Whole fresh_of.registers
    × ((i : ℕ) → i ≤ 31 → ◌≡◌ {A = RegisterAnswer} (register_of fresh_of i) (record { refusal = 0; register = zero_register }))
fresh_registers = (
  refl,
  length-replicate 32 zero_register,
  λ i h. register_to_31 fresh_of i fresh_drained.1 h ∙ ap (λ (v : Register). record { refusal = 0; register = v }) (all_alike zero_register 32 i),
)

abbrev NothingHeld : Unit → Type 0
NothingHeld u = (u.fetched ≡ None) × (u.decoded ≡ None) × (u.executed ≡ None)

nothing_held : (u : Unit) → (all_empty u.fetched (in_decoded u.decoded) (in_executed u.executed) ≡ true) ↔ NothingHeld u
nothing_held u = (
  λ e.
      let a = both _ (is_empty (in_executed u.executed)) e in
      let b = both (is_empty u.fetched) (is_empty (in_decoded u.decoded)) a.0 in
      (empty_held _ b.0, nothing_decoded u.decoded (empty_held _ b.1), nothing_executed u.executed (empty_held _ a.1)),
  λ h. rw (h.0, h.1, h.2),
)

-- "the state loaded and not gone, in which count and cycle are zero and the latches empty", with n, the words and register 0 as in the other state
pub well_made_loaded : (u : Unit) → u.gone ≡ false
    → (well_made_of u ≡ true)
    ↔ ((u.program.n.0 ≤ 64) × (u.program.n.0 ≤ first_bad (lines_of u.program)) × (may_hold u.program.edition (get_or u.registers 0 zero_register) ≡ true) × (u.count.0 ≡ 0) × (u.cycle ≡ 0) × NothingHeld u)
unfolding well_made_of
well_made_loaded u still = (
  λ e.
      let w = well_made_says u e in
      let at_0 = w.resting still in
      let empty = (both (eqb u.count.0 0 && eqb u.cycle 0) (all_empty u.fetched (in_decoded u.decoded) (in_executed u.executed)) (rest_test u at_0 w.placed)).1 in
      (w.few, w.good, w.held, omega (arith, w.placed.counted), at_0, (nothing_held u).0 empty),
  λ h. rw (still, le-leb _ _ h.0, le-leb _ _ h.1, h.2, eq-eqb _ _ h.3, eq-eqb _ _ h.4) ((nothing_held u).1 h.5),
)

-- "A loaded unit that has not gone counts as drained": so it is answered; a cycle is refused with 8, and a run makes none
pub drained_until_it_goes : (u : Unit) → well_made_of u ≡ true → u.gone ≡ false
    → (◌≡◌ {A = Drained} (asked_drained u) (record { refusal = 0; drained = true }))
    × (◌≡◌ {A = Cycled} (cycled_of u) (record { refusal = DRAINED; unit = u }))
    × ((k : ℕ) → ◌≡◌ {A = Ran} (ran_of u k) (record { refusal = 0; made = 0; unit = u }))
unfolding asked_drained
drained_until_it_goes u w still =
    let done = drained_loaded u still in
    (sym (passes _ _ _ (not_denied w) (rw done ends)), cycle_of_drained u w done, run_of_drained u w done)

-- Once it has, it "is drained when the count has reached n and all latches are empty": so it is answered, and only so
pub drained_exactly : (u : Unit) → well_made_of u ≡ true → u.gone ≡ true
    → ((asked_drained u).refusal ≡ 0) × (((asked_drained u).drained ≡ true) ↔ ((u.program.n.0 ≤ u.count.0) × NothingHeld u))
unfolding asked_drained drained_of
drained_exactly u w went =
    let answer : record { refusal = 0; drained = drained_of u } ≡ asked_drained u = passes _ _ _ (not_denied w) ends in
    subst (λ (a : Drained). (a.refusal ≡ 0) × ((a.drained ≡ true) ↔ ((u.program.n.0 ≤ u.count.0) × NothingHeld u))) answer (refl, (says, tested))
  where
    Tested : Bool → Type 0
    Tested t = (not t || leb u.program.n.0 u.count.0 && all_empty u.fetched (in_decoded u.decoded) (in_executed u.executed)) ≡ true

    says : drained_of u ≡ true → (u.program.n.0 ≤ u.count.0) × NothingHeld u
    says e =
        let a = both (leb u.program.n.0 u.count.0) (all_empty u.fetched (in_decoded u.decoded) (in_executed u.executed)) (subst Tested went e) in
        (leb-true _ _ a.0, (nothing_held u).0 a.1)

    tested : (u.program.n.0 ≤ u.count.0) × NothingHeld u → drained_of u ≡ true
    tested d = rw (went, le-leb _ _ d.0) ((nothing_held u).1 d.1)

-- "unit, register file and buffers stay unaltered: a unit .. passed by value comes back as it was given"
pub cycle_refused : (u : Unit) → ((cycled_of u).refusal ≡ 0 → ⊥) → (cycled_of u).unit ≡ u
unfolding cycled_of
cycle_refused u = each Kept _ _ (λ h. refl, (λ h. refl, tt)) (λ h. absurd (h refl))
  where
    Kept : Cycled → Type 0
    Kept a = (a.refusal ≡ 0 → ⊥) → a.unit ≡ u

pub go_refused : (u : Unit) → ((go_of u).refusal ≡ 0 → ⊥) → (go_of u).unit ≡ u
unfolding go_of
go_refused u = each Kept _ _ (λ h. refl, tt) (λ h. absurd (h refl))
  where
    Kept : Gone → Type 0
    Kept a = (a.refusal ≡ 0 → ⊥) → a.unit ≡ u

pub run_refused : (u : Unit) (k : ℕ) → ((ran_of u k).refusal ≡ 0 → ⊥) → (ran_of u k).unit ≡ u
unfolding ran_of
run_refused u k = each Kept _ _ (λ h. refl, tt) (λ h. absurd (h refl))
  where
    Kept : Ran → Type 0
    Kept a = (a.refusal ≡ 0 → ⊥) → a.unit ≡ u

-- a cycle that is not made, and a run of none, leave the unit
cycle_keeps : (u : Unit) → cycles_in cycle u ≡ 0 → (cycled_of u).unit ≡ u
cycle_keeps u m = cycle_refused u (λ e. absurd (one_not_none (sym (ap made_unless e) ∙ m)))
  where
    one_not_none : ◌≡◌ {A = ℕ} 1 0 → ⊥
    one_not_none e = omega arith

none_gone : (k : ℕ) (u : Unit) → (goes_on k u).0 ≡ 0 → (goes_on k u).1 ≡ u
unfolding goes_on
none_gone zero u m = refl
none_gone (suc k) u m = case (drained_of u) m
  where
    case : (t : Bool) → (cond {A = ℕ × Unit} t (0, u) ((goes_on k (cycle_of u)).0 + 1, (goes_on k (cycle_of u)).1)).0 ≡ 0
        → (cond {A = ℕ × Unit} t (0, u) ((goes_on k (cycle_of u)).0 + 1, (goes_on k (cycle_of u)).1)).1 ≡ u
    case true m = refl
    case false m = absurd (omega arith)

run_keeps : (u : Unit) (k : ℕ) → (ran_of u k).made ≡ 0 → (ran_of u k).unit ≡ u
unfolding ran_of
run_keeps u k = each Kept _ _ (λ h. refl, tt) (none_gone k u)
  where
    Kept : Ran → Type 0
    Kept a = a.made ≡ 0 → a.unit ≡ u

-- every call leaves a well-made unit well made, and so are all units that calls make of a fresh one
pub kept_well_made : (x : Call) (u : Unit) → well_made_of u ≡ true → well_made_of (unit_after x u) ≡ true
kept_well_made x u w = well_made_after u w x

pub reached_well_made : (calls : List Call) → well_made_of (unit_after_all calls fresh_of) ≡ true
reached_well_made calls = kept_made calls fresh_of fresh_drained.1

-- "Only a start or a cycle alters the registers", and of a start the load: a go leaves them, and the program; and any call in which no cycle is made leaves the whole unit, but a go and a load that
-- are accepted
pub go_keeps : (u : Unit) → ((go_of u).unit.registers ≡ u.registers) × ((go_of u).unit.program ≡ u.program)
unfolding go_of
go_keeps u = each Kept _ _ ((refl, refl), tt) (refl, refl)
  where
    Kept : Gone → Type 0
    Kept a = (a.unit.registers ≡ u.registers) × (a.unit.program ≡ u.program)

pub others_keep : (x : Call) (u : Unit) → renews x u ≡ false → cycles_in x u ≡ 0 → unit_after x u ≡ u
others_keep (load file) u none m = load_refused file u (eqb-false (load_of file u).refusal 0 none)
others_keep go u none m = go_refused u (eqb-false (go_of u).refusal 0 none)
others_keep cycle u none m = cycle_keeps u m
others_keep (row true) u none m = cycle_keeps u m
others_keep (row false) u none m = refl
others_keep (run k) u none m = run_keeps u k m
others_keep (register i) u none m = refl
others_keep drained u none m = refl

-- Every call on a unit "tests 10 first"; the unit comes back as it was given
pub ill_made_refused : (u : Unit) → well_made_of u ≡ false
    → ((file : List ℕ) → ◌≡◌ {A = Loaded} (load_of file u) (record { refusal = STATE; place = 0; unit = u }))
    × (◌≡◌ {A = Gone} (go_of u) (record { refusal = STATE; unit = u }))
    × (◌≡◌ {A = Cycled} (cycled_of u) (record { refusal = STATE; unit = u }))
    × ((k : ℕ) → ◌≡◌ {A = Ran} (ran_of u k) (record { refusal = STATE; made = 0; unit = u }))
    × ((i : ℕ) → ◌≡◌ {A = RegisterAnswer} (register_of u i) (record { refusal = STATE; register = zero_register }))
    × (◌≡◌ {A = Drained} (asked_drained u) (record { refusal = STATE; drained = false }))
unfolding cycled_of ran_of register_of asked_drained
ill_made_refused u h =
    let refused = denied h in (λ file. load_ill_made file u h, go_ill_made u h, sym (stops _ _ refused), λ k. sym (stops _ _ refused), λ i. sym (stops _ _ refused), sym (stops _ _ refused))
