-- A well-made record, in the documents' words as equations, and the test of it. Carried by the laws of `Positions`; the comparison of latches is equality.
-- Assumes nothing.
use mathlib.Core.Bool.{and-eq-true_iff}
use Rattle.unit_rules.proofs.Shared.{Pointer, ℕ, zero, suc, ◌+◌, ◌-◌, ◌≤◌, ◌<◌, min, ◌≡◌, refl, sym, ap, ◌∙◌, Bool, true, false, cond, ◌&&◌, false≢true}
use Rattle.unit_rules.proofs.Shared.{add-zero, add-suc, arith, le-leb, leb-true, leb-false, eqb-true, eq-eqb, eqb, leb, Option, None, Some}
use Rattle.unit_rules.proofs.Shared.{get_or, zero_register, may_hold, first_bad, List, Register, Program, lines_of, IfId, Unit, fetched_in, cycle_of, cycles_of, in_decoded, in_executed, is_empty, all_empty, drained_of, last_of}
use Rattle.unit_rules.proofs.Shared.{same_target, same_instruction, same_held, program_made, numbers_made, run_made, rest_made, well_made_of, begun_of, goes_on}
use Rattle.unit_rules.specs.declared.Instruction.{Instruction}
use Rattle.unit_rules.proofs.Wired.{cycles_held}
use Rattle.unit_rules.proofs.Positions.{Placed, placed_cycle, placed_cycles, drained_is, cycles_program, cycles_number, cycles_gone, gone_unless}

-- "n is at most 64, its n words are below 2^25, the cycle number c is at most n+3 (0 when n is 0), the count is the smaller of c and n, and the latches
-- hold instructions c-1, c-2 and c-3, or nothing outside 0 .. n-1"; in the state "loaded and not gone" the cycle is 0, so that the count is zero and the latches are empty; and
-- register 0 holds what the edition lets it hold
pub record WellMade (u : Unit) : Type 0 where
  pub few : u.program.n.0 ≤ 64
  pub good : u.program.n.0 ≤ first_bad (lines_of u.program)
  pub held : may_hold u.program.edition (get_or u.registers 0 zero_register) ≡ true
  pub reached : u.cycle ≤ last_of u.program.n.0
  pub placed : Placed u
  pub resting : u.gone ≡ false → u.cycle ≡ 0

-- ---- the comparison of latches is equality

pub both : (a b : Bool) → (a && b) ≡ true → (a ≡ true) × (b ≡ true)
both a b e = (and-eq-true_iff a b).0 e

and_true : {a b : Bool} → a ≡ true → b ≡ true → (a && b) ≡ true
and_true e f = rw (e, f)

same_target_lem : (a b : Option Pointer) → same_target a b ≡ true → a ≡ b
same_target_lem None None e = refl
same_target_lem None (Some q) e = absurd (false≢true e)
same_target_lem (Some p) None e = absurd (false≢true e)
same_target_lem (Some p) (Some q) e = ap (λ (k : ℕ). Some (record { 0 = k })) (eqb-true p.0 q.0 e)

target_itself : (a : Option Pointer) → same_target a a ≡ true
target_itself None = refl
target_itself (Some p) = eq-eqb p.0 p.0 refl

same_instruction_lem : (i j : Instruction) → same_instruction i j ≡ true → i ≡ j
same_instruction_lem i j e =
    let a = both _ (same_target i.target j.target) e in
    let b = both _ (eqb i.third.0 j.third.0) a.0 in
    let c = both _ (eqb i.second.0 j.second.0) b.0 in
    let d = both (eqb i.word j.word) (eqb i.first.0 j.first.0) c.0 in
    let word = eqb-true _ _ d.0 in
    let first = eqb-true _ _ d.1 in
    let second = eqb-true _ _ c.1 in
    let third = eqb-true _ _ b.1 in
    let target = same_target_lem _ _ a.1 in
    λ k. record { word = word k; first = record { 0 = first k }; second = record { 0 = second k }; third = record { 0 = third k }; target = target k }

instruction_itself : (i : Instruction) → same_instruction i i ≡ true
instruction_itself i =
    rw (eq-eqb i.word i.word refl, eq-eqb i.first.0 i.first.0 refl, eq-eqb i.second.0 i.second.0 refl, eq-eqb i.third.0 i.third.0 refl)
    (target_itself i.target)

same_held_lem : (x y : IfId) → same_held x y ≡ true → x ≡ y
same_held_lem None None e = refl
same_held_lem None (Some j) e = absurd (false≢true e)
same_held_lem (Some i) None e = absurd (false≢true e)
same_held_lem (Some i) (Some j) e = ap Some (same_instruction_lem i j e)

held_same : {x y : IfId} → x ≡ y → same_held x y ≡ true
held_same {x} {y} e = sym (ap (same_held x) e) ∙ itself x
  where
    itself : (z : IfId) → same_held z z ≡ true
    itself None = refl
    itself (Some i) = instruction_itself i

-- ---- the test says what the documents say

pub empty_held : (x : IfId) → is_empty x ≡ true → x ≡ None
empty_held None e = refl
empty_held (Some i) e = absurd (false≢true e)

module _ (u : Unit) where
  abbrev n : ℕ
  n = u.program.n.0

  -- what is tested of register 0
  abbrev holds : Bool
  holds = may_hold u.program.edition (get_or u.registers 0 zero_register)

  -- what is tested behind that, by whether it has gone
  abbrev made : Bool → Bool
  made gone =
      cond gone
      (run_made u.program u.count.0 u.cycle u.fetched (in_decoded u.decoded) (in_executed u.executed))
      (rest_made u.count.0 u.cycle u.fetched (in_decoded u.decoded) (in_executed u.executed))

  -- of a unit that has gone
  run_says : made true ≡ true → (u.cycle ≤ last_of n) × Placed u
  run_says e =
      let split = both (numbers_made n u.count.0 u.cycle) _ e in
      let a = both (leb u.cycle (last_of n)) (eqb u.count.0 (min u.cycle n)) split.0 in
      let x = both _ (same_held (in_executed u.executed) (fetched_in u.program (u.cycle - 2))) split.1 in
      let y = both (same_held u.fetched (fetched_in u.program u.cycle)) (same_held (in_decoded u.decoded) (fetched_in u.program (u.cycle - 1))) x.0 in (
        leb-true _ _ a.0,
        record { counted = eqb-true _ _ a.1; in_if_id = same_held_lem _ _ y.0; in_id_ex = same_held_lem _ _ y.1; in_ex_wb = same_held_lem _ _ x.1 },
      )

  -- of one that has not
  rest_says : made false ≡ true → (u.cycle ≡ 0) × Placed u
  rest_says e =
      let split = both _ (all_empty u.fetched (in_decoded u.decoded) (in_executed u.executed)) e in
      let a = both (eqb u.count.0 0) (eqb u.cycle 0) split.0 in
      let x = both _ (is_empty (in_executed u.executed)) split.1 in
      let y = both (is_empty u.fetched) (is_empty (in_decoded u.decoded)) x.0 in
      let none = eqb-true u.count.0 0 a.0 in
      let at_0 = eqb-true u.cycle 0 a.1 in
      let before : 0 ≡ u.cycle - 1 = omega arith in
      let before-that : 0 ≡ u.cycle - 2 = omega arith in (
        at_0,
        record {
          counted = omega arith;
          in_if_id = empty_held _ y.0 ∙ ap (fetched_in u.program) (sym at_0);
          in_id_ex = empty_held _ y.1 ∙ ap (fetched_in u.program) before;
          in_ex_wb = empty_held _ x.1 ∙ ap (fetched_in u.program) before-that;
        },
      )

  pub well_made_says : well_made_of u ≡ true → WellMade u
  unfolding well_made_of
  well_made_says e =
      let split = both (program_made u.program && holds) _ e in
      let first = both (program_made u.program) holds split.0 in
      let few = both (leb n 64) (leb n (first_bad (lines_of u.program))) first.0 in
      go u.gone refl (leb-true _ _ few.0) (leb-true _ _ few.1) first.1 split.1
    where
      go : (t : Bool) → u.gone ≡ t → n ≤ 64 → n ≤ first_bad (lines_of u.program) → holds ≡ true → made t ≡ true → WellMade u
      go true q few good held e =
          let s = run_says e in record { few = few; good = good; held = held; reached = s.0; placed = s.1; resting = λ still. absurd (false≢true (sym still ∙ q)) }
      go false q few good held e =
          let s = rest_says e in record { few = few; good = good; held = held; reached = omega (arith, s.0); placed = s.1; resting = λ still. s.0 }

  run_test : u.cycle ≤ last_of n → Placed u → made true ≡ true
  run_test reached p =
      and_true
      (and_true (le-leb _ _ reached) (eq-eqb _ _ p.counted))
      (and_true (and_true (held_same p.in_if_id) (held_same p.in_id_ex)) (held_same p.in_ex_wb))

  pub rest_test : u.cycle ≡ 0 → Placed u → made false ≡ true
  rest_test at_0 p =
      let before : u.cycle - 1 ≡ 0 = omega arith in
      let before-that : u.cycle - 2 ≡ 0 = omega arith in
      and_true
      (and_true (eq-eqb u.count.0 0 (omega (arith, p.counted))) (eq-eqb u.cycle 0 at_0))
      (and_true
      (and_true (ap is_empty (p.in_if_id ∙ ap (fetched_in u.program) at_0)) (ap is_empty (p.in_id_ex ∙ ap (fetched_in u.program) before)))
      (ap is_empty (p.in_ex_wb ∙ ap (fetched_in u.program) before-that)))

  pub well_made_test : WellMade u → well_made_of u ≡ true
  unfolding well_made_of
  well_made_test w = and_true (and_true (and_true (le-leb _ _ w.few) (le-leb _ _ w.good)) w.held) (go u.gone refl)
    where
      go : (t : Bool) → u.gone ≡ t → made t ≡ true
      go true q = run_test w.reached w.placed
      go false q = rest_test (w.resting q) w.placed

-- "67 at most"
pub last_small : (u : Unit) → well_made_of u ≡ true → last_of u.program.n.0 ≤ 67
last_small u made = go (eqb u.program.n.0 0)
  where
    go : (t : Bool) → cond t 0 (u.program.n.0 + 3) ≤ 67
    go true = omega arith
    go false = omega (arith, (well_made_says u made).few)

-- a unit that has made a cycle has gone
pub gone_later : (u : Unit) → WellMade u → 0 < u.cycle → u.gone ≡ true
gone_later u w some = gone_unless u (λ still. omega (arith, w.resting still))

-- ---- well made from a load and from a go on

pub well_made_begun : (gone : Bool) (program : Program) (registers : List Register) → program.n.0 ≤ 64 → program.n.0 ≤ first_bad (lines_of program)
    → may_hold program.edition (get_or registers 0 zero_register) ≡ true → WellMade (begun_of gone program registers)
well_made_begun gone program registers few good held = record {
  few = few;
  good = good;
  held = held;
  reached = omega arith;
  placed = record { counted = omega arith; in_if_id = refl; in_id_ex = refl; in_ex_wb = refl };
  resting = λ still. refl;
}

pub well_made_cycles : (u : Unit) → u.gone ≡ true → WellMade u → (c : ℕ) → u.cycle + c ≤ last_of u.program.n.0 → WellMade (cycles_of c u)
well_made_cycles u went w c h =
    record {
      few = rw (cycles_program c u) w.few;
      good = rw (cycles_program c u) w.good;
      held = rw (cycles_program c u) (cycles_held c u w.placed ∙ w.held);
      reached = rw (cycles_program c u, cycles_number c u) h;
      placed = placed_cycles c u w.placed;
      resting = λ still. absurd (false≢true (sym still ∙ cycles_gone c u ∙ went));
    }

-- ---- cycles one after another, and a run

pub cycles_join : (c d : ℕ) (u : Unit) → cycles_of d (cycles_of c u) ≡ cycles_of (c + d) u
unfolding cycles_of
cycles_join c zero u = rw (add-zero c)
cycles_join c (suc d) u = rw (add-suc c d) (ap cycle_of (cycles_join c d u))

-- how many cycles a unit has left
abbrev pub left_of : Unit → ℕ
left_of u = last_of u.program.n.0 - u.cycle

pub goes_on_lem : (k : ℕ) (u : Unit) → u.gone ≡ true → Placed u → goes_on k u ≡ (min k (left_of u), cycles_of (min k (left_of u)) u)
unfolding goes_on cycles_of cycle_of
goes_on_lem zero u went h = let m : min zero (left_of u) ≡ 0 = omega arith in rw m
goes_on_lem (suc k) u went h = go (drained_of u) refl (goes_on_lem k (cycle_of u) went (placed_cycle u h))
  where
    go : (t : Bool) → drained_of u ≡ t → goes_on k (cycle_of u) ≡ (min k (left_of (cycle_of u)), cycles_of (min k (left_of (cycle_of u))) (cycle_of u))
        → ◌≡◌ {A = ℕ × Unit} (cond t (0, u) ((goes_on k (cycle_of u)).0 + 1, (goes_on k (cycle_of u)).1)) (min (suc k) (left_of u), cycles_of (min (suc k) (left_of u)) u)
    go true q later =
        let last = leb-true (last_of u.program.n.0) u.cycle (sym (drained_is u went h) ∙ q) in
        let m : min (suc k) (left_of u) ≡ 0 = omega arith in
        rw m
    go false q later =
        let more = leb-false (last_of u.program.n.0) u.cycle (sym (drained_is u went h) ∙ q) in
        let rest : ℕ = min k (left_of (cycle_of u)) in
        let m : min (suc k) (left_of u) ≡ 1 + rest = omega arith in
        let count : rest + 1 ≡ 1 + rest = omega arith in
        rw (later, m) (λ i. (count i, cycles_join 1 rest u i))
