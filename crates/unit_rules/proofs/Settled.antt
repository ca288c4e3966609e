-- When all that a unit's latches hold is told by its registers, and that the registers are then what the plain machine leaves, line by line. Carried by `held_on` and
-- `settles` of crate `pipeline`.
-- Assumes nothing.
use Rattle.unit_rules.proofs.Shared.{None, Some, ℕ, zero, suc, ◌+◌, ◌-◌, ◌≤◌, ◌<◌, min, ◌≡◌, refl, sym, ap, subst, ◌∙◌, Bool, true, false, cond, false≢true, List}
use Rattle.unit_rules.proofs.Shared.{arith, ltb-true, ltb-false, ltb, get_or, take, drop, length, get_or-take, take_all, length-take-le, length-drop}
use Rattle.unit_rules.proofs.Shared.{Register, step_on, plain_on, step, plain, one_more, IfId, IdEx, ExWb, Program, lines_of, Unit}
use Rattle.unit_rules.proofs.Shared.{instruction_at, fetched_in, after_ex, after_id, cycles_of, in_decoded, in_executed, is_empty, gone_of, in_flight_of, unit_with, Whole}
use lib.Seq.{get_or-drop}
use Rattle.pipeline.proofs.Stages.{Slot, Pipe, GoodIn, instr_in, executed, executed_all, cycled, cycled_all, behind, holding, done, held_on, settles}
use Rattle.unit_rules.specs.declared.Instruction.{Instruction}
use Rattle.unit_rules.specs.declared.InFlight.{InFlight}
use Rattle.unit_rules.specs.Settled.{settled_flight, Settled}
use Rattle.unit_rules.proofs.Positions.{Placed, placed_cycles, id_keeps, ex_keeps, cycles_program, cycles_number, taken_apart}
use Rattle.unit_rules.proofs.AsPipeline.{machine, Storable, lawful, slot_of, slot_of_id_ex, slot_of_ex_wb, pipe_with, pipe_of, same_flight, as_id, stream, cycles_piped, good_fetched}

-- ---- a settled unit as a pipeline

-- what reaches WB from cycle c + 1 on: what was fetched three cycles before
abbrev reaching : Program → ℕ → ℕ → Slot Instruction
reaching p c k = slot_of (fetched_in p (c + k - 2))

as_done : (z : IfId) (f : List Register) → slot_of_ex_wb (after_ex None (after_id z f)) ≡ done machine (slot_of z) f
as_done None f = refl
as_done (Some i) f = refl

settled_piped : (p : Program) (c : ℕ) (f : List Register)
    → pipe_with f (settled_flight p c f) ≡ holding machine f (slot_of (fetched_in p (c - 2))) (slot_of (fetched_in p (c - 1))) (slot_of (fetched_in p c))
settled_piped p c f =
    let read = as_id (fetched_in p (c - 1)) f in
    let made = as_done (fetched_in p (c - 2)) f in
    λ i. record { file = f; ifid = slot_of (fetched_in p c); idex = read i; exwb = made i }

-- its latches hold what they should
pub id_told : (p : Program) (c : ℕ) (f : List Register) → in_decoded (settled_flight p c f).decoded ≡ fetched_in p (c - 1)
id_told p c f = id_keeps (fetched_in p (c - 1)) f

pub ex_told : (p : Program) (c : ℕ) (f : List Register) → in_executed (settled_flight p c f).executed ≡ fetched_in p (c - 2)
ex_told p c f = ex_keeps None (after_id (fetched_in p (c - 2)) f) ∙ id_keeps (fetched_in p (c - 2)) f

settled_placed : (u : Unit) → Settled u → Placed u
settled_placed u e = record {
  counted = ap (λ (l : InFlight). l.count.0) e;
  in_if_id = ap (λ (l : InFlight). l.fetched) e;
  in_id_ex = ap (λ (l : InFlight). in_decoded l.decoded) e ∙ id_told u.program u.cycle u.registers;
  in_ex_wb = ap (λ (l : InFlight). in_executed l.executed) e ∙ ex_told u.program u.cycle u.registers;
}

-- ---- a settled unit stays so

module _ (u : Unit) (settled : Settled u) (whole : Whole u.registers) where
  abbrev p : Program
  p = u.program

  abbrev c : ℕ
  c = u.cycle

  abbrev f : List Register
  f = u.registers

  abbrev next : ℕ → Slot Instruction
  next = behind machine (slot_of (fetched_in p (c - 2))) (slot_of (fetched_in p (c - 1))) (slot_of (fetched_in p c)) (stream p c)

  next_reaches : (k : ℕ) → next k ≡ reaching p c k
  next_reaches zero = let q : c - 2 ≡ c + 0 - 2 = omega arith in ap (λ (j : ℕ). slot_of (fetched_in p j)) q
  next_reaches (suc zero) = let q : c - 1 ≡ c + 1 - 2 = omega arith in ap (λ (j : ℕ). slot_of (fetched_in p j)) q
  next_reaches (suc (suc zero)) = let q : c ≡ c + 2 - 2 = omega arith in ap (λ (j : ℕ). slot_of (fetched_in p j)) q
  next_reaches (suc (suc (suc k))) = let q : suc (c + k) ≡ c + suc (suc (suc k)) - 2 = omega arith in ap (λ (j : ℕ). slot_of (fetched_in p j)) q

  good_next : (k : ℕ) → GoodIn machine Storable (next k)
  good_next k = subst (GoodIn machine Storable) (sym (next_reaches k)) (good_fetched p (c + k - 2))

  held : (t : ℕ) → (let x = reaching p c in pipe_of (cycles_of t u) ≡ holding machine (executed_all machine x t f) (x t) (x (suc t)) (x (suc (suc t))))
  held t =
      cycles_piped u (settled_placed u settled) t
      ∙ ap (cycled_all machine (stream p c) t) (ap (pipe_with f) settled ∙ settled_piped p c f)
      ∙ held_on machine Storable Whole lawful (stream p c) f whole (slot_of (fetched_in p (c - 2))) (slot_of (fetched_in p (c - 1))) (slot_of (fetched_in p c)) good_next t
      ∙ ap (λ (x : ℕ → Slot Instruction). holding machine (executed_all machine x t f) (x t) (x (suc t)) (x (suc (suc t)))) (λ i k. next_reaches k i)

  stays : (t : ℕ) → (let g = executed_all machine (reaching p c) t f in cycles_of t u ≡ unit_with u t g (settled_flight p (c + t) g))
  stays t =
      let g : List Register = executed_all machine (reaching p c) t f in
      let in-ID : c + suc t - 2 ≡ c + t - 1 = omega arith in
      let in-IF : c + suc (suc t) - 2 ≡ c + t = omega arith in
      let count = (placed_cycles t u (settled_placed u settled)).counted ∙ (λ i. min (cycles_number t u i) (cycles_program t u i).n.0) in
      let flight = same_flight (in_flight_of (cycles_of t u)) (settled_flight p (c + t) g) (cycles_of t u).registers g count
      (held t
      ∙ (λ i. holding machine g (slot_of (fetched_in p (c + t - 2))) (slot_of (fetched_in p (in-ID i))) (slot_of (fetched_in p (in-IF i))))
      ∙ sym (settled_piped p (c + t) g)) in
      let registers = ap (λ (s : Pipe machine). s.file) (held t) in
      taken_apart t u ∙ (λ i. unit_with u t (registers i) (flight i))

-- ---- and its registers are the plain machine's

-- how many lines complete in t cycles behind cycle c: from line c - 3 to before line c + t - 3, where `-` stops at 0
abbrev pub many : ℕ → ℕ → ℕ
many c t = c + t - 3 - (c - 3)

many_at : (c t k : ℕ) → c + t - 2 ≡ suc k → c - 3 + many c t ≡ k
many_at c t k q = omega arith

many_more : (c t k : ℕ) → c + t - 2 ≡ suc k → many c (suc t) ≡ suc (many c t)
many_more c t k q = omega arith

module _ (p : Program) (enough : p.n.0 ≤ length p.words) (c : ℕ) (f : List Register) where
  abbrev behind_those : List ℕ
  behind_those = drop (c - 3) (lines_of p)

  size : length behind_those ≡ p.n.0 - (c - 3)
  size = length-drop (c - 3) (lines_of p) ∙ ap (λ (l : ℕ). l - (c - 3)) (length-take-le p.n.0 p.words enough)

  abbrev completed : ℕ → List Register
  completed t = plain p.edition (take (many c t) behind_those) f

  one_completed : (t : ℕ) → executed machine (reaching p c t) (completed t) ≡ completed (suc t)
  unfolding step_on
  one_completed t = go (c + t - 2) refl
    where
      inside : (k : ℕ) → c - 3 + many c t ≡ k → k < p.n.0 → many c t < length behind_those
      inside k at below = rw size (omega arith)

      outside : (k : ℕ) → c - 3 + many c t ≡ k → p.n.0 ≤ k → length behind_those ≤ many c t
      outside k at beyond = rw size (omega arith)

      line : (k : ℕ) → c + t - 2 ≡ suc k → (b : Bool) → ltb k p.n.0 ≡ b
          → executed machine (slot_of (cond b (Some (instruction_at p k)) None)) (completed t) ≡ completed (suc t)
      line k q true l =
          let below = ltb-true k p.n.0 l in
          let at = many_at c t k q in
          sym (ap (λ (j : ℕ). plain p.edition (take j behind_those) f) (many_more c t k q)
          ∙ one_more p.edition behind_those (many c t) f (inside k at below)
          ∙ ap (λ (w : ℕ). step p.edition w (completed t))
          (get_or-drop (c - 3) (lines_of p) (many c t) 0 ∙ ap (λ (j : ℕ). get_or (lines_of p) j 0) at ∙ get_or-take p.n.0 p.words k 0 below))
      line k q false l =
          let few = outside k (many_at c t k q) (ltb-false k p.n.0 l) in
          let more = many_more c t k q in
          ap (λ (w : List ℕ). plain p.edition w f) (take_all (many c t) behind_those few ∙ sym (take_all (many c (suc t)) behind_those (omega arith)))

      go : (j : ℕ) → c + t - 2 ≡ j → executed machine (slot_of (fetched_in p j)) (completed t) ≡ completed (suc t)
      go zero q = let none : many c t ≡ many c (suc t) = omega arith in ap (λ (j : ℕ). plain p.edition (take j behind_those) f) none
      go (suc k) q = line k q (ltb k p.n.0) refl

  all_completed : (t : ℕ) → executed_all machine (reaching p c) t f ≡ completed t
  unfolding plain_on
  all_completed zero = let none : many c 0 ≡ 0 = omega arith in rw none
  all_completed (suc t) = ap (executed machine (reaching p c t)) (all_completed t) ∙ one_completed t

-- t cycles on, a settled unit has the registers that the plain machine leaves after the lines that complete, and these tell what is in flight
pub settled_on : (u : Unit) → Settled u → Whole u.registers → u.program.n.0 ≤ length u.program.words → (t : ℕ)
    → (let g = plain u.program.edition (take (many u.cycle t) (drop (u.cycle - 3) (lines_of u.program))) u.registers in
    cycles_of t u ≡ unit_with u t g (settled_flight u.program (u.cycle + t) g))
settled_on u settled whole enough t =
    stays u settled whole t
    ∙ ap (λ (g : List Register). unit_with u t g (settled_flight u.program (u.cycle + t) g)) (all_completed u.program enough u.cycle u.registers t)

-- ---- what is settled

good_decoded : (u : Unit) → Placed u → GoodIn machine Storable (instr_in machine (slot_of_id_ex u.decoded))
good_decoded u h = subst (GoodIn machine Storable) (sym (as_held u.decoded ∙ ap slot_of h.in_id_ex)) (good_fetched u.program (u.cycle - 1))
  where
    as_held : (y : IdEx) → instr_in machine (slot_of_id_ex y) ≡ slot_of (in_decoded y)
    as_held None = refl
    as_held (Some (i, o)) = refl

-- from a go on
pub gone_settled : (u : Unit) → Settled (gone_of u)
gone_settled u =
    let none : 0 ≡ min 0 u.program.n.0 = omega arith in
    λ i. record { count = record { 0 = none i }; fetched = None; decoded = None; executed = None }

-- before cycle 2, since no value has been latched
pub nothing_decoded : (y : IdEx) → in_decoded y ≡ None → y ≡ None
nothing_decoded None e = refl
nothing_decoded (Some (i, o)) e = absurd (false≢true (ap is_empty e))

pub nothing_executed : (x : ExWb) → in_executed x ≡ None → x ≡ None
nothing_executed None e = refl
nothing_executed (Some (i, o)) e = absurd (false≢true (ap is_empty e))

pub settled_early : (u : Unit) → Placed u → u.cycle < 2 → Settled u
settled_early u h early =
    let p = u.program in
    let first : u.cycle - 1 ≡ 0 = omega arith in
    let second : u.cycle - 2 ≡ 0 = omega arith in
    let decoded = nothing_decoded u.decoded (h.in_id_ex ∙ ap (fetched_in p) first) ∙ ap (λ (c : ℕ). after_id (fetched_in p c) u.registers) (sym first) in
    let executed = nothing_executed u.executed (h.in_ex_wb ∙ ap (fetched_in p) second)
    ∙ ap (λ (c : ℕ). after_ex None (after_id (fetched_in p c) u.registers)) (sym second) in
    λ i. record { count = record { 0 = h.counted i }; fetched = h.in_if_id i; decoded = decoded i; executed = executed i }

-- two cycles after any record whose count and latches are where its cycle number puts them, whatever values were latched
pub settled_in_two : (u : Unit) → Placed u → Whole u.registers → Settled (cycles_of 2 u)
settled_in_two u h whole =
    let p = u.program in
    let v : Unit = cycles_of 2 u in
    let line = stream p u.cycle in
    let piped : pipe_of v ≡ cycled machine (line 1) (cycled machine (line 0) (pipe_of u)) = cycles_piped u h 2 in
    let told = settles machine Storable Whole lawful (pipe_of u) whole (good_decoded u h) (line 0) (line 1) in
    let file = ap (λ (s : Pipe machine). s.file) (sym piped) in
    let number = cycles_number 2 u in
    let in-EX : u.cycle ≡ v.cycle - 2 = omega arith in
    let in-ID : suc (u.cycle + 0) ≡ v.cycle - 1 = omega arith in
    let in-IF : suc (u.cycle + 1) ≡ v.cycle = omega arith in
    let same = sym (cycles_program 2 u) in
    let waiting = ap slot_of h.in_if_id ∙ (λ i. slot_of (fetched_in (same i) (in-EX i))) in
    same_flight (in_flight_of v) (settled_flight v.program v.cycle v.registers) v.registers v.registers (placed_cycles 2 u h).counted
    (piped ∙ told ∙ (λ i. holding machine (file i) (waiting i) (slot_of (fetched_in (same i) (in-ID i))) (slot_of (fetched_in (same i) (in-IF i))))
    ∙ sym (settled_piped v.program v.cycle v.registers))

-- so after c cycles from a go the registers are what the plain machine leaves after the first c - 3 lines, and these tell what is in flight
pub unit_after_lem : (u : Unit) → Whole u.registers → u.program.n.0 ≤ length u.program.words → (c : ℕ)
    → (let g = plain u.program.edition (take (c - 3) (lines_of u.program)) u.registers in cycles_of c (gone_of u) ≡ unit_with (gone_of u) c g (settled_flight u.program c g))
unit_after_lem u whole enough c =
    let all : 0 + c ≡ c = omega arith in
    let first : 0 + c - 3 - 0 ≡ c - 3 = omega arith in
    settled_on (gone_of u) (gone_settled u) whole enough c
    ∙ (λ i. let g = plain u.program.edition (take (first i) (lines_of u.program)) u.registers in unit_with (gone_of u) c g (settled_flight u.program (all i) g))
