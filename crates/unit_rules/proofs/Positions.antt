-- Where count and latches stand, and when a unit is drained: of any record whose count and latches are where its cycle number puts them, whatever values
-- are latched. Carried by the five places that a cycle number can have with regard to n.
-- Assumes nothing.
use Rattle.unit_rules.proofs.Shared.{None, Some, ℕ, zero, suc, ◌+◌, ◌-◌, ◌≤◌, ◌<◌, min, ◌≡◌, refl, sym, ap, ◌∙◌, Bool, true, false, ◌&&◌, and-false, false≢true, List, add-one}
use Rattle.unit_rules.proofs.Shared.{arith, lt-ltb, le-ltb, le-leb, lt-leb, leb-true, leb-false, ltb-true, ltb-false, eqb-true, eqb-false}
use Rattle.unit_rules.proofs.Shared.{ne_eqb, eqb, ltb, leb, leb-zero, Register, IfId, IdEx, ExWb, Program, Unit, after_ex, after_id, after_if, Edition}
use Rattle.unit_rules.proofs.Shared.{count_after, cycle_of, cycles_of, fetched_in, in_decoded, in_executed, is_empty, all_empty, drained_of, last_of, in_flight_of, unit_with, add-zero}
use Rattle.alu_rules.proofs.Integers.{either}

-- ---- what cycles leave alone

pub cycles_program : (c : ℕ) (u : Unit) → (cycles_of c u).program ≡ u.program
unfolding cycles_of cycle_of
cycles_program zero u = refl
cycles_program (suc c) u = cycles_program c u

pub cycles_number : (c : ℕ) (u : Unit) → (cycles_of c u).cycle ≡ u.cycle + c
unfolding cycles_of cycle_of
cycles_number zero u = omega arith
cycles_number (suc c) u = let h = cycles_number c u in omega arith

pub cycles_gone : (c : ℕ) (u : Unit) → (cycles_of c u).gone ≡ u.gone
unfolding cycles_of cycle_of
cycles_gone zero u = refl
cycles_gone (suc c) u = cycles_gone c u

-- all that they change are registers, what is in flight and the cycle number
pub taken_apart : (c : ℕ) (u : Unit) → cycles_of c u ≡ unit_with u c (cycles_of c u).registers (in_flight_of (cycles_of c u))
unfolding cycles_of cycle_of
taken_apart zero u = rw (add-zero u.cycle)
taken_apart (suc c) u =
    let v : Unit = cycles_of c u in
    let number : u.cycle + c + 1 ≡ u.cycle + suc c = omega arith in
    let once_more : unit_with (unit_with u c v.registers (in_flight_of v)) 1 (cycle_of v).registers (in_flight_of (cycle_of v))
    ≡ unit_with u (suc c) (cycle_of v).registers (in_flight_of (cycle_of v)) = rw number in
    ap (λ (w : Unit). unit_with w 1 (cycle_of v).registers (in_flight_of (cycle_of v))) (taken_apart c u) ∙ once_more

-- count and latches are where the cycle number puts them
pub record Placed (u : Unit) : Type 0 where
  pub counted : u.count.0 ≡ min u.cycle u.program.n.0
  pub in_if_id : u.fetched ≡ fetched_in u.program u.cycle
  pub in_id_ex : in_decoded u.decoded ≡ fetched_in u.program (u.cycle - 1)
  pub in_ex_wb : in_executed u.executed ≡ fetched_in u.program (u.cycle - 2)

-- ---- a cycle later

-- in the cycle after c, with the count where it then is, IF delivers what is fetched in cycle c + 1
pub fetch_min : (p : Program) (c : ℕ) → after_if p (min c p.n.0) ≡ fetched_in p (suc c)
fetch_min p c =
    let n = p.n.0 in
    either c n
    (λ h. let m : min c n ≡ c = omega arith in rw m)
    (λ h. let m : min c n ≡ n = omega arith in rw (m, le-ltb n n (omega arith), le-ltb c n h))

pub next_min : (n c : ℕ) → count_after n (min c n) ≡ min (c + 1) n
next_min n c =
    either c n
    (λ h. let m : min c n ≡ c = omega arith in rw (m, lt-ltb c n h) (omega arith))
    (λ h. let m : min c n ≡ n = omega arith in rw (m, le-ltb n n (omega arith)) (omega arith))

pub id_keeps : (z : IfId) (f : List Register) → in_decoded (after_id z f) ≡ z
id_keeps None f = refl
id_keeps (Some i) f = refl

pub ex_keeps : (x : ExWb) (y : IdEx) → in_executed (after_ex x y) ≡ in_decoded y
ex_keeps x None = refl
ex_keeps x (Some (i, o)) = refl

pub placed_cycle : (u : Unit) → Placed u → Placed (cycle_of u)
unfolding cycle_of
placed_cycle u h =
    let before : u.cycle ≡ u.cycle + 1 - 1 = omega arith in
    let before-that : u.cycle - 1 ≡ u.cycle + 1 - 2 = omega arith in
    record {
      counted = rw h.counted (next_min u.program.n.0 u.cycle);
      in_if_id = rw h.counted (fetch_min u.program u.cycle ∙ ap (fetched_in u.program) (sym (add-one u.cycle)));
      in_id_ex = id_keeps u.fetched _ ∙ h.in_if_id ∙ ap (fetched_in u.program) before;
      in_ex_wb = ex_keeps u.executed u.decoded ∙ h.in_id_ex ∙ ap (fetched_in u.program) before-that;
    }

pub placed_cycles : (c : ℕ) (u : Unit) → Placed u → Placed (cycles_of c u)
unfolding cycles_of
placed_cycles zero u h = h
placed_cycles (suc c) u h = placed_cycle (cycles_of c u) (placed_cycles c u h)

-- ---- drained

-- in cycles 1 to n something is fetched, and in no other
something : (p : Program) (c : ℕ) → 0 < c → c ≤ p.n.0 → is_empty (fetched_in p c) ≡ false
something p zero h l = absurd (omega arith)
something p (suc k) h l = rw (lt-ltb k p.n.0 l)

nothing : (p : Program) (c : ℕ) → p.n.0 < c → is_empty (fetched_in p c) ≡ true
nothing p zero h = refl
nothing p (suc k) h = rw (le-ltb k p.n.0 (omega arith))

emptied : Program → ℕ → Bool
emptied p c = leb p.n.0 (min c p.n.0) && all_empty (fetched_in p c) (fetched_in p (c - 1)) (fetched_in p (c - 2))

drained_held : (u : Unit) → u.gone ≡ true → Placed u → drained_of u ≡ emptied u.program u.cycle
unfolding drained_of emptied
drained_held u went h = rw (went, h.counted, h.in_if_id, h.in_id_ex, h.in_ex_wb)

-- c is past the last cycle; before n; or n, n + 1 or n + 2
data Where (n c : ℕ) : Type 0 where
  past : n + 3 ≤ c → Where n c
  fetching : c < n → Where n c
  at_0 : c ≡ n → Where n c
  at_1 : c ≡ n + 1 → Where n c
  at_2 : c ≡ n + 2 → Where n c

whereabouts : (n c : ℕ) → Where n c
whereabouts n c = go (leb (n + 3) c) (ltb c n) (eqb c n) (eqb c (n + 1)) refl refl refl refl
  where
    go : (s t x y : Bool) → leb (n + 3) c ≡ s → ltb c n ≡ t → eqb c n ≡ x → eqb c (n + 1) ≡ y → Where n c
    go true t x y qs qt qx qy = past (leb-true (n + 3) c qs)
    go false true x y qs qt qx qy = fetching (ltb-true c n qt)
    go false false true y qs qt qx qy = at_0 (eqb-true c n qx)
    go false false false true qs qt qx qy = at_1 (eqb-true c (n + 1) qy)
    go false false false false qs qt qx qy =
        at_2 (omega (arith, leb-false (n + 3) c qs, ltb-false c n qt, eqb-false c n qx, eqb-false c (n + 1) qy))

all_empty_lem : (edition : Edition) (words : List ℕ) (n c : ℕ) → emptied (record { words = words; n = record { 0 = n }; edition = edition }) c ≡ leb (last_of n) c
unfolding emptied
all_empty_lem edition words zero c = simp (no_lines, leb-zero)
  where
    no_lines : (k : ℕ) → is_empty (fetched_in (record { words = words; n = record { 0 = 0 }; edition = edition }) k) ≡ true
    no_lines zero = refl
    no_lines (suc k) = nothing (record { words = words; n = record { 0 = 0 }; edition = edition }) (suc k) (omega arith)
all_empty_lem edition words (suc n) c = rw (ne_eqb (suc n) 0 (omega arith)) (go (whereabouts (suc n) c))
  where
    p : Program
    p = record { words = words; n = record { 0 = suc n }; edition = edition }

    go : Where (suc n) c → emptied p c ≡ leb (suc n + 3) c
    go (past h) =
        simp (
          le-leb (suc n + 3) c h,
          le-leb (suc n) (min c (suc n)) (omega arith),
          nothing p c (omega arith),
          nothing p (c - 1) (omega arith),
          nothing p (c - 2) (omega arith),
        )
    go (fetching h) = simp (lt-leb (suc n + 3) c (omega arith), lt-leb (suc n) (min c (suc n)) (omega arith))
    go (at_0 h) = simp (lt-leb (suc n + 3) c (omega arith), something p c (omega arith) (omega arith), and-false)
    go (at_1 h) = simp (lt-leb (suc n + 3) c (omega arith), something p (c - 1) (omega arith) (omega arith), and-false)
    go (at_2 h) = simp (lt-leb (suc n + 3) c (omega arith), something p (c - 2) (omega arith) (omega arith), and-false)

-- a unit that has gone is drained exactly from the last cycle on
pub drained_is : (u : Unit) → u.gone ≡ true → Placed u → drained_of u ≡ leb (last_of u.program.n.0) u.cycle
drained_is u went h = drained_held u went h ∙ all_empty_lem u.program.edition u.program.words u.program.n.0 u.cycle

pub drained_after : (u : Unit) → u.gone ≡ true → Placed u → (c : ℕ) → drained_of (cycles_of c u) ≡ leb (last_of u.program.n.0) (u.cycle + c)
drained_after u went h c =
    drained_is (cycles_of c u) (cycles_gone c u ∙ went) (placed_cycles c u h) ∙ rw (cycles_program c u, cycles_number c u)

-- one that has not gone is
pub drained_loaded : (u : Unit) → u.gone ≡ false → drained_of u ≡ true
unfolding drained_of
drained_loaded u still = rw still

pub gone_unless : (u : Unit) → (u.gone ≡ false → ⊥) → u.gone ≡ true
gone_unless u h = go u.gone refl
  where
    go : (t : Bool) → u.gone ≡ t → t ≡ true
    go true q = refl
    go false q = absurd (h q)

pub not_drained_gone : (u : Unit) → drained_of u ≡ false → u.gone ≡ true
not_drained_gone u h = gone_unless u (λ still. false≢true (sym h ∙ drained_loaded u still))
