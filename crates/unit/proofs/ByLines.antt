-- Many cycles at once, by the lines that complete in them. Carried by `settled_on`, `settled_early` and `settled_in_two` of crate `unit_rules`.
-- Assumes nothing.
use Rattle.unit_rules.proofs.Shared.{ℕ, zero, suc, ◌+◌, ◌-◌, ◌≤◌, ◌<◌, ◌≡◌, refl, sym, ap, subst, ◌∙◌, true, List, [], ◌∷◌, map, arith, length, take, drop, Register}
use Rattle.unit_rules.proofs.Shared.{plain, cycles_of, cond, Bool, false, eqb, last_of, well_made_of, unit_with, Whole}
use Rattle.unit_rules.proofs.Shared.{map-id}
use lib.ListN.{length-map}
use lib.Seq.{take-take}
use Rattle.unit_rules.specs.declared.Unit.{Unit}
use Rattle.unit_rules.specs.declared.InFlight.{InFlight}
use Rattle.unit_rules.specs.Settled.{settled_flight, Settled}
use Rattle.unit_rules.proofs.Settled.{many, settled_on, settled_early, settled_in_two}
use Rattle.unit_rules.proofs.WellMade.{well_made_says, last_small, well_made_test, well_made_cycles, gone_later, cycles_join}
use Rattle.unit_rules.proofs.Positions.{cycles_program, cycles_number}

-- the registers of a unit are 32: as a field of a struct the checker knows them as the fields of each
pub whole_field : {X : Type 0} (f : Register → X) (l : List Register) → length (map f l) ≡ 32 → Whole l
whole_field f l e = sym (length-map l f) ∙ e

-- and so is a number up to the size of an array that is a field
pub within : (l : List ℕ) (i n : ℕ) → length (map (λ (x : ℕ). x) l) ≡ n → i ≤ n → i ≤ length l
within l i n e h = let f : length l ≡ n = sym (ap length (map-id l)) ∙ e in omega arith

-- at most n lines have completed
pub lines_completed : (n c : ℕ) → c ≤ last_of n → c - 3 ≤ n
lines_completed n c h = go (eqb n 0) h
  where
    go : (t : Bool) → c ≤ cond t 0 (n + 3) → c - 3 ≤ n
    go true l = omega arith
    go false l = omega arith

-- a part of a list's first n is that part of the list
part : (s k n : ℕ) (l : List ℕ) → s + k ≤ n → take k (drop s (take n l)) ≡ take k (drop s l)
part zero k n l h = take-take k n l (omega arith)
part (suc s) k zero l h = absurd (omega arith)
part (suc s) k (suc n) [] h = refl
part (suc s) k (suc n) (x ∷ l) h = part s k n l (omega arith)

-- what is added and cut out is in range
module _ (u : Unit) (made : well_made_of u ≡ true) (m : ℕ) (fits : u.cycle + m ≤ last_of u.program.n.0) where
  pub in_67_cycles : u.cycle + m ≤ 67
  in_67_cycles = let last = last_small u made in omega arith

  pub in_64_lines : {c end : ℕ} → c ≡ u.cycle + m → end ≡ c - 3 → end ≤ 64
  in_64_lines reached e = let few = (well_made_says u made).few in let lines = lines_completed u.program.n.0 (u.cycle + m) fits in omega arith

module _ (u : Unit) (m : ℕ) (settled : Settled u) (enough : u.program.n.0 ≤ length u.program.words) (whole : Whole u.registers)
    (fits : u.cycle + m ≤ last_of u.program.n.0) where
  pub by_lines : {start end : ℕ} → start ≡ u.cycle - 3 → end ≡ u.cycle + m - 3
      → {g : List Register} → g ≡ plain u.program.edition (take (end - start) (drop start u.program.words)) u.registers
      → {l : InFlight} → l ≡ settled_flight u.program (u.cycle + m) g
      → {v : Unit} → v ≡ unit_with u m g l
      → v ≡ cycles_of m u
  by_lines es ee eg el ev =
      let lines = lines_completed u.program.n.0 (u.cycle + m) fits in
      let within = part (u.cycle - 3) (many u.cycle m) u.program.n.0 u.program.words (omega arith) in
      let file = eg ∙ (λ i. plain u.program.edition (take (ee i - es i) (drop (es i) u.program.words)) u.registers) ∙ ap (λ (l : List ℕ). plain u.program.edition l u.registers) (sym within) in
      ev ∙ ap (unit_with u m _) el ∙ ap (λ (g : List Register). unit_with u m g (settled_flight u.program (u.cycle + m) g)) file
      ∙ sym (settled_on u settled whole enough m)

-- ---- when a unit is settled

module _ (u : Unit) (made : well_made_of u ≡ true) where
  pub early : u.cycle < 2 → Settled u
  early h = settled_early u (well_made_says u made).placed h

  -- two cycles on, where there are more to make
  module _ (m : ℕ) (fits : u.cycle + m ≤ last_of u.program.n.0) (more : 3 ≤ m) {v : Unit} (two : v ≡ cycles_of 2 u) where
    pub settled_then : Whole u.registers → Settled v
    settled_then whole = subst Settled (sym two) (settled_in_two u (well_made_says u made).placed whole)

    -- from cycle 2 on a unit has gone
    pub made_then : 2 ≤ u.cycle → well_made_of v ≡ true
    made_then late = rw two (well_made_test (cycles_of 2 u) (well_made_cycles u (gone_later u (well_made_says u made) (omega arith)) (well_made_says u made) 2 (omega arith)))

    pub fits_then : v.cycle + (m - 2) ≤ last_of v.program.n.0
    fits_then = rw (two, cycles_program 2 u, cycles_number 2 u) (omega arith)

    pub then_on : {w : Unit} → w ≡ cycles_of (m - 2) v → w ≡ cycles_of m u
    then_on e =
        let all : 2 + (m - 2) ≡ m = omega arith in
        e ∙ ap (cycles_of (m - 2)) two ∙ cycles_join 2 (m - 2) u ∙ ap (λ (k : ℕ). cycles_of k u) all
