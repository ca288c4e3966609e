-- Calls on a well-made unit: those of `cycle` that follow a go are cycles, and so are any calls until the next go or accepted load; a unit that has not gone rests; every call
-- leaves a well-made record. Carried by `drained_after` and `goes_on_lem`.
-- Assumes nothing.
use Rattle.unit_rules.proofs.Shared.{ℕ, zero, suc, ◌+◌, ◌-◌, ◌≤◌, ◌<◌, min, ◌≡◌, refl, sym, ap, ◌∙◌, Bool, true, false, List, []}
use Rattle.unit_rules.proofs.Shared.{◌∷◌, add-zero, arith, eqb-true, eqb-false, lt-leb, le-leb, leb-true, leb-false, eqb, leb, DRAINED}
use Rattle.unit_rules.proofs.Shared.{read_of, Unit, Cycled, Ran, cycles_of, drained_of, well_made_of, last_of, load_of, go_of, cycled_of}
use Rattle.unit_rules.proofs.Shared.{ran_of, goes_on, after_calls, Call, unit_after, made_unless, cycles_in, renews, unit_after_all, cycles_in_all, renews_in_all}
use Rattle.table.proofs.Decided.{stops, passes, ends, not_denied, neither_held}
use Rattle.unit_rules.specs.Answers.{Loaded, Gone}
use Rattle.unit_rules.specs.Sequence.Call.{load, go, cycle, row, run, register, drained}
use Rattle.unit_rules.proofs.Positions.{drained_after, not_drained_gone, cycles_program, cycles_number, cycles_gone}
use Rattle.unit_rules.proofs.WellMade.{WellMade, well_made_says, well_made_test, well_made_cycles, cycles_join, left_of, goes_on_lem}
use Rattle.unit_rules.proofs.Loading.{sound_read, load_taken, load_sets, load_refused, go_begins, loaded_made, well_made_gone}

-- ---- calls of `cycle` on a well-made unit that has gone

module _ (u : Unit) (went : u.gone ≡ true) (w : WellMade u) where
  -- the next call makes a cycle where the last is not reached, and is refused there
  pub next_call : (c : ℕ) → u.cycle + c < last_of u.program.n.0 → cycled_of (cycles_of c u) ≡ record { refusal = 0; unit = cycles_of (suc c) u }
  unfolding cycled_of cycles_of
  next_call c h =
      sym (passes _ _ _ (not_denied (well_made_test (cycles_of c u) (well_made_cycles u went w c (omega arith))))
      (passes _ _ _ (drained_after u went w.placed c ∙ lt-leb (last_of u.program.n.0) (u.cycle + c) h) ends))

  pub no_call : (c : ℕ) → u.cycle + c ≡ last_of u.program.n.0 → cycled_of (cycles_of c u) ≡ record { refusal = DRAINED; unit = cycles_of c u }
  unfolding cycled_of
  no_call c h =
      sym (passes _ _ _ (not_denied (well_made_test (cycles_of c u) (well_made_cycles u went w c (omega arith))))
      (stops _ _ (drained_after u went w.placed c ∙ le-leb (last_of u.program.n.0) (u.cycle + c) (omega arith))))

  pub calls_are_cycles : (c : ℕ) → u.cycle + c ≤ last_of u.program.n.0 → after_calls c u ≡ cycles_of c u
  unfolding cycles_of
  calls_are_cycles zero h = refl
  calls_are_cycles (suc c) h =
      ap (λ (v : Unit). (cycled_of v).unit) (calls_are_cycles c (omega arith)) ∙ ap (λ (a : Cycled). a.unit) (next_call c (omega arith))

pub ran : (v : Unit) → v.gone ≡ true → WellMade v → (k : ℕ) → ran_of v k ≡ record { refusal = 0; made = min k (left_of v); unit = cycles_of (min k (left_of v)) v }
unfolding ran_of
ran v went w k = sym (passes _ _ _ (not_denied (well_made_test v w)) (rw (goes_on_lem k v went w.placed) ends))

-- ---- a unit that is drained, such as one that has not gone, rests

module _ (u : Unit) (made : well_made_of u ≡ true) (done : drained_of u ≡ true) where
  pub cycle_of_drained : cycled_of u ≡ record { refusal = DRAINED; unit = u }
  unfolding cycled_of
  cycle_of_drained = sym (passes _ _ _ (not_denied made) (stops _ _ done))

  no_more : (k : ℕ) → goes_on k u ≡ (0, u)
  unfolding goes_on
  no_more zero = refl
  no_more (suc k) = rw done

  pub run_of_drained : (k : ℕ) → ran_of u k ≡ record { refusal = 0; made = 0; unit = u }
  unfolding ran_of
  run_of_drained k = sym (passes _ _ _ (not_denied made) (rw (no_more k) ends))

  -- whatever is asked of it, but a go and a load that it accepts
  pub rests : (x : Call) → renews x u ≡ false → unit_after x u ≡ u
  rests (load file) none = load_refused file u (eqb-false (load_of file u).refusal 0 none)
  rests go none = absurd (eqb-false (go_of u).refusal 0 none (ap (λ (a : Gone). a.refusal) (go_begins u made)))
  rests cycle none = ap (λ (a : Cycled). a.unit) cycle_of_drained
  rests (row true) none = ap (λ (a : Cycled). a.unit) cycle_of_drained
  rests (row false) none = refl
  rests (run k) none = ap (λ (a : Ran). a.unit) (run_of_drained k)
  rests (register i) none = refl
  rests drained none = refl

  pub rests_on : (calls : List Call) → renews_in_all calls u ≡ false → unit_after_all calls u ≡ u
  rests_on [] none = refl
  rests_on (x ∷ calls) none =
      let neither = neither_held (renews x u) (renews_in_all calls (unit_after x u)) none in
      let same = rests x neither.0 in
      ap (unit_after_all calls) same ∙ rests_on calls (sym (ap (renews_in_all calls) same) ∙ neither.1)

-- ---- any calls on a unit that has gone, until the next go or accepted load

module _ (u : Unit) (went : u.gone ≡ true) (w : WellMade u) where
  -- the unit has made c cycles, and m are made by a call
  pub record Made (x : Call) (c : ℕ) : Type 0 where
    pub unit : unit_after x (cycles_of c u) ≡ cycles_of (c + cycles_in x (cycles_of c u)) u
    pub fits : u.cycle + (c + cycles_in x (cycles_of c u)) ≤ last_of u.program.n.0

  made_by_cycle : (c : ℕ) → u.cycle + c ≤ last_of u.program.n.0 → Made cycle c
  made_by_cycle c h = case (leb (last_of u.program.n.0) (u.cycle + c)) refl
    where
      counted : {a : Cycled} → cycled_of (cycles_of c u) ≡ a → cycles_in cycle (cycles_of c u) ≡ made_unless a.refusal
      counted e = ap (λ (a : Cycled). made_unless a.refusal) e

      case : (t : Bool) → leb (last_of u.program.n.0) (u.cycle + c) ≡ t → Made cycle c
      case true q =
          let e = no_call u went w c (omega (arith, leb-true (last_of u.program.n.0) (u.cycle + c) q)) in
          let m : c + cycles_in cycle (cycles_of c u) ≡ c = omega (arith, counted e) in
          record { unit = ap (λ (a : Cycled). a.unit) e ∙ ap (λ (k : ℕ). cycles_of k u) (sym m); fits = omega (arith, m) }
      case false q =
          let l = leb-false (last_of u.program.n.0) (u.cycle + c) q in
          let e = next_call u went w c l in
          let m : c + cycles_in cycle (cycles_of c u) ≡ suc c = omega (arith, counted e) in
          record { unit = ap (λ (a : Cycled). a.unit) e ∙ ap (λ (k : ℕ). cycles_of k u) (sym m); fits = omega (arith, m) }

  made_by_run : (k c : ℕ) → u.cycle + c ≤ last_of u.program.n.0 → Made (run k) c
  made_by_run k c h =
      let v = cycles_of c u in
      let e = ran v (cycles_gone c u ∙ went) (well_made_cycles u went w c h) k in
      let left : left_of v ≡ last_of u.program.n.0 - (u.cycle + c) = rw (cycles_program c u, cycles_number c u) in
      let m : cycles_in (run k) v ≡ min k (left_of v) = ap (λ (a : Ran). a.made) e in
      record {
        unit = ap (λ (a : Ran). a.unit) e ∙ cycles_join c (min k (left_of v)) u ∙ ap (λ (j : ℕ). cycles_of (c + j) u) (sym m);
        fits = omega (arith, m, left);
      }

  pub made_by : (x : Call) (c : ℕ) → u.cycle + c ≤ last_of u.program.n.0 → renews x (cycles_of c u) ≡ false → Made x c
  made_by (load file) c h none =
      record { unit = load_refused file (cycles_of c u) (eqb-false (load_of file (cycles_of c u)).refusal 0 none) ∙ rw (add-zero c); fits = omega arith }
  made_by go c h none =
      let v = cycles_of c u in
      absurd (eqb-false (go_of v).refusal 0 none (ap (λ (a : Gone). a.refusal) (go_begins v (well_made_test v (well_made_cycles u went w c h)))))
  made_by cycle c h none = made_by_cycle c h
  made_by (row true) c h none = let m = made_by_cycle c h in record { unit = m.unit; fits = m.fits }
  made_by (row false) c h none = record { unit = rw (add-zero c); fits = omega arith }
  made_by (run k) c h none = made_by_run k c h
  made_by (register i) c h none = record { unit = rw (add-zero c); fits = omega arith }
  made_by drained c h none = record { unit = rw (add-zero c); fits = omega arith }

  -- calls one after another
  pub all_made : (calls : List Call) (c : ℕ) → u.cycle + c ≤ last_of u.program.n.0 → renews_in_all calls (cycles_of c u) ≡ false
      → (unit_after_all calls (cycles_of c u) ≡ cycles_of (c + cycles_in_all calls (cycles_of c u)) u)
      × (u.cycle + (c + cycles_in_all calls (cycles_of c u)) ≤ last_of u.program.n.0)
  all_made [] c h none = (ap (λ (k : ℕ). cycles_of k u) (sym (add-zero c)), omega arith)
  all_made (x ∷ calls) c h none =
      let neither = neither_held (renews x (cycles_of c u)) (renews_in_all calls (unit_after x (cycles_of c u))) none in
      let m = made_by x c h neither.0 in
      let d = c + cycles_in x (cycles_of c u) in
      let rest = all_made calls d m.fits (sym (ap (renews_in_all calls) m.unit) ∙ neither.1) in
      let count : d + cycles_in_all calls (cycles_of d u) ≡ c + cycles_in_all (x ∷ calls) (cycles_of c u)
      = omega (arith, ap (cycles_in_all calls) m.unit) in (
        ap (unit_after_all calls) m.unit ∙ rest.0 ∙ ap (λ (k : ℕ). cycles_of k u) count,
        omega (arith, count, rest.1),
      )

-- ---- every call leaves a well-made record

module _ (u : Unit) (made : well_made_of u ≡ true) where
  abbrev w : WellMade u
  w = well_made_says u made

  after_load : (file : List ℕ) → well_made_of (load_of file u).unit ≡ true
  after_load file = case (eqb (load_of file u).refusal 0) refl
    where
      case : (t : Bool) → eqb (load_of file u).refusal 0 ≡ t → well_made_of (load_of file u).unit ≡ true
      case true q =
          let t = load_taken file u (eqb-true (load_of file u).refusal 0 q) in
          let set = ap (λ (a : Loaded). a.unit) (load_sets file u t) in
          ap well_made_of set ∙ well_made_test _ (loaded_made (read_of file).job u (sound_read file t.good))
      case false q = ap well_made_of (load_refused file u (eqb-false (load_of file u).refusal 0 q)) ∙ made

  after_others : (x : Call) → renews x u ≡ false → well_made_of (unit_after x u) ≡ true
  unfolding cycles_of
  after_others x none = case (drained_of u) refl
    where
      case : (t : Bool) → drained_of u ≡ t → well_made_of (unit_after x u) ≡ true
      case true q = ap well_made_of (rests u made q x none) ∙ made
      case false q =
          let went = not_drained_gone u q in
          let m = made_by u went w x 0 (omega (arith, w.reached)) none in
          ap well_made_of m.unit ∙ well_made_test _ (well_made_cycles u went w (0 + cycles_in x u) m.fits)

  pub well_made_after : (x : Call) → well_made_of (unit_after x u) ≡ true
  well_made_after (load file) = after_load file
  well_made_after go = ap (λ (a : Gone). well_made_of a.unit) (go_begins u made) ∙ well_made_test _ (well_made_gone u w)
  well_made_after cycle = after_others cycle refl
  well_made_after (row room) = after_others (row room) refl
  well_made_after (run k) = after_others (run k) refl
  well_made_after (register i) = made
  well_made_after drained = made

pub kept_made : (calls : List Call) (u : Unit) → well_made_of u ≡ true → well_made_of (unit_after_all calls u) ≡ true
kept_made [] u made = made
kept_made (x ∷ calls) u made = kept_made calls (unit_after x u) (well_made_after u made x)
