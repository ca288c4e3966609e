-- What a cycle and a run need to know of the cycles left, and what a run answers. Carried by `drained_is` and `ran` of crate `unit_rules`.
-- Assumes nothing.
use Rattle.unit_rules.proofs.Shared.{ℕ, ◌+◌, ◌-◌, ◌≤◌, min, ◌≡◌, sym, ◌∙◌, Bool, true, false, arith, leb-false, cycles_of, drained_of}
use Rattle.unit_rules.proofs.Shared.{last_of, well_made_of, ran_of}
use Rattle.unit_rules.specs.declared.Unit.{Unit}
use Rattle.unit_rules.specs.Answers.{Ran}
use Rattle.unit_rules.proofs.Positions.{drained_is, not_drained_gone}
use Rattle.unit_rules.proofs.WellMade.{well_made_says}
use Rattle.unit_rules.proofs.Calls.{ran, run_of_drained}

module _ (u : Unit) {t : Bool} (test : t ≡ well_made_of u) (holds : t ≡ true) where
  pub made : well_made_of u ≡ true
  made = sym test ∙ holds

  module _ {s : Bool} (drained : s ≡ drained_of u) where
    pub no_cycle_left : s ≡ true → (k : ℕ) → ◌≡◌ {A = Ran} (record { refusal = 0; made = 0; unit = u }) (ran_of u k)
    no_cycle_left h k = sym (run_of_drained u made (sym drained ∙ h) k)

    module _ (h : s ≡ false) where
      went : u.gone ≡ true
      went = not_drained_gone u (sym drained ∙ h)

      pub a_cycle_left : (m : ℕ) → m ≤ 1 → u.cycle + m ≤ last_of u.program.n.0
      a_cycle_left m few =
          let more = leb-false (last_of u.program.n.0) u.cycle (sym (drained_is u went (well_made_says u made).placed) ∙ sym drained ∙ h) in
          omega arith

      pub went_on : {end : ℕ} → end ≡ last_of u.program.n.0 → (k : ℕ) {m : ℕ} {v : Unit} → m ≡ min k (end - u.cycle) → v ≡ cycles_of m u
          → ◌≡◌ {A = Ran} (record { refusal = 0; made = m; unit = v }) (ran_of u k)
      went_on last k f g = rw (g, f, last) (sym (ran u went (well_made_says u made) k))

  module _ {end : ℕ} (last : end ≡ last_of u.program.n.0) where
    pub not_past : u.cycle ≤ end
    not_past = let reached = (well_made_says u made).reached in omega arith

    pub as_many_left : (k : ℕ) {m : ℕ} → m ≡ min k (end - u.cycle) → u.cycle + m ≤ last_of u.program.n.0
    as_many_left k e = omega (arith, not_past)
