-- When a cycle is made: the record is well made and the unit not drained. Carried by the two tests of a cycle.
-- Assumes nothing.
use Rattle.unit_rules.proofs.Shared.{ℕ, ◌≡◌, refl, sym, ap, ◌∙◌, Bool, true, false, arith, STATE, DRAINED, cycle_of, drained_of, well_made_of, cycled_of}
use Rattle.table.proofs.Decided.{stops, passes, ends, denied, not_denied}
use Rattle.unit_rules.specs.declared.Unit.{Unit}
use Rattle.unit_rules.specs.Answers.{Cycled}

-- a unit that makes a cycle when it is asked
pub record Going (u : Unit) : Type 0 where
  pub made : well_made_of u ≡ true
  pub more : drained_of u ≡ false
  pub gone : cycled_of u ≡ record { refusal = 0; unit = cycle_of u }

pub goes : (u : Unit) → (cycled_of u).refusal ≡ 0 → Going u
unfolding cycled_of
goes u e = go (well_made_of u) refl (drained_of u) refl
  where
    answered : {k : ℕ} {v : Unit} → ◌≡◌ {A = Cycled} (record { refusal = k; unit = v }) (cycled_of u) → k ≡ 0
    answered f = ap (λ (a : Cycled). a.refusal) f ∙ e

    go : (t : Bool) → well_made_of u ≡ t → (s : Bool) → drained_of u ≡ s → Going u
    go false q s p = let no : STATE ≡ 0 = answered (stops _ _ (denied q)) in absurd (omega arith)
    go true q true p = let no : DRAINED ≡ 0 = answered (passes _ _ _ (not_denied q) (stops _ _ p)) in absurd (omega arith)
    go true q false p = record { made = q; more = p; gone = sym (passes _ _ _ (not_denied q) (passes _ _ _ p ends)) }
