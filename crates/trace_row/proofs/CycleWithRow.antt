-- What a cycle with a row answers, from what the cycle and the writer of the row give. Carried by the laws of decisions.
-- Assumes nothing.
use Rattle.unit_rules.proofs.Shared.{ℕ, ◌+◌, ◌≡◌, refl, sym, ap, ◌∙◌, Bool, true, false, List, arith, ltb-true, ltb-false, ltb, length, ROOM, cycle_of, drained_of}
use Rattle.unit_rules.proofs.Shared.{well_made_of, cycled_of, in_flight_of}
use Rattle.table.proofs.Decided.{stops, passes, ends, denied, not_denied}
use Rattle.row_rules.specs.declared.Row.{Row}
use Rattle.row_rules.specs.Text.{row_size, row_at}
use Rattle.row_rules.proofs.Theorems.{no_room, row_fits}
use Rattle.unit_rules.specs.declared.Unit.{Unit}
use Rattle.unit_rules.specs.Answers.{Cycled}
use Rattle.unit_rules.specs.declared.InFlight.{InFlight}
use Rattle.trace_rules.proofs.Going.{Going, goes}
use Rattle.trace_rules.specs.RowOfCycle.{shown_by, shown_of}
use Rattle.trace_rules.specs.Call.{traced_of}

module _ (u : Unit) (start : ℕ) (buffer : List ℕ) {after : Cycled} (cycled : after ≡ cycled_of u) where
  pub not_cycled : (after.refusal ≡ 0 → ⊥) → (after, buffer) ≡ traced_of u start buffer
  unfolding cycled_of traced_of
  not_cycled h = go (well_made_of u) refl (drained_of u) refl
    where
      go : (t : Bool) → well_made_of u ≡ t → (s : Bool) → drained_of u ≡ s → (after, buffer) ≡ traced_of u start buffer
      go false q s p = ap (λ (a : Cycled). (a, buffer)) (cycled ∙ sym (stops _ _ (denied q))) ∙ stops _ _ (denied q)
      go true q true p =
          ap (λ (a : Cycled). (a, buffer)) (cycled ∙ sym (passes _ _ _ (not_denied q) (stops _ _ p))) ∙ passes _ _ _ (not_denied q) (stops _ _ p)
      go true q false p = absurd (h (ap (λ (c : Cycled). c.refusal) (cycled ∙ sym (passes _ _ _ (not_denied q) (passes _ _ _ p ends)))))

  module _ (ok : after.refusal ≡ 0) {l : InFlight} {row : Row} {number : ℕ} {new : List ℕ}
      (at-start : l ≡ in_flight_of u) (said : row ≡ shown_by after.unit.cycle after.unit.fetched l.fetched l.decoded l.executed) (put : (number, new) ≡ row_at row start buffer) where
    going : Going u
    going = goes u (sym (ap (λ (c : Cycled). c.refusal) cycled) ∙ ok)

    one_cycle : after ≡ record { refusal = 0; unit = cycle_of u }
    one_cycle = cycled ∙ going.gone

    its_row : row ≡ shown_of u
    unfolding cycle_of
    its_row = said ∙ rw (at-start, one_cycle)

    put_so : (number, new) ≡ row_at (shown_of u) start buffer
    put_so = put ∙ ap (λ (r : Row). row_at r start buffer) its_row

    pub row_refused : (number ≡ 0 → ⊥) → ◌≡◌ {A = Cycled × List ℕ} (record { refusal = number; unit = u }, new) (traced_of u start buffer)
    unfolding traced_of
    row_refused h = go (ltb (length buffer) (start + row_size)) refl
      where
        go : (t : Bool) → ltb (length buffer) (start + row_size) ≡ t → ◌≡◌ {A = Cycled × List ℕ} (record { refusal = number; unit = u }, new) (traced_of u start buffer)
        go true q =
            let same = put_so ∙ sym (no_room (shown_of u) start buffer (ltb-true _ _ q)) in
            (λ i. (record { refusal = (same i).0; unit = u }, (same i).1))
            ∙ passes _ _ _ (not_denied going.made) (passes _ _ _ going.more (stops _ _ q))
        go false q = absurd (h (ap (λ (z : ℕ × List ℕ). z.0) (put_so ∙ sym (row_fits (shown_of u) start buffer (ltb-false _ _ q)))))

    pub row_put : number ≡ 0 → (after, new) ≡ traced_of u start buffer
    unfolding traced_of
    row_put h = go (ltb (length buffer) (start + row_size)) refl
      where
        go : (t : Bool) → ltb (length buffer) (start + row_size) ≡ t → (after, new) ≡ traced_of u start buffer
        go true q =
            let room : number ≡ ROOM = ap (λ (z : ℕ × List ℕ). z.0) (put_so ∙ sym (no_room (shown_of u) start buffer (ltb-true _ _ q))) in
            absurd (omega arith)
        go false q =
            let same = put_so ∙ sym (row_fits (shown_of u) start buffer (ltb-false _ _ q)) in
            (λ i. (one_cycle i, (same i).1)) ∙ passes _ _ _ (not_denied going.made) (passes _ _ _ going.more (passes _ _ _ q ends))
