-- A turn of the loop over rows: the row that it shows is that of the unit after the cycles made so far, and stands behind the rows before it. Carried
-- by `deliver` of crate `unit_rules`, `no_value_shown` of crate `trace_rules` and `row_fits` of crate `row_rules`.
-- Assumes nothing.
use Rattle.trace_rules.proofs.Shared.{at_front, from_start, then_from, row_text, row_size, row_at, row_fits, Unit, shown_by, shown_of, rows_of}
use Rattle.unit_rules.proofs.Shared.{ℕ, ◌+◌, ◌*◌, ◌%◌, ◌≤◌, ◌≡◌, sym, ap, ◌∙◌, List, add_assoc, add-one, length, get_or, Register, cycles_of}
use Rattle.unit_rules.proofs.Shared.{in_decoded, decoded_with, delivered_of, unit_with}
use Rattle.row_rules.specs.declared.Row.{Row}
use Rattle.unit_rules.specs.Latches.{IfId, Operands}
use Rattle.unit_rules.specs.declared.InFlight.{InFlight}
use Rattle.unit_rules.proofs.OneCycle.{deliver}
use Rattle.trace_rules.proofs.Theorems.{no_value_shown}
use Rattle.trace_rules.proofs.TextLengths.{rows_long}

module _ (i : ℕ) (u : Unit) {f : List Register} {l : InFlight} {delivered held : IfId} {row : Row} (few : u.program.n.0 ≤ 64)
    (so_far : unit_with u i f l ≡ cycles_of i u)
    (fetched : delivered ≡ delivered_of u.program.edition u.program.n l.count (get_or u.program.words (l.count.0 % 64) 0))
    (in_id_ex : held ≡ in_decoded l.decoded) (o : Operands)
    (shown : row ≡ shown_by (u.cycle + (i + 1)) delivered l.fetched (decoded_with held o) l.executed) where
  its_row : row ≡ shown_of (cycles_of i u)
  its_row =
      (rw in_id_ex at shown) ∙ no_value_shown _ _ _ l.decoded _ o
      ∙ rw (fetched, deliver u.program l.count few, ← (add_assoc u.cycle i 1)) (ap shown_of so_far)

  pub row_more : (old out : List ℕ) {number : ℕ} {new : List ℕ} → row_size * i + row_size ≤ length out
      → out ≡ at_front (rows_of i u) old → (number, new) ≡ row_at row (row_size * i) out → new ≡ at_front (rows_of (i + 1) u) old
  unfolding rows_of
  row_more old out room before put =
      let written : _ ≡ from_start (row_size * i) (row_text row) out = ap (λ (z : ℕ × List ℕ). z.1) (put ∙ sym (row_fits row (row_size * i) out room)) in
      written ∙ then_from (row_size * i) (rows_of i u) (row_text row) old out (rows_long i u) before ∙ rw (its_row, add-one i)
