-- Carried by `turn`, `more` and `row_more`.
use Rattle.trace_rules.proofs.Shared.{well_made_says, rows_of}
use Rattle.unit_rules.proofs.Shared.{refl, arith}
use Rattle.unit.proofs.Loop.{none_yet, turn, more}
use Rattle.trace_text.proofs.Loop.{row_more}
use Rattle.trace_text.proofs.rows.put_rows.Goals as goal

pub loop-made-init : goal.loop-made-init
unfolding rows_of
loop-made-init c = (refl, none_yet c.args.u c.in_flight-flight.ensures, refl)

pub loop-made-preserved : goal.loop-made-preserved
loop-made-preserved c =
    let inv = c.loop-made.invariant in
    let few = (well_made_says _ c.requires.0).few in (
      omega (arith, inv.0),
      more _ _ inv.1 (turn _ few c.turn-next.ensures),
      row_more _ _ few inv.1 (λ i. (c.turn-next.ensures i).1.fetched) c.in_decoded.ensures _
          c.row_of_stages-row.ensures _ _ (omega (arith, inv.0, c.requires.2, c.loop-made-test.true)) inv.2 c.write_row.ensures,
    )
