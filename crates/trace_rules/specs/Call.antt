-- What a cycle with a row answers, for every unit, start and buffer.
-- Assumes nothing.
use Rattle.std.specs.Prelude.{ℕ, ◌+◌, not, List, [], ◌∷◌, ltb, length}
use Rattle.buffer.specs.Front.{from_start}
use Rattle.table.specs.Decided.{decided}
use Rattle.table.specs.Refusal.{DRAINED, ROOM, STATE}
use Rattle.row_rules.specs.Text.{row_text, row_size}
use Rattle.unit_rules.specs.declared.Unit.{Unit}
use Rattle.unit_rules.specs.Answers.{Cycled}
use Rattle.unit_rules.specs.Cycle.{cycle_of}
use Rattle.unit_rules.specs.Record.{drained_of, well_made_of}
use Rattle.trace_rules.specs.RowOfCycle.{shown_of}

-- each call "tests 10 first; then a cycle tests 8, with a trace row 8 and 9": the answer with the unit, and the buffer afterwards
unfoldable pub traced_of : Unit → ℕ → List ℕ → Cycled × List ℕ
traced_of u start buffer =
    decided
    ((not (well_made_of u), (record { refusal = STATE; unit = u }, buffer))
    ∷ (drained_of u, (record { refusal = DRAINED; unit = u }, buffer))
    ∷ (ltb (length buffer) (start + row_size), (record { refusal = ROOM; unit = u }, buffer))
    ∷ [])
    (record { refusal = 0; unit = cycle_of u }, from_start start (row_text (shown_of u)) buffer)
