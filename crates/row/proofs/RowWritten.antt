-- The answer to a row, written or refused by the test of the room as it came out. Carried by `row_fits` and `no_room` of crate `row_rules`.
-- Assumes nothing.
use Prim.Native.Nat.{ℕ, ◌+◌, ◌-◌}
use mathlib.Core.Path.{◌≡◌}
use mathlib.Core.Bool.{Bool, true, false}
use mathlib.Core.List.{List}
use borrow.Rule.Slice.PartMut.{mid_of, put_mid}
use lib.Dec.{leb}
use lib.ListN.{length}
use Rattle.buffer.specs.Front.{at_front}
use Rattle.buffer.proofs.Parts.{put_from}
use Rattle.buffer.proofs.Room.{enough, too_little}
use Rattle.table.specs.Refusal.{ROOM}
use Rattle.row_rules.specs.declared.Row.{Row}
use Rattle.row_rules.proofs.Theorems.{no_room, row_fits}
use Rattle.row_rules.specs.Text.{row_text, row_size, row_at}

module _ (r : Row) (start : ℕ) (buffer : List ℕ) {t : Bool} (test : t ≡ leb (start + row_size) (length buffer)) where
  pub row_written : t ≡ true → {part : List ℕ} → part ≡ at_front (row_text r) (mid_of start (length buffer - start) buffer)
      → (0, put_mid start (length buffer - start) buffer part) ≡ row_at r start buffer
  row_written h e = rw (put_from start (row_text r) buffer _ e) (row_fits r start buffer (enough (length buffer) start row_size test h))

  pub row_refused : t ≡ false → (ROOM, buffer) ≡ row_at r start buffer
  row_refused h = no_room r start buffer (too_little (length buffer) start row_size test h)
