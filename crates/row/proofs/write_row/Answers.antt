-- Carried by the laws of `RowWritten`: the test of the room as it came out.
use Rattle.buffer.proofs.Room.{starts_within, part_long}
use Rattle.row.proofs.RowWritten.{row_written, row_refused}
use Rattle.row.proofs.write_row.Goals as goal

pub slice_bounds-put_row-count : goal.slice_bounds-put_row-count
slice_bounds-put_row-count c = search starts_within

pub slice_bounds-put_row-start : goal.slice_bounds-put_row-start
slice_bounds-put_row-start c = search starts_within

pub put_row-requires : goal.put_row-requires
put_row-requires c = search part_long

pub returns-then-not-has_room : goal.returns-then-not-has_room
returns-then-not-has_room c = search row_refused

pub returns : goal.returns
returns c = search row_written
