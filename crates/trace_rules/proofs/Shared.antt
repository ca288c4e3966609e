-- What the proofs of the crate bring in beside what crate unit_rules passes on: buffers, rows, and the definitions of the text.
-- Assumes nothing.
pub use borrow.Rule.Slice.PartMut.{mid_of, put_mid}
pub use Rattle.buffer.specs.Front.{at_front, from_start}
pub use Rattle.buffer.proofs.Parts.{then_from, at_end, then_front}
pub use Rattle.row_rules.specs.Text.{row_text, row_size, digit, newline}
unfoldable pub use Rattle.row_rules.specs.Text.{row_at, two_digits}
pub use Rattle.row_rules.proofs.Theorems.{row_fits, row_size_lem}
pub use Rattle.unit_rules.specs.declared.Unit.{Unit}
pub use Rattle.unit_rules.proofs.WellMade.{well_made_says, last_small}
pub use Rattle.unit_rules.proofs.Loading.{load_reads, go_begins}
pub use Rattle.unit_rules.proofs.Calls.{ran, well_made_after}
pub use Rattle.unit_rules.proofs.Theorems.{fresh_drained}
pub use Rattle.trace_rules.specs.RowOfCycle.{shown_of}
unfoldable pub use Rattle.trace_rules.specs.RowOfCycle.{shown_by}
pub use Rattle.trace_rules.specs.JobText.{most_cycles, cycles_left, write_text_of, text_for, largest_text, whole_text_of}
unfoldable pub use Rattle.trace_rules.specs.JobText.{rows_of, end_text, refused_text, trace_text, job_text, put_of}
pub use Rattle.trace_rules.specs.JobText.{TextAnswer}
