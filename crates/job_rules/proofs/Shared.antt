-- What the proofs of the crate bring in from elsewhere, in one place: libraries, and the definitions of this crate and of those below.
-- Assumes nothing.
pub use Prim.Native.Nat.{ℕ, zero, suc, ◌+◌, ◌-◌, ◌*◌, ◌≤◌, ◌<◌, ◌%◌, ◌/◌, ◌^◌}
pub use mathlib.Core.Path.{◌≡◌, refl, sym, ap, ◌∙◌, subst}
pub use mathlib.Core.List.{List, [], ◌∷◌, ◌++◌, append_assoc, append-nil}
unfoldable pub use mathlib.Core.List.{flat_map}
pub use mathlib.Core.Bool.{Bool, true, false, cond, not, ◌||◌, ◌&&◌}
pub use native.Mathlib.Nat.{add_assoc, add-zero, le_refl, le_of_suc-le-suc, not-suc-le-zero}
pub use native.Mathlib.Omega.{arith}
pub use borrow.Author.Tests.{eq-eqb, ne_eqb, ltb-false, eqb-true, not-false, ltb-true}
pub use lib.ListN.{length, get_or, take, drop, set, replicate, length-append, length-drop, drop_of_length-le, take-append-drop}
pub use lib.Seq.{set_at, append_snoc, drop-drop, get_or-drop, take-suc, length-take-le, take_at, take-append_seam, drop_at, get_or-take}
pub use lib.Dec.{ltb, eqb}
pub use Rattle.buffer.specs.Front.{at_front}
pub use Rattle.register.specs.declared.Register.{Register}
pub use Rattle.register.specs.Layout.{word_at, of_bytes, zero_register, bytes_of}
pub use Rattle.table.specs.declared.Edition.{Edition}
pub use Rattle.table.specs.declared.Edition.TheVariants.{One, Two}
pub use Rattle.std.specs.Prelude.{Result, Ok, Err}
pub use Rattle.table.specs.declared.refusal.Refusal.{Refusal}
pub use Rattle.table.specs.Refusal.{number_of, place_of, COUNT, REGS, PLACE, LENGTH, WORD, EDITION, NONZERO}
unfoldable pub use Rattle.table.specs.Refusal.{first_bad}
pub use Rattle.job_rules.specs.Program.{lines_of, may_hold}
pub use Rattle.job_rules.specs.Layout.{Bytes, instructions_at, four_bytes, header_bytes, register_count, pieces, registers_at, size_of, two_at}
pub use Rattle.job_rules.specs.Layout.{edition_bytes, edition_in, says_edition}
pub use Rattle.job_rules.specs.Layout.{words_in, registers_of, two_bytes, LARGEST}
unfoldable pub use Rattle.job_rules.specs.Layout.{encode}
pub use Rattle.job_rules.specs.Read.{ReadJob, Header, filled, job_of, accepted_of, refused_of, said_read, header_number, answer_for, read_as, read_of}
unfoldable pub use Rattle.job_rules.specs.Read.{tested_of, header_of, body_of}
pub use Rattle.job_rules.specs.declared.Counts.{Counts}
pub use Rattle.job_rules.specs.declared.Job.{Job}
pub use Rattle.job_rules.specs.Write.{Written, written_of, said_written, register_bytes_of}
unfoldable pub use Rattle.job_rules.specs.Write.{size_or_refusal, write_of}
