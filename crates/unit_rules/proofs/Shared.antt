-- What the proofs of this crate and of those above it bring in from elsewhere, in one place: libraries, definitions, and laws of the crates below.
-- Assumes nothing.
pub use Prim.Native.Nat.{ℕ, zero, suc, ◌-◌, ◌≤◌, ◌<◌, min, ◌+◌, ◌%◌, ◌*◌, ◌^◌}
pub use mathlib.Core.Path.{◌≡◌, refl, sym, ap, ◌∙◌, subst}
pub use mathlib.Core.Bool.{Bool, true, false, cond, not, ◌&&◌, ◌||◌, false≢true, and-false}
pub use mathlib.Core.List.{List, [], ◌∷◌, map, ◌++◌, map-id}
pub use mathlib.Core.Logic.{◌↔◌, ⊎_elim, ◌⊎◌}
pub use native.Mathlib.Numerals.{add-one}
pub use native.Mathlib.Omega.{arith}
pub use native.Mathlib.Nat.{add-zero, zero-add, le_refl, add-suc, add_assoc}
pub use borrow.Author.Tests.{eqb-true, eqb-false, ltb-true, ltb-false, eq-eqb, ne_eqb, lt-leb, le-leb, leb-true, leb-false, lt-ltb, le-ltb, not-false}
pub use borrow.Author.Rules.{rules}
pub use lib.Dec.{eqb, ltb, leb, leb-zero}
pub use lib.ListN.{get_or, set, take, length, length-set, length-take, drop, length-append, length-replicate, replicate, length-drop}
pub use lib.Seq.{get_or-set_same, get_or-set_other, get_or-take, take_all, length-take-le, take-append_seam, take_at, sets-eq}
pub use Rattle.register.specs.declared.Register.{Register}
pub use Rattle.register.specs.Layout.{zero_register, word_at, of_bytes, row_of}
pub use Rattle.table.specs.declared.Edition.{Edition}
pub use Rattle.table.specs.declared.Edition.TheVariants.{One, Two}
pub use Rattle.table.specs.declared.Pointer.{Pointer}
pub use Rattle.std.specs.declared.option.Option.{Option}
pub use Rattle.std.specs.declared.option.Option.TheVariants.{None, Some}
pub use Rattle.table.specs.Fields.{rs2_of, rs3_of, rd_of, is_li, rs1_of}
unfoldable pub use Rattle.table.specs.Fields.{first_of}
pub use Rattle.table.specs.Operation.{reads_of, takes_first, takes_second, takes_third, is_nop, is_wired, Operation}
unfoldable pub use Rattle.table.specs.Operation.{operation_of, target_of}
pub use Rattle.table.specs.Refusal.{DRAINED, STATE, ROOM, BUSY}
unfoldable pub use Rattle.table.specs.Refusal.{first_bad}
pub use Rattle.plain_rules.specs.Machine.{stored, cleared_for, step, plain, plain_rows, cleared_rows}
unfoldable pub use Rattle.plain_rules.specs.Machine.{step_on, plain_on}
pub use Rattle.plain_rules.proofs.Theorems.{one_more, registers_as_rows}
pub use Rattle.job_rules.specs.declared.Job.{Job}
pub use Rattle.job_rules.specs.Read.{ReadJob}
pub use Rattle.job_rules.specs.Layout.{instructions_at, edition_in, two_at, registers_at, words_in, registers_of, LARGEST}
pub use Rattle.job_rules.specs.Read.{filled, job_of, read_of}
unfoldable pub use Rattle.job_rules.specs.Read.{header_of, tested_of, body_of}
pub use Rattle.job_rules.specs.declared.Program.{Program}
pub use Rattle.job_rules.specs.Program.{lines_of, may_hold}
pub use Rattle.unit_rules.specs.Latches.{IfId, IdEx, ExWb}
pub use Rattle.unit_rules.specs.declared.Unit.{Unit}
pub use Rattle.unit_rules.specs.Cycle.{instruction_of, after_wb, is_target, newest_operands, operands_in, after_ex, after_id, after_if, read_by, newest}
pub use Rattle.unit_rules.specs.Cycle.{instruction_at, given, count_after, fetched_in}
unfoldable pub use Rattle.unit_rules.specs.Cycle.{cycle_of, cycles_of}
pub use Rattle.unit_rules.specs.Calls.{gone_of, registers_set, registers_loaded, loaded_of, loaded_by, fresh_of, begun_of}
unfoldable pub use Rattle.unit_rules.specs.Calls.{load_of, go_of, cycled_of, ran_of, register_of, asked_drained, goes_on}
pub use Rattle.unit_rules.specs.Sequence.{Whole, after_calls, Call, unit_after, made_unless, cycles_in, renews, unit_after_all, cycles_in_all, renews_in_all}
pub use Rattle.unit_rules.specs.Answers.{Cycled, Ran}
pub use Rattle.unit_rules.specs.Record.{last_of, in_decoded, in_executed, is_empty, same_target, same_instruction, same_held, numbers_made}
pub use Rattle.unit_rules.specs.Record.{latches_made, all_empty, program_made, rest_made, run_made}
unfoldable pub use Rattle.unit_rules.specs.Record.{drained_of, well_made_of}
pub use Rattle.unit_rules.specs.Stages.{write_to, newest_by, executed_by, sources_of, read_at, decoded_with, delivered_of, in_flight_of, unit_with}
pub use Rattle.unit_rules.specs.Stages.{advanced_of}
pub use Rattle.unit_rules.specs.Stages.{stored_by}
unfoldable pub use Rattle.unit_rules.specs.Stages.{write_of}
