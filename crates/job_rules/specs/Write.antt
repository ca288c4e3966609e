-- What the writer answers and what the lent buffer holds afterwards, for every job and every buffer.
-- Assumes nothing.
use Rattle.std.specs.Prelude.{ℕ, ◌%◌, cond, Result, Ok, Err, not, ◌||◌, ltb, eqb, length, get_or, take}
use mathlib.Core.List.{List, [], ◌∷◌, flat_map}
use Rattle.buffer.specs.Front.{at_front}
use Rattle.register.specs.Layout.{zero_register, bytes_of}
use Rattle.table.specs.declared.Edition.{Edition}
use Rattle.table.specs.declared.refusal.Refusal.{Refusal}
use Rattle.table.specs.Refusal.{COUNT, REGS, WORD, NONZERO, ROOM, number_of, place_of, first_bad}
use Rattle.table.specs.Decided.{decided}
use Rattle.job_rules.specs.declared.Job.{Job}
use Rattle.job_rules.specs.Layout.{register_count, registers_of, encode}
use Rattle.job_rules.specs.Program.{may_hold}

-- what writing a file answers: 0 and its size, or the number that the job is refused with, with 6 the place of the first bad word
pub record Written : Type 0 where
  pub refusal : ℕ
  pub place : ℕ
  pub size : ℕ

-- "Every refusal returns its number and zeros elsewhere but for 6's place"; "Success is 0": the number, that place, and the size of what was written
abbrev pub written_of : ℕ → ℕ → ℕ → Written
written_of number place size = record { refusal = number; place = place; size = size }

-- what the call's answer says of it: for each case its number and its values
abbrev pub said_written : Result ℕ Refusal → Written
said_written (Ok size) = written_of 0 0 size
said_written (Err why) = written_of (number_of why) (place_of why) 0

-- "the writer tests 2, 3, 6, 9", in that order, and 15 "before its 9": its answer where the buffer has so many bytes
unfoldable pub size_or_refusal : Edition → List ℕ → List ℕ → ℕ → Written
size_or_refusal edition words bytes room =
    let size : ℕ = length (encode edition words bytes) in
    decided
    ((ltb 64 (length words), written_of COUNT 0 0)
    ∷ (ltb 512 (length bytes) || not (eqb (length bytes % 16) 0), written_of REGS 0 0)
    ∷ (ltb (first_bad words) (length words), written_of WORD (first_bad words) 0)
    ∷ (not (may_hold edition (get_or (registers_of (register_count bytes) bytes) 0 zero_register)), written_of NONZERO 0 0)
    ∷ (ltb room size, written_of ROOM 0 0)
    ∷ [])
    (written_of 0 0 size)

-- that answer, and the buffer afterwards: "The writer puts the job at the front of the buffer; bytes beyond it stay"; refused, "buffers stay unaltered"
unfoldable pub write_of : Edition → List ℕ → List ℕ → List ℕ → Written × List ℕ
write_of edition words bytes out =
    let answer : Written = size_or_refusal edition words bytes (length out) in
    (answer, cond (eqb answer.refusal 0) (at_front (encode edition words bytes) out) out)

-- the bytes of a job's r registers, as the writer takes them beside the lines of its program
abbrev pub register_bytes_of : Job → List ℕ
register_bytes_of j = flat_map bytes_of (take j.r j.registers)
