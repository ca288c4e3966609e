-- The trace row of document 01: its text, and what a writer of it answers. Every byte is a number, its ASCII code.
-- Assumes nothing.
use Rattle.std.specs.Prelude.{ℕ, zero, suc, ◌+◌, ◌/◌, ◌%◌, ◌^◌, Bool, cond, List, [], ◌∷◌, ◌++◌, ltb, length, get_or, replicate}
use Rattle.buffer.specs.Front.{from_start}
use Rattle.register.specs.declared.Register.{Register}
use Rattle.table.specs.Decided.{decided}
use Rattle.table.specs.Refusal.{ROOM}
use Rattle.row_rules.specs.Shown.{Stage}
use Rattle.std.specs.declared.option.Option.TheVariants.{None, Some}
use Rattle.row_rules.specs.declared.Flags.{Flags}
use Rattle.row_rules.specs.Shown.{Change}
use Rattle.row_rules.specs.declared.Row.{Row}

-- "decimal digits", "upper-case hex digits": 0 to 9, A to F
abbrev pub digit : ℕ → ℕ
digit d = get_or (48 ∷ 49 ∷ 50 ∷ 51 ∷ 52 ∷ 53 ∷ 54 ∷ 55 ∷ 56 ∷ 57 ∷ 65 ∷ 66 ∷ 67 ∷ 68 ∷ 69 ∷ 70 ∷ []) d 0

-- "two decimal digits", of any number its last two
unfoldable pub two_digits : ℕ → List ℕ
two_digits n = digit (n / 10 % 10) ∷ digit (n % 10) ∷ []

-- the last k hex digits of a number
abbrev pub hex_digits : ℕ → ℕ → List ℕ
hex_digits zero w = []
hex_digits (suc k) w = digit (w / 16 ^ k % 16) ∷ hex_digits k w

abbrev pub hyphens : ℕ → List ℕ
hyphens k = replicate k 45

-- "the words in IF, ID, EX, WB (seven upper-case hex digits, or seven hyphens when empty)"
unfoldable pub stage_text : Stage → List ℕ
stage_text None = hyphens 7
stage_text (Some w) = hex_digits 7 w

-- "three flags for rs1, rs2, rs3"
abbrev pub flag_text : Bool → ℕ
flag_text b = digit (cond b 1 0)

unfoldable pub flags_text : Flags → List ℕ
flags_text f = flag_text f.rs1 ∷ flag_text f.rs2 ∷ flag_text f.rs3 ∷ []

-- "the register written (two decimal digits, or `--`)"
unfoldable pub number_text : Change → List ℕ
number_text None = hyphens 2
number_text (Some (p, o)) = two_digits p.0

-- "its new value (32 upper-case hex digits, or 32 hyphens)"; "Bit 127 is leftmost"
unfoldable pub register_text : Register → List ℕ
register_text v = hex_digits 8 v.w3 ++ hex_digits 8 v.w2 ++ hex_digits 8 v.w1 ++ hex_digits 8 v.w0

unfoldable pub value_text : Change → List ℕ
value_text None = hyphens 32
value_text (Some (p, o)) = register_text o.value

-- "a space and two upper-case hex digits before the newline, `--` where nothing is written"
unfoldable pub mark_text : Change → List ℕ
mark_text None = hyphens 2
mark_text (Some (p, o)) = hex_digits 2 o.mark

-- "Fields, with one space between": every field but the first stands behind a space
abbrev pub behind_space : List ℕ → List ℕ
behind_space field = 32 ∷ field

abbrev pub newline : List ℕ
newline = 10 ∷ []

unfoldable pub row_text : Row → List ℕ
row_text r =
    two_digits r.cycle
    ++ behind_space (stage_text r.fetch) ++ behind_space (stage_text r.decode)
    ++ behind_space (stage_text r.execute) ++ behind_space (stage_text r.write)
    ++ behind_space (flags_text r.flags)
    ++ behind_space (number_text r.change) ++ behind_space (value_text r.change) ++ behind_space (mark_text r.change)
    ++ newline

-- "a row is 78 bytes"
abbrev pub row_size : ℕ
row_size = 78

-- "A row is written into the lent buffer from a stated start"; 9 with "too few bytes from the stated start in a lent buffer, or a start beyond its end": the
-- answer, and the buffer afterwards
unfoldable pub row_at : Row → ℕ → List ℕ → ℕ × List ℕ
row_at r start buffer =
    decided
    ((ltb (length buffer) (start + row_size), (ROOM, buffer)) ∷ [])
    (0, from_start start (row_text r) buffer)
