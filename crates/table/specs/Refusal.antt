-- The refusal numbers of documents 01 and 02 by name, and the first word that is no instruction.
-- Assumes nothing.
use Rattle.std.specs.declared.result.Result.{Result}
use Rattle.std.specs.declared.result.Result.TheVariants.{Ok, Err}
use Rattle.table.specs.declared.refusal.Refusal.{Refusal}
use Rattle.table.specs.declared.refusal.Refusal.TheVariants.{Short, Count, Regs, Place, Length, Word, Pointer, Drained, Room, State, Name, Operands, Lines, Edition, Nonzero, Busy}
use Rattle.std.specs.Prelude.{ℕ, suc, ◌^◌, cond, List, [], ◌∷◌, ltb}

abbrev pub SHORT : ℕ
SHORT = 1

abbrev pub COUNT : ℕ
COUNT = 2

abbrev pub REGS : ℕ
REGS = 3

abbrev pub PLACE : ℕ
PLACE = 4

abbrev pub LENGTH : ℕ
LENGTH = 5

abbrev pub WORD : ℕ
WORD = 6

abbrev pub POINTER : ℕ
POINTER = 7

abbrev pub DRAINED : ℕ
DRAINED = 8

abbrev pub ROOM : ℕ
ROOM = 9

abbrev pub STATE : ℕ
STATE = 10

abbrev pub NAME : ℕ
NAME = 11

abbrev pub OPERANDS : ℕ
OPERANDS = 12

abbrev pub LINES : ℕ
LINES = 13

abbrev pub EDITION : ℕ
EDITION = 14

abbrev pub NONZERO : ℕ
NONZERO = 15

abbrev pub BUSY : ℕ
BUSY = 18

-- the number that each refusal is given by
abbrev pub number_of : Refusal → ℕ
number_of Short = SHORT
number_of Count = COUNT
number_of Regs = REGS
number_of Place = PLACE
number_of Length = LENGTH
number_of (Word place) = WORD
number_of Pointer = POINTER
number_of Drained = DRAINED
number_of Room = ROOM
number_of State = STATE
number_of Name = NAME
number_of Operands = OPERANDS
number_of Lines = LINES
number_of Edition = EDITION
number_of Nonzero = NONZERO
number_of Busy = BUSY

-- "zeros elsewhere but for 6's place"
abbrev pub place_of : Refusal → ℕ
place_of Short = 0
place_of Count = 0
place_of Regs = 0
place_of Place = 0
place_of Length = 0
place_of (Word place) = place
place_of Pointer = 0
place_of Drained = 0
place_of Room = 0
place_of State = 0
place_of Name = 0
place_of Operands = 0
place_of Lines = 0
place_of Edition = 0
place_of Nonzero = 0
place_of Busy = 0

-- "Success is 0", and what an answer has beside its number: the place, and its value, of a refusal the one that stands for nothing
abbrev pub number_in : {A : Type 0} → Result A Refusal → ℕ
number_in (Ok x) = 0
number_in (Err why) = number_of why

abbrev pub place_in : {A : Type 0} → Result A Refusal → ℕ
place_in (Ok x) = 0
place_in (Err why) = place_of why

abbrev pub value_in : {A : Type 0} → A → Result A Refusal → A
value_in none (Ok x) = x
value_in none (Err why) = none

-- "an instruction word of 2^25 or more; the first such place is returned": that place, or the number of words where there is none
unfoldable pub first_bad : List ℕ → ℕ
first_bad [] = 0
first_bad (w ∷ ws) = cond (ltb w (2 ^ 25)) (suc (first_bad ws)) 0
