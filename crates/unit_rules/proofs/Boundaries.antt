-- A well-made record in either state, a load while a unit runs, and a register's number at their boundaries: what is just taken, and what is just not; that 10 is
-- tested first; which calls end what demand 3 says; whose mark EX/WB has; and register 0 in each edition. Carried by computing.
-- Assumes nothing.
use mathlib.Core.Path.{◌≡◌, refl}
use mathlib.Core.Bool.{Bool, true, false}
use Prim.Native.Nat.{ℕ, ◌+◌}
use mathlib.Core.List.{List, [], ◌∷◌, ◌++◌, map}
use lib.Dec.{eqb}
use lib.ListN.{length, replicate, take}
use Rattle.register.specs.declared.Register.{Register}
use Rattle.register.specs.Layout.{zero_register, row_of, with_half}
use Rattle.table.specs.declared.Edition.{Edition}
use Rattle.table.specs.declared.Edition.TheVariants.{One, Two}
use Rattle.table.specs.Decided.{decided}
use Rattle.table.specs.Fields.{first_of}
use Rattle.table.specs.Operation.{operation_of, target_of}
use Rattle.table.specs.Refusal.{first_bad}
use Rattle.alu_rules.specs.Width.{signed, bits, within}
use Rattle.alu_rules.specs.Result.{result_of, outcome_of}
use Rattle.job_rules.specs.declared.Program.{Program}
use Rattle.job_rules.specs.Read.{header_of, tested_of, body_of}
use Rattle.unit_rules.specs.Latches.{IfId, ExWb}
use Rattle.std.specs.declared.option.Option.TheVariants.{None, Some}
use Rattle.unit_rules.specs.declared.Unit.{Unit}
use Rattle.unit_rules.specs.Cycle.{instruction_of, mark_in, cycle_of, cycles_of}
use Rattle.unit_rules.specs.Record.{program_made, numbers_made, drained_of, well_made_of}
use Rattle.unit_rules.specs.Stages.{in_flight_of, unit_with}
use Rattle.unit_rules.specs.Sequence.{Call, cycles_in, renews, renews_in_all}
use Rattle.unit_rules.specs.Sequence.Call.{load, go, cycle, row, run, register, drained}
use Rattle.unit_rules.specs.Calls.{begun_of, fresh_of, load_of, go_of, cycled_of, goes_on, ran_of, register_of, asked_drained}

-- a program of these lines, in either edition, and in the first
abbrev lines_in : Edition → List ℕ → Program
lines_in edition words = record { words = words; n = record { 0 = length words }; edition = edition }

abbrev lines : List ℕ → Program
lines words = lines_in One words

-- of 64 and of 65 lines; with a word just below 2^25, and at it
pub programs : map program_made (lines (replicate 64 0) ∷ lines (replicate 65 0) ∷ lines (0 ∷ 0x1FFFFFF ∷ []) ∷ lines (0 ∷ 0x2000000 ∷ []) ∷ [])
    ≡ (true ∷ false ∷ true ∷ false ∷ [])
unfolding first_bad
programs = refl

-- gone, of 64 lines at cycle 67 and 68; of one line at cycle 4, at cycle 5 and at another count; of no line at cycle 0 and at cycle 1
pub numbers : (numbers_made 64 64 67 ∷ numbers_made 64 64 68 ∷ numbers_made 1 1 4 ∷ numbers_made 1 1 5 ∷ numbers_made 1 0 4 ∷ numbers_made 0 0 0 ∷ numbers_made 0 0 1 ∷ [])
    ≡ (true ∷ false ∷ true ∷ false ∷ false ∷ true ∷ false ∷ [])
numbers = refl

pub register_numbers : ((register_of fresh_of 31).refusal ∷ (register_of fresh_of 32).refusal ∷ []) ≡ (0 ∷ 7 ∷ [])
unfolding register_of decided well_made_of first_bad
register_numbers = refl

-- "a single cycle asked of a drained unit"; a run is not refused
pub drained_unit : ((cycled_of fresh_of).refusal ∷ (ran_of fresh_of 1).refusal ∷ (ran_of fresh_of 1).made ∷ []) ≡ (8 ∷ 0 ∷ 0 ∷ [])
unfolding cycled_of ran_of goes_on decided well_made_of drained_of first_bad
drained_unit = refl

-- a go and a load that are accepted, no other call, and so no calls at all, end what demand 3 says of the last go; and no cycle is made in these and in the calls that ask
pub what_renews : (u : Unit) (file : List ℕ) (room : Bool) (k i : ℕ)
    → (map (λ (x : Call). renews x u) (load file ∷ go ∷ cycle ∷ row room ∷ run k ∷ register i ∷ drained ∷ [])
    ≡ (eqb (load_of file u).refusal 0 ∷ eqb (go_of u).refusal 0 ∷ false ∷ false ∷ false ∷ false ∷ false ∷ []))
    × (renews_in_all [] u ≡ false)
    × (map (λ (x : Call). cycles_in x u) (load file ∷ go ∷ row false ∷ register i ∷ drained ∷ []) ≡ (0 ∷ 0 ∷ 0 ∷ 0 ∷ 0 ∷ []))
what_renews u file room k i = (refl, refl, refl)

-- a program of one line on a unit that has gone or not, and that unit but for its cycle number, its count, or what stands in IF/ID
abbrev one_line : Bool → Unit
one_line gone = begun_of gone (lines (0 ∷ [])) (replicate 32 zero_register)

abbrev but_for : Bool → ℕ → ℕ → IfId → Unit
but_for gone c count fetched =
    unit_with (one_line gone) c (replicate 32 zero_register) (record { count = record { 0 = count }; fetched = fetched; decoded = None; executed = None })

-- "loaded and not gone, in which count and cycle are zero and the latches empty": as it is loaded, at cycle 1, at count 1, with an instruction, and with all that cycle 1 has
pub resting : map well_made_of
    (one_line false
    ∷ but_for false 1 0 None ∷ but_for false 0 1 None ∷ but_for false 0 0 (Some (instruction_of One 0)) ∷ but_for false 1 1 (Some (instruction_of One 0)) ∷ [])
    ≡ (true ∷ false ∷ false ∷ false ∷ false ∷ [])
unfolding well_made_of first_bad
resting = refl

-- gone, only the last of these is well made as well
pub running : map well_made_of
    (one_line true
    ∷ but_for true 1 0 None ∷ but_for true 0 1 None ∷ but_for true 0 0 (Some (instruction_of One 0)) ∷ but_for true 1 1 (Some (instruction_of One 0)) ∷ [])
    ≡ (true ∷ false ∷ false ∷ false ∷ true ∷ [])
unfolding well_made_of first_bad first_of operation_of target_of
running = refl

-- one line on a unit that has these in registers 0 and 1, and zero in the others
abbrev holding : Edition → Bool → Register → Register → Unit
holding edition gone r0 r1 = begun_of gone (lines_in edition (0 ∷ [])) (r0 ∷ r1 ∷ replicate 30 zero_register)

-- zero but for word 0, and but for word 3
abbrev in_word0 : Register
in_word0 = record { w0 = 1; w1 = 0; w2 = 0; w3 = 0 }

abbrev in_word3 : Register
in_word3 = record { w0 = 0; w1 = 0; w2 = 0; w3 = 1 }

-- with register 0 zero, nonzero in word 0 and in word 3 alone, and with register 1 nonzero
abbrev made_with : Edition → Bool → List Bool
made_with edition gone =
    well_made_of (holding edition gone zero_register zero_register) ∷ well_made_of (holding edition gone in_word0 zero_register)
    ∷ well_made_of (holding edition gone in_word3 zero_register) ∷ well_made_of (holding edition gone zero_register in_word0) ∷ []

-- loaded and gone: in the second edition, and in the first, which asks nothing of register 0
pub register_0_in_a_record : (made_with Two false ∷ made_with Two true ∷ made_with One false ∷ made_with One true ∷ [])
    ≡ ((true ∷ false ∷ false ∷ true ∷ []) ∷ (true ∷ false ∷ false ∷ true ∷ []) ∷ (true ∷ true ∷ true ∷ true ∷ []) ∷ (true ∷ true ∷ true ∷ true ∷ []) ∷ [])
unfolding well_made_of first_bad
register_0_in_a_record = refl

-- "then 18 (busy) when the unit isn't drained, then 1 onwards": a file of no bytes on a unit that has not gone, and cycle by cycle once it has
pub busy_before_the_file : ((load_of [] (one_line false)).refusal ∷ map (λ (c : ℕ). (load_of [] (cycles_of c (one_line true))).refusal) (0 ∷ 1 ∷ 2 ∷ 3 ∷ 4 ∷ []))
    ≡ (1 ∷ 18 ∷ 18 ∷ 18 ∷ 18 ∷ 1 ∷ [])
unfolding load_of decided well_made_of drained_of cycles_of cycle_of first_bad first_of operation_of target_of header_of tested_of
busy_before_the_file = refl

-- a go in any of them is not refused, and its one line takes four cycles again
pub go_at_any_time : (let again : Unit → ℕ = λ u. (go_of u).refusal + (ran_of (go_of u).unit 9).made in
    again (one_line false) ∷ map (λ (c : ℕ). again (cycles_of c (one_line true))) (0 ∷ 1 ∷ 2 ∷ 3 ∷ 4 ∷ []))
    ≡ (4 ∷ 4 ∷ 4 ∷ 4 ∷ 4 ∷ 4 ∷ [])
unfolding go_of ran_of goes_on decided well_made_of drained_of cycles_of cycle_of first_bad first_of operation_of target_of
go_at_any_time = refl

-- and register 0, 31 and those between are as they stood
abbrev full : Register
full = record { w0 = 1; w1 = 2; w2 = 3; w3 = 4 }

pub registers_as_they_stood : (go_of (begun_of true (lines (0 ∷ [])) (replicate 32 full))).unit.registers ≡ replicate 32 full
unfolding go_of decided well_made_of first_bad
registers_as_they_stood = refl

-- a file of one line is loaded; then a cycle is refused with 8 and a run makes none, and once it goes four are made
abbrev loaded_unit : Unit
loaded_unit = (load_of (1 ∷ 0 ∷ 0 ∷ 0 ∷ 8 ∷ 0 ∷ 12 ∷ 0 ∷ 0 ∷ 0 ∷ 0 ∷ 0 ∷ []) fresh_of).unit

pub loaded_rests : (loaded_unit.program.n.0 ∷ (cycled_of loaded_unit).refusal ∷ (ran_of loaded_unit 9).made ∷ (ran_of (go_of loaded_unit).unit 9).made ∷ [])
    ≡ (1 ∷ 8 ∷ 0 ∷ 4 ∷ [])
unfolding load_of go_of cycled_of ran_of goes_on decided well_made_of drained_of cycle_of first_bad first_of operation_of target_of header_of tested_of body_of
loaded_rests = refl

-- AHS of a register with itself, which clamps halfword 0, and AU behind it, cycle by cycle: EX/WB has the mark of the line that it holds, and of no other
abbrev clamping : Unit
clamping = begun_of true (lines (0x1820001 ∷ 0x1810002 ∷ [])) (replicate 32 (record { w0 = 0x7FFF; w1 = 0; w2 = 0; w3 = 0 }))

pub mark_of_its_own_line : map (λ (c : ℕ). mark_in (cycles_of c clamping).executed) (2 ∷ 3 ∷ 4 ∷ 5 ∷ []) ≡ (0 ∷ 1 ∷ 0 ∷ 0 ∷ [])
unfolding cycles_of cycle_of first_of operation_of target_of outcome_of result_of signed bits within
mark_of_its_own_line = refl

-- each "tests 10 first": of a unit that is not well made, at cycle 1 of no lines, a file of no bytes, and a register over 31; and a load of one that is not drained either
abbrev ill_made : Unit
ill_made = unit_with fresh_of 1 fresh_of.registers (in_flight_of fresh_of)

pub state_first : ((load_of [] ill_made).refusal ∷ (load_of [] (but_for true 1 0 None)).refusal ∷ (go_of ill_made).refusal ∷ (cycled_of ill_made).refusal ∷ (ran_of ill_made 1).refusal ∷ (register_of ill_made 32).refusal ∷ (asked_drained ill_made).refusal ∷ [])
    ≡ (10 ∷ 10 ∷ 10 ∷ 10 ∷ 10 ∷ 10 ∷ 10 ∷ [])
unfolding load_of go_of cycled_of ran_of register_of asked_drained decided well_made_of drained_of first_bad
state_first = refl

-- ---- register 0 in each edition

-- "a unit with it nonzero gets 10" from every call, before all else, whether it has gone or not
abbrev refusals : Unit → List ℕ
refusals u =
    (load_of [] u).refusal ∷ (go_of u).refusal ∷ (cycled_of u).refusal ∷ (ran_of u 1).refusal ∷ (register_of u 32).refusal ∷ (asked_drained u).refusal ∷ []

pub state_with_register_0 : map refusals (holding Two false in_word3 zero_register ∷ holding Two true in_word3 zero_register ∷ [])
    ≡ ((10 ∷ 10 ∷ 10 ∷ 10 ∷ 10 ∷ 10 ∷ []) ∷ (10 ∷ 10 ∷ 10 ∷ 10 ∷ 10 ∷ 10 ∷ []) ∷ [])
unfolding load_of go_of cycled_of ran_of register_of asked_drained decided well_made_of drained_of first_bad
state_with_register_0 = refl

-- a file of no lines, with so many registers and their bytes
abbrev file_in : Edition → ℕ → List ℕ → List ℕ
file_in One r bytes = 0 ∷ 0 ∷ r ∷ 0 ∷ 8 ∷ 0 ∷ 8 ∷ 0 ∷ bytes
file_in Two r bytes = 0 ∷ 0 ∷ r ∷ 0 ∷ 12 ∷ 0 ∷ 12 ∷ 0 ∷ 2 ∷ 0 ∷ 0 ∷ 0 ∷ bytes

-- a unit of this edition in which every register is nonzero that may be
abbrev before : Edition → Unit
before One = begun_of false (lines_in One []) (replicate 32 full)
before Two = begun_of false (lines_in Two []) (zero_register ∷ replicate 31 full)

-- registers 0 and 1 once it has loaded a file
abbrev rows_after : Edition → List ℕ → List (List ℕ)
rows_after edition file = take 2 (map row_of (load_of file (before edition)).unit.registers)

-- "register 0 is zero from load on": a file of the second edition without registers, with register 0, and with 7 in register 1, each on a unit of the first and of the second
pub loads_of_edition_2 : map (λ (file : List ℕ). rows_after One file ∷ rows_after Two file ∷ [])
    (file_in Two 0 [] ∷ file_in Two 1 (replicate 16 0) ∷ file_in Two 2 (replicate 16 0 ++ (7 ∷ replicate 15 0)) ∷ [])
    ≡ ((((0 ∷ 0 ∷ 0 ∷ 0 ∷ []) ∷ (1 ∷ 2 ∷ 3 ∷ 4 ∷ []) ∷ []) ∷ ((0 ∷ 0 ∷ 0 ∷ 0 ∷ []) ∷ (1 ∷ 2 ∷ 3 ∷ 4 ∷ []) ∷ []) ∷ [])
    ∷ (((0 ∷ 0 ∷ 0 ∷ 0 ∷ []) ∷ (1 ∷ 2 ∷ 3 ∷ 4 ∷ []) ∷ []) ∷ ((0 ∷ 0 ∷ 0 ∷ 0 ∷ []) ∷ (1 ∷ 2 ∷ 3 ∷ 4 ∷ []) ∷ []) ∷ [])
    ∷ (((0 ∷ 0 ∷ 0 ∷ 0 ∷ []) ∷ (7 ∷ 0 ∷ 0 ∷ 0 ∷ []) ∷ []) ∷ ((0 ∷ 0 ∷ 0 ∷ 0 ∷ []) ∷ (7 ∷ 0 ∷ 0 ∷ 0 ∷ []) ∷ []) ∷ [])
    ∷ [])
unfolding load_of decided well_made_of drained_of first_bad header_of tested_of body_of
loads_of_edition_2 = refl

-- a file of the first without registers leaves it, and one with 7 in register 0 sets it
pub loads_of_edition_1 : map (λ (file : List ℕ). rows_after One file ∷ rows_after Two file ∷ []) (file_in One 0 [] ∷ file_in One 1 (7 ∷ replicate 15 0) ∷ [])
    ≡ ((((1 ∷ 2 ∷ 3 ∷ 4 ∷ []) ∷ (1 ∷ 2 ∷ 3 ∷ 4 ∷ []) ∷ []) ∷ ((0 ∷ 0 ∷ 0 ∷ 0 ∷ []) ∷ (1 ∷ 2 ∷ 3 ∷ 4 ∷ []) ∷ []) ∷ [])
    ∷ (((7 ∷ 0 ∷ 0 ∷ 0 ∷ []) ∷ (1 ∷ 2 ∷ 3 ∷ 4 ∷ []) ∷ []) ∷ ((7 ∷ 0 ∷ 0 ∷ 0 ∷ []) ∷ (1 ∷ 2 ∷ 3 ∷ 4 ∷ []) ∷ []) ∷ [])
    ∷ [])
unfolding load_of decided well_made_of drained_of first_bad header_of tested_of body_of
loads_of_edition_1 = refl

-- a file with wrong bytes 8-11, and one with a nonzero register 0
abbrev wrong_bytes : List ℕ
wrong_bytes = 0 ∷ 0 ∷ 0 ∷ 0 ∷ 12 ∷ 0 ∷ 12 ∷ 0 ∷ 1 ∷ 0 ∷ 0 ∷ 0 ∷ []

abbrev nonzero : List ℕ
nonzero = file_in Two 1 (7 ∷ replicate 15 0)

-- an edition by its number
abbrev number_in : Edition → ℕ
number_in One = 1
number_in Two = 2

-- the unit has the edition of the file that it loaded, and keeps its own where the file is refused
pub loaded_edition : map (λ (file : List ℕ). map (λ (edition : Edition). number_in (load_of file (before edition)).unit.program.edition) (One ∷ Two ∷ []))
    (file_in One 0 [] ∷ file_in Two 0 [] ∷ wrong_bytes ∷ nonzero ∷ [])
    ≡ ((1 ∷ 1 ∷ []) ∷ (2 ∷ 2 ∷ []) ∷ (1 ∷ 2 ∷ []) ∷ (1 ∷ 2 ∷ []) ∷ [])
unfolding load_of decided well_made_of drained_of first_bad header_of tested_of body_of
loaded_edition = refl

-- a go leaves it as it is
pub gone_edition : map (λ (edition : Edition). number_in (go_of (before edition)).unit.program.edition) (One ∷ Two ∷ []) ≡ (1 ∷ 2 ∷ [])
unfolding go_of decided well_made_of first_bad
gone_edition = refl

-- 14 and 15, behind 10 and behind 18
pub refusals_of_edition_2 : map (λ (file : List ℕ). map (λ (u : Unit). (load_of file u).refusal) (before One ∷ before Two ∷ ill_made ∷ holding Two true zero_register full ∷ []))
    (wrong_bytes ∷ nonzero ∷ [])
    ≡ ((14 ∷ 14 ∷ 10 ∷ 18 ∷ []) ∷ (15 ∷ 15 ∷ 10 ∷ 18 ∷ []) ∷ [])
unfolding load_of decided well_made_of drained_of first_bad header_of tested_of body_of
refusals_of_edition_2 = refl

-- li 5 into halfword 0 of register 0, and AU of register 0 with itself into register 1 and into register 2, with register 0 zero and the others 1 in word 0
abbrev reading : Edition → Unit
reading edition = begun_of true (lines_in edition (0xA0 ∷ 0x1810001 ∷ 0x1810002 ∷ [])) (zero_register ∷ replicate 31 full)

-- word 0 of registers 0, 1 and 2
abbrev words0 : Unit → List ℕ
words0 u = map (λ (r : Register). r.w0) (take 3 u.registers)

-- cycle by cycle: in the first edition the li writes in cycle 4, and the AUs behind it in cycles 5 and 6; in the second its write is dropped, and they read zero
pub registers_each_cycle : map (λ (edition : Edition). map (λ (c : ℕ). words0 (cycles_of c (reading edition))) (0 ∷ 1 ∷ 2 ∷ 3 ∷ 4 ∷ 5 ∷ 6 ∷ [])) (One ∷ Two ∷ [])
    ≡ (((0 ∷ 1 ∷ 1 ∷ []) ∷ (0 ∷ 1 ∷ 1 ∷ []) ∷ (0 ∷ 1 ∷ 1 ∷ []) ∷ (0 ∷ 1 ∷ 1 ∷ []) ∷ (5 ∷ 1 ∷ 1 ∷ []) ∷ (5 ∷ 10 ∷ 1 ∷ []) ∷ (5 ∷ 10 ∷ 10 ∷ []) ∷ [])
    ∷ ((0 ∷ 1 ∷ 1 ∷ []) ∷ (0 ∷ 1 ∷ 1 ∷ []) ∷ (0 ∷ 1 ∷ 1 ∷ []) ∷ (0 ∷ 1 ∷ 1 ∷ []) ∷ (0 ∷ 1 ∷ 1 ∷ []) ∷ (0 ∷ 0 ∷ 1 ∷ []) ∷ (0 ∷ 0 ∷ 0 ∷ []) ∷ [])
    ∷ [])
unfolding cycles_of cycle_of first_of operation_of target_of outcome_of result_of with_half signed bits within
registers_each_cycle = refl

-- word 0 of what EX/WB holds, 0 where it is empty
abbrev value_in : ExWb → ℕ
value_in None = 0
value_in (Some (i, o)) = o.value.w0

abbrev values_in : (Edition → Unit) → List (List ℕ)
values_in unit = map (λ (edition : Edition). map (λ (c : ℕ). value_in (cycles_of c (unit edition)).executed) (2 ∷ 3 ∷ 4 ∷ 5 ∷ [])) (One ∷ Two ∷ [])

-- after cycle 3 the li's 5 in both; then the AU's, which has it from WB in the first edition alone, and the next one's, which ID read in the cycle of that write
pub forwarded_in_edition_1 : values_in reading ≡ ((0 ∷ 5 ∷ 10 ∷ 10 ∷ []) ∷ (0 ∷ 5 ∷ 0 ∷ 0 ∷ []) ∷ [])
unfolding cycles_of cycle_of first_of operation_of target_of outcome_of result_of with_half signed bits within
forwarded_in_edition_1 = refl

-- li 5 into halfword 0 of register 0, li 7 into its halfword 1, and li 9 into its halfword 0: "li's old value included", the second edition's keep nothing of the one before
abbrev keeping : Edition → Unit
keeping edition = begun_of true (lines_in edition (0xA0 ∷ 0x2000E0 ∷ 0x120 ∷ [])) (zero_register ∷ replicate 31 full)

pub old_values_of_li : values_in keeping ≡ ((0 ∷ 5 ∷ 0x70005 ∷ 0x70009 ∷ []) ∷ (0 ∷ 5 ∷ 0x70000 ∷ 9 ∷ []) ∷ [])
unfolding cycles_of cycle_of first_of operation_of target_of outcome_of result_of with_half signed bits within
old_values_of_li = refl
