-- When a unit is drained, and when its record is well made.
-- Assumes nothing.
use Rattle.table.specs.declared.Pointer.{Pointer}
use Rattle.std.specs.Prelude.{ℕ, ◌+◌, ◌-◌, min, Bool, true, false, cond, not, ◌&&◌, ◌||◌, eqb, leb, get_or}
use Rattle.register.specs.Layout.{zero_register}
use Rattle.std.specs.declared.option.Option.{Option}
use Rattle.std.specs.declared.option.Option.TheVariants.{None, Some}
use Rattle.table.specs.Refusal.{first_bad}
use Rattle.job_rules.specs.declared.Program.{Program}
use Rattle.job_rules.specs.Program.{lines_of, may_hold}
use Rattle.unit_rules.specs.declared.Instruction.{Instruction}
use Rattle.unit_rules.specs.Latches.{IfId, IdEx, ExWb}
use Rattle.unit_rules.specs.declared.Unit.{Unit}
use Rattle.unit_rules.specs.Cycle.{fetched_in}

-- the instruction that a latch holds, or nothing, without its values
abbrev pub in_decoded : IdEx → IfId
in_decoded None = None
in_decoded (Some (i, o)) = Some i

abbrev pub in_executed : ExWb → IfId
in_executed None = None
in_executed (Some (i, o)) = Some i

abbrev pub is_empty : IfId → Bool
is_empty None = true
is_empty (Some i) = false

-- "all latches are empty"
abbrev pub all_empty : IfId → IfId → IfId → Bool
all_empty fetched decoded executed = is_empty fetched && is_empty decoded && is_empty executed

-- "A loaded unit that has not gone counts as drained." Once it has gone, "The unit is drained when the count has reached n and all latches are empty."
unfoldable pub drained_of : Unit → Bool
drained_of u =
    not u.gone || (leb u.program.n.0 u.count.0 && all_empty u.fetched (in_decoded u.decoded) (in_executed u.executed))

-- "n+3 (0 when n is 0)"
abbrev pub last_of : ℕ → ℕ
last_of n = cond (eqb n 0) 0 (n + 3)

-- the same instruction, the word and all that a latch says of it
abbrev pub same_target : Option Pointer → Option Pointer → Bool
same_target None None = true
same_target None (Some q) = false
same_target (Some p) None = false
same_target (Some p) (Some q) = eqb p.0 q.0

abbrev pub same_instruction : Instruction → Instruction → Bool
same_instruction i j =
    eqb i.word j.word
    && eqb i.first.0 j.first.0 && eqb i.second.0 j.second.0 && eqb i.third.0 j.third.0
    && same_target i.target j.target

abbrev pub same_held : IfId → IfId → Bool
same_held None None = true
same_held None (Some j) = false
same_held (Some i) None = false
same_held (Some i) (Some j) = same_instruction i j

-- "n is at most 64, its n words are below 2^25"
abbrev pub program_made : Program → Bool
program_made program = leb program.n.0 64 && leb program.n.0 (first_bad (lines_of program))

-- "the cycle number c is at most n+3 (0 when n is 0), the count is the smaller of c and n"
abbrev pub numbers_made : ℕ → ℕ → ℕ → Bool
numbers_made n count c = leb c (last_of n) && eqb count (min c n)

-- "and the latches hold instructions c-1, c-2 and c-3, or nothing outside 0 .. n-1": what was fetched in cycles c, c-1 and c-2; in cycle 0 nothing was
abbrev pub latches_made : Program → ℕ → IfId → IfId → IfId → Bool
latches_made program c fetched decoded executed =
    same_held fetched (fetched_in program c) && same_held decoded (fetched_in program (c - 1)) && same_held executed (fetched_in program (c - 2))

-- of a unit that has gone: its count, its cycle number and its latches, as above
abbrev pub run_made : Program → ℕ → ℕ → IfId → IfId → IfId → Bool
run_made program count c fetched decoded executed = numbers_made program.n.0 count c && latches_made program c fetched decoded executed

-- "the state loaded and not gone, in which count and cycle are zero and the latches empty"
abbrev pub rest_made : ℕ → ℕ → IfId → IfId → IfId → Bool
rest_made count c fetched decoded executed = eqb count 0 && eqb c 0 && all_empty fetched decoded executed

-- "A record is well made when ..", in either state; in the second edition "a unit with it nonzero", register 0, is not
unfoldable pub well_made_of : Unit → Bool
well_made_of u =
    program_made u.program
    && may_hold u.program.edition (get_or u.registers 0 zero_register)
    && cond u.gone
    (run_made u.program u.count.0 u.cycle u.fetched (in_decoded u.decoded) (in_executed u.executed))
    (rest_made u.count.0 u.cycle u.fetched (in_decoded u.decoded) (in_executed u.executed))
