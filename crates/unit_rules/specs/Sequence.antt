-- Calls one after another: what they leave of a unit, how many cycles are made in them, and whether there is a go or a load among them that is accepted.
-- Assumes nothing.
use Rattle.std.specs.Prelude.{ℕ, zero, suc, ◌+◌, ◌≡◌, Bool, false, cond, ◌||◌, List, [], ◌∷◌, eqb, length}
use Rattle.register.specs.declared.Register.{Register}
use Rattle.unit_rules.specs.declared.Unit.{Unit}
use Rattle.unit_rules.specs.Calls.{load_of, go_of, cycled_of, ran_of}

-- a file of 32 registers, as `[Register; 32]` is
abbrev pub Whole : List Register → Type 0
Whole f = length f ≡ 32

-- so many calls of `cycle`, one after another
abbrev pub after_calls : ℕ → Unit → Unit
after_calls zero u = u
after_calls (suc c) u = (cycled_of (after_calls c u)).unit

-- a call on a unit: of a load its file, of a cycle with a row whether the buffer has room for it
pub data Call : Type 0 where
  load : List ℕ → Call
  go : Call
  cycle : Call
  row : Bool → Call
  run : ℕ → Call
  register : ℕ → Call
  drained : Call

-- the unit after a call: without room a cycle with a row is refused; a register call and the question whether it is drained hand no unit back
abbrev pub unit_after : Call → Unit → Unit
unit_after (load file) u = (load_of file u).unit
unit_after go u = (go_of u).unit
unit_after cycle u = (cycled_of u).unit
unit_after (row room) u = cond room (cycled_of u).unit u
unit_after (run k) u = (ran_of u k).unit
unit_after (register i) u = u
unit_after drained u = u

-- a call for one cycle makes it where it is not refused
abbrev pub made_unless : ℕ → ℕ
made_unless refusal = cond (eqb refusal 0) 1 0

-- the cycles made in a call
abbrev pub cycles_in : Call → Unit → ℕ
cycles_in (load file) u = 0
cycles_in go u = 0
cycles_in cycle u = made_unless (cycled_of u).refusal
cycles_in (row room) u = cond room (made_unless (cycled_of u).refusal) 0
cycles_in (run k) u = (ran_of u k).made
cycles_in (register i) u = 0
cycles_in drained u = 0

-- whether a call is a go or a load and is accepted: what demand 3 says "counts from the last go" and "holds until the next go or load"
abbrev pub renews : Call → Unit → Bool
renews (load file) u = eqb (load_of file u).refusal 0
renews go u = eqb (go_of u).refusal 0
renews cycle u = false
renews (row room) u = false
renews (run k) u = false
renews (register i) u = false
renews drained u = false

-- the same of calls one after another: the unit after them, the cycles made in them, and whether there is such a go or load among them
abbrev pub unit_after_all : List Call → Unit → Unit
unit_after_all [] u = u
unit_after_all (x ∷ calls) u = unit_after_all calls (unit_after x u)

abbrev pub cycles_in_all : List Call → Unit → ℕ
cycles_in_all [] u = 0
cycles_in_all (x ∷ calls) u = cycles_in x u + cycles_in_all calls (unit_after x u)

abbrev pub renews_in_all : List Call → Unit → Bool
renews_in_all [] u = false
renews_in_all (x ∷ calls) u = renews x u || renews_in_all calls (unit_after x u)
