-- What each call on a unit answers, for every unit whatsoever.
-- Assumes nothing.
use Rattle.std.specs.Prelude.{ℕ, zero, suc, ◌+◌, Bool, true, false, cond, not, List, [], ◌∷◌, eqb, ltb, get_or, set, replicate}
use Rattle.register.specs.declared.Register.{Register}
use Rattle.register.specs.Layout.{zero_register}
use Rattle.table.specs.declared.Edition.TheVariants.{One}
use Rattle.table.specs.Decided.{decided}
use Rattle.table.specs.Refusal.{POINTER, DRAINED, STATE, BUSY}
use Rattle.plain_rules.specs.Machine.{cleared_for}
use Rattle.job_rules.specs.declared.Job.{Job}
use Rattle.job_rules.specs.declared.Program.{Program}
use Rattle.job_rules.specs.Read.{ReadJob}
use Rattle.job_rules.specs.Read.{read_of}
use Rattle.std.specs.declared.option.Option.TheVariants.{None}
use Rattle.unit_rules.specs.declared.Unit.{Unit}
use Rattle.unit_rules.specs.Answers.{Loaded, Gone, Cycled, Ran, RegisterAnswer, Drained}
use Rattle.unit_rules.specs.Cycle.{cycle_of}
use Rattle.unit_rules.specs.Record.{drained_of, well_made_of}

-- a unit before the first cycle of a program on some registers, gone or not: the latches empty, count and cycle number zero
abbrev pub begun_of : Bool → Program → List Register → Unit
begun_of gone program registers = record {
  program = program;
  count = record { 0 = 0 };
  cycle = 0;
  registers = registers;
  fetched = None;
  decoded = None;
  executed = None;
  gone = gone;
}

-- "A fresh unit has n = 0, registers zero, and is drained."; "Edition 1, which a fresh unit has": it is loaded and has not gone
abbrev pub fresh_of : Unit
fresh_of = begun_of false (record { words = replicate 64 0; n = record { 0 = 0 }; edition = One }) (replicate 32 zero_register)

-- ---- load

-- "sets registers 0 .. r-1 from the file; the others keep what they held"
abbrev pub registers_set : ℕ → List Register → List Register → List Register
registers_set zero file f = f
registers_set (suc i) file f = set (registers_set i file f) i (get_or file i zero_register)

-- and in the second edition "register 0 is zero from load on"
abbrev pub registers_loaded : Job → List Register → List Register
registers_loaded job f = cleared_for job.program.edition zero_register (registers_set job.r job.registers f)

-- "load .. sets program and registers and puts count and cycle to zero": the state is "loaded and not gone", in which "the latches [are] empty"
abbrev pub loaded_of : Job → Unit → Unit
loaded_of job u = begun_of false job.program (registers_loaded job u.registers)

-- by what reading the file answers; refused, the unit "comes back as it was given"
abbrev pub loaded_by : ReadJob → Unit → Loaded
loaded_by read u = record { refusal = read.refusal; place = read.place; unit = cond (eqb read.refusal 0) (loaded_of read.job u) u }

-- "load gives 10, then 18 (busy) when the unit isn't drained, then 1 onwards"
unfoldable pub load_of : List ℕ → Unit → Loaded
load_of file u =
    decided
    ((not (well_made_of u), record { refusal = STATE; place = 0; unit = u })
    ∷ (not (drained_of u), record { refusal = BUSY; place = 0; unit = u })
    ∷ [])
    (loaded_by (read_of file) u)

-- ---- go

-- "go empties the latches and sets count and cycle to zero": from then on the unit has gone
abbrev pub gone_of : Unit → Unit
gone_of u = begun_of true u.program u.registers

-- "go gives 10"
unfoldable pub go_of : Unit → Gone
go_of u =
    decided
    ((not (well_made_of u), record { refusal = STATE; unit = u })
    ∷ [])
    (record { refusal = 0; unit = gone_of u })

-- ---- the other calls: each "tests 10 first"

-- "then a cycle tests 8"
unfoldable pub cycled_of : Unit → Cycled
cycled_of u =
    decided
    ((not (well_made_of u), record { refusal = STATE; unit = u })
    ∷ (drained_of u, record { refusal = DRAINED; unit = u })
    ∷ [])
    (record { refusal = 0; unit = cycle_of u })

-- as many cycles as the budget allows and the unit has left: how many, and the unit afterwards
unfoldable pub goes_on : ℕ → Unit → ℕ × Unit
goes_on zero u = (0, u)
goes_on (suc k) u = cond (drained_of u) (0, u) ((goes_on k (cycle_of u)).0 + 1, (goes_on k (cycle_of u)).1)

-- "A run with a budget k makes min(k, cycles left) cycles and answers that number; drained, it answers 0 and is not refused."
unfoldable pub ran_of : Unit → ℕ → Ran
ran_of u k =
    decided
    ((not (well_made_of u), record { refusal = STATE; made = 0; unit = u })
    ∷ [])
    (record { refusal = 0; made = (goes_on k u).0; unit = (goes_on k u).1 })

-- "and a register asked by number 7"
unfoldable pub register_of : Unit → ℕ → RegisterAnswer
register_of u i =
    decided
    ((not (well_made_of u), record { refusal = STATE; register = zero_register })
    ∷ (ltb 31 i, record { refusal = POINTER; register = zero_register })
    ∷ [])
    (record { refusal = 0; register = get_or u.registers i zero_register })

unfoldable pub asked_drained : Unit → Drained
asked_drained u =
    decided
    ((not (well_made_of u), record { refusal = STATE; drained = false })
    ∷ [])
    (record { refusal = 0; drained = drained_of u })
