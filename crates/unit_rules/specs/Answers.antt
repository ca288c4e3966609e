-- What the calls on a unit answer in numbers: 0 or the number of a refusal, with 6 its place, and the values, zeros on a refusal; and the unit.
-- Assumes nothing.
use Rattle.std.specs.Prelude.{ℕ, Bool, false}
use Rattle.std.specs.declared.result.Result.{Result}
use Rattle.register.specs.declared.Register.{Register}
use Rattle.register.specs.Layout.{zero_register}
use Rattle.table.specs.declared.refusal.Refusal.{Refusal}
use Rattle.table.specs.Refusal.{number_in, place_in, value_in}
use Rattle.unit_rules.specs.declared.Unit.{Unit}
use Rattle.unit_rules.specs.declared.Answered.{Answered}

-- of a load: 0, 10, 18, or the number that the file is refused with, with 6 the place of the first bad word; and the unit
pub record Loaded : Type 0 where
  pub refusal : ℕ
  pub place : ℕ
  pub unit : Unit

-- of a go: 0 or 10; and the unit
pub record Gone : Type 0 where
  pub refusal : ℕ
  pub unit : Unit

-- of a cycle: 0, 8 or 10, with a row also 9; and the unit
pub record Cycled : Type 0 where
  pub refusal : ℕ
  pub unit : Unit

-- of a run: 0 or 10, how many cycles were made, and the unit
pub record Ran : Type 0 where
  pub refusal : ℕ
  pub made : ℕ
  pub unit : Unit

-- of asking for a register: 0, 7 or 10, and the register
pub record RegisterAnswer : Type 0 where
  pub refusal : ℕ
  pub register : Register

-- of asking whether a unit is drained: 0 or 10, and whether it is
pub record Drained : Type 0 where
  pub refusal : ℕ
  pub drained : Bool

-- ---- for each case of a call's answer its number and its values, zeros on a refusal, as the record of that call has them

abbrev pub said_loaded : {A : Type 0} → Answered A → Loaded
said_loaded a = record { refusal = number_in a.answer; place = place_in a.answer; unit = a.unit }

abbrev pub said_gone : {A : Type 0} → Answered A → Gone
said_gone a = record { refusal = number_in a.answer; unit = a.unit }

-- of a cycle, with a row or without
abbrev pub said_cycled : {A : Type 0} → Answered A → Cycled
said_cycled a = record { refusal = number_in a.answer; unit = a.unit }

abbrev pub said_ran : Answered ℕ → Ran
said_ran a = record { refusal = number_in a.answer; made = value_in 0 a.answer; unit = a.unit }

abbrev pub said_register : Result Register Refusal → RegisterAnswer
said_register answer = record { refusal = number_in answer; register = value_in zero_register answer }

abbrev pub said_drained : Result Bool Refusal → Drained
said_drained answer = record { refusal = number_in answer; drained = value_in false answer }

-- the answer of a call on a lent unit, beside the unit that the caller has afterwards
abbrev pub beside : {A : Type 0} → Result A Refusal → Unit → Answered A
beside answer u = record { answer = answer; unit = u }
