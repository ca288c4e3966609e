-- Every word of a register that a function is handed has 32 bits: the definitions are over all numbers, so the laws about bits ask for it.
-- Assumes nothing.
use Prim.Native.Nat.{◌<◌, ◌^◌}
use mathlib.Core.List.{List}
use mir.Val.{Val}
use denote.Laws.{Is}
use denote.Struct.Laws as struct
use Rattle.register.specs.declared.Register.{Register}
use Rattle.register.specs.contracts.Register as declared
use Rattle.register.proofs.Register.TheLaws as laws

pub record Held (r : Register) : Type 0 where
  pub w0_fits : r.w0 < 2 ^ 32
  pub w1_fits : r.w1 < 2 ^ 32
  pub w2_fits : r.w2 < 2 ^ 32
  pub w3_fits : r.w3 < 2 ^ 32

-- from what owning a register tells
pub held : {r : Register} {vs : List Val} → Is declared.the_row r vs → Held r
held {r} {vs} is =
    let o = struct.owed declared.the_type laws.the_laws r vs is in
    record { w0_fits = o.0.1; w1_fits = o.1.0.1; w2_fits = o.1.1.0.1; w3_fits = o.1.1.1.0.1 }
