-- A program: its lines, and what its edition says of register 0.
-- Assumes nothing.
use Rattle.std.specs.Prelude.{ℕ, Bool, not, ◌||◌, List, take}
use Rattle.register.specs.declared.Register.{Register}
use Rattle.register.specs.Layout.{is_zero}
use Rattle.table.specs.declared.Edition.{Edition}
use Rattle.table.specs.Operation.{is_wired}
use Rattle.job_rules.specs.declared.Program.{Program}

-- the words of its n lines
abbrev pub lines_of : Program → List ℕ
lines_of p = take p.n.0 p.words

-- whether register 0 may hold this: "register 0 is zero" where the edition wires it
abbrev pub may_hold : Edition → Register → Bool
may_hold edition r = not (is_wired edition (record { 0 = 0 })) || is_zero r
