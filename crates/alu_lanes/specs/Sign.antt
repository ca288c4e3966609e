-- What the private functions of the crate promise each other. No public contract names anything here.
-- Assumes nothing.
use Rattle.std.specs.Prelude.{ℕ, Bool, cond, not, ◌&&◌, ℤ, ◌+ℤ◌, ◌-ℤ◌}
use Rattle.std.specs.Bool.{beq}
use Rattle.alu_rules.specs.Width.{signed}

-- x + y, or x - y, of the signed numbers that k bits say
abbrev pub exact_sum : ℕ → Bool → ℕ → ℕ → ℤ
exact_sum k minus x y = cond minus (signed k x -ℤ signed k y) (signed k x +ℤ signed k y)

-- whether two numbers have one sign and their sum has the other
unfoldable pub sign_lost : Bool → Bool → Bool → Bool
sign_lost x y sum = beq x y && not (beq x sum)
