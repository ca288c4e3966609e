-- A lane that clamps, of any width: "The exact result is clamped", and whether that changed it.
-- Assumes nothing.
use Rattle.std.specs.Prelude.{ℕ, ℤ}
use Rattle.alu_rules.specs.Width.{clamped, is_marked}
use Rattle.alu_lanes.specs.declared.clamped.Clamped.{Clamped}

-- the lane of k bits whose exact result is z
abbrev pub clamped_lane : ℕ → ℤ → Clamped ℕ
clamped_lane k z = record { value = clamped k z; marked = is_marked k z }

-- a lane of any type, its value as a number
abbrev pub in_numbers : {L : Type 0} → (L → ℕ) → Clamped L → Clamped ℕ
in_numbers number r = record { value = number r.value; marked = r.marked }
