-- What private functions of the crate promise each other. No public contract names anything here.
-- Assumes nothing.
use Rattle.std.specs.Prelude.{ℕ, ◌+◌, ◌*◌, cond, ℤ}
use Rattle.register.specs.Halves.{low, high, join}
use Rattle.alu_rules.specs.declared.Outcome.{Outcome}
use Rattle.alu_rules.specs.Across.{word_bits}
use Rattle.alu_lanes.specs.Clamped.{clamped_lane}
use Rattle.alu.specs.declared.halfwords.ClampedHalves.{ClampedHalves}

-- two clamped halfwords as a word, and its two bits
abbrev pub value_of : ClampedHalves → ℕ
value_of w = join 16 w.hi.value w.lo.value

abbrev pub bits_of : ClampedHalves → ℕ
bits_of w = word_bits (join 16 (cond w.hi.marked 1 0) (cond w.lo.marked 1 0))

-- f gives their exact results
abbrev pub clamped_halves : (ℕ → ℕ → ℤ) → ℕ → ℕ → ClampedHalves
clamped_halves f a b = record { hi = clamped_lane 16 (f (high 16 a) (high 16 b)); lo = clamped_lane 16 (f (low 16 a) (low 16 b)) }

-- four such words as a register, and its mark
abbrev pub of_halves : ClampedHalves → ClampedHalves → ClampedHalves → ClampedHalves → Outcome
of_halves w0 w1 w2 w3 = record {
  value = record { w0 = value_of w0; w1 = value_of w1; w2 = value_of w2; w3 = value_of w3 };
  mark = bits_of w0 + 4 * bits_of w1 + 16 * bits_of w2 + 64 * bits_of w3;
}
