-- A lane operation across whole registers, those that clamp with their marks, and the multiply family. Operands come in the order rs1, rs2, rs3.
-- Assumes nothing.
use Rattle.std.specs.Prelude.{ℕ, ◌+◌, ◌*◌, Bool, cond, ℤ}
use Rattle.register.specs.Halves.{low, high, half, join, halves₂}
use Rattle.alu_rules.specs.declared.Outcome.{Outcome}
use Rattle.alu_rules.specs.Width.{clamped, is_marked}
use Rattle.alu_rules.specs.Lane.{multiply_add, multiply_subtract}
use Rattle.register.specs.declared.Register.{Register}

-- f at each word: of three registers, of two, of one
abbrev pub words₃ : (ℕ → ℕ → ℕ → ℕ) → Register → Register → Register → Register
words₃ f a b c = record {
  w0 = f a.w0 b.w0 c.w0;
  w1 = f a.w1 b.w1 c.w1;
  w2 = f a.w2 b.w2 c.w2;
  w3 = f a.w3 b.w3 c.w3;
}

abbrev pub words₂ : (ℕ → ℕ → ℕ) → Register → Register → Register
words₂ f a b = words₃ (λ (x y z : ℕ). f x y) a b b

abbrev pub words₁ : (ℕ → ℕ) → Register → Register
words₁ f a = words₃ (λ (x y z : ℕ). f x) a a a

-- f at each halfword of two registers: at both halves of each word
abbrev pub halfwords₂ : (ℕ → ℕ → ℕ) → Register → Register → Register
halfwords₂ f a b = words₂ (halves₂ 16 f) a b

-- the register of long 1 and long 0, and f at each long of three registers
abbrev pub of_longs : ℕ → ℕ → Register
of_longs l1 l0 = record { w0 = low 32 l0; w1 = high 32 l0; w2 = low 32 l1; w3 = high 32 l1 }

abbrev pub longs₃ : (ℕ → ℕ → ℕ → ℕ) → Register → Register → Register → Register
longs₃ f a b c = of_longs
    (f (join 32 a.w3 a.w2) (join 32 b.w3 b.w2) (join 32 c.w3 c.w2))
    (f (join 32 a.w1 a.w0) (join 32 b.w1 b.w0) (join 32 c.w1 c.w0))

-- "Other instructions give zero."
abbrev pub unmarked : Register → Outcome
unmarked v = record { value = v; mark = 0 }

-- 1 where the exact result z of a lane of k bits is marked, else 0: as a lane, the 1 stands in its lowest halfword
abbrev pub lane_mark : ℕ → ℤ → ℕ
lane_mark k z = cond (is_marked k z) 1 0

-- "eight bits, bit i for halfword i, and for a wider lane the bit of its lowest halfword": of a register of such lanes, the two bits of a word, and all eight
abbrev pub word_bits : ℕ → ℕ
word_bits w = low 16 w + 2 * high 16 w

abbrev pub bits_of_lanes : Register → ℕ
bits_of_lanes r = word_bits r.w0 + 4 * word_bits r.w1 + 16 * word_bits r.w2 + 64 * word_bits r.w3

-- "The exact result is clamped", and "which lanes were clamped": `lanes g` is the register that has g of its exact result at every lane of k bits
abbrev pub clamped_across : ℕ → ((ℤ → ℕ) → Register) → Outcome
clamped_across k lanes = record { value = lanes (clamped k); mark = bits_of_lanes (lanes (lane_mark k)) }

-- the exact result is f at each halfword of two registers, at each word and at each long of three
abbrev pub clamped_halfwords : (ℕ → ℕ → ℤ) → Register → Register → Outcome
clamped_halfwords f a b = clamped_across 16 (λ (g : ℤ → ℕ). halfwords₂ (λ (x y : ℕ). g (f x y)) a b)

abbrev pub clamped_words : (ℕ → ℕ → ℕ → ℤ) → Register → Register → Register → Outcome
clamped_words f a b c = clamped_across 32 (λ (g : ℤ → ℕ). words₃ (λ (x y z : ℕ). g (f x y z)) a b c)

abbrev pub clamped_longs : (ℕ → ℕ → ℕ → ℤ) → Register → Register → Register → Outcome
clamped_longs f a b c = clamped_across 64 (λ (g : ℤ → ℕ). longs₃ (λ (x y z : ℕ). g (f x y z)) a b c)

-- "the low or high half of rs3 and of rs2 are multiplied as signed numbers, and the product is added to, or taken from, rs1": one lane, halves of k bits
abbrev pub multiply_lane : ℕ → Bool → Bool → ℕ → ℕ → ℕ → ℤ
multiply_lane k subtract is_high rs1 rs2 rs3 =
    cond subtract (multiply_subtract k rs1 (half k is_high rs3) (half k is_high rs2)) (multiply_add k rs1 (half k is_high rs3) (half k is_high rs2))

-- "In each word (long: each long)"
abbrev pub multiplied : Bool → Bool → Bool → Register → Register → Register → Outcome
multiplied long subtract is_high rs1 rs2 rs3 =
    cond long (clamped_longs (multiply_lane 32 subtract is_high) rs1 rs2 rs3) (clamped_words (multiply_lane 16 subtract is_high) rs1 rs2 rs3)
