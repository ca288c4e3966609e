-- Numbers of any width k + k by their halves of k bits.
-- Assumes nothing.
use Rattle.std.specs.Prelude.{ℕ, ◌+◌, ◌*◌, ◌/◌, ◌%◌, ◌^◌, Bool, cond}

-- the low and the high half, of k bits each, of a number of k + k bits
abbrev pub low : ℕ → ℕ → ℕ
low k x = x % 2 ^ k

abbrev pub high : ℕ → ℕ → ℕ
high k x = x / 2 ^ k

-- "the low or high half"
abbrev pub half : ℕ → Bool → ℕ → ℕ
half k is_high x = cond is_high (high k x) (low k x)

-- the number of k + k bits with these halves
abbrev pub join : ℕ → ℕ → ℕ → ℕ
join k hi lo = hi * 2 ^ k + lo

-- f at the matching halves of two numbers, and at each half of one
abbrev pub halves₂ : ℕ → (ℕ → ℕ → ℕ) → ℕ → ℕ → ℕ
halves₂ k f x y = join k (f (high k x) (high k y)) (f (low k x) (low k y))

abbrev pub halves : ℕ → (ℕ → ℕ) → ℕ → ℕ
halves k f x = halves₂ k (λ (a b : ℕ). f a) x x
