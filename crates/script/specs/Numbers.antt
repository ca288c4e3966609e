-- Numbers in digits of a base, 10 or 16.
-- Assumes nothing.
use Rattle.std.specs.Prelude.{ℕ, ◌^◌, Bool, true, cond, ◌&&◌, Option, Some, None, List, [], ◌∷◌, ltb, length}
use Rattle.text_rules.specs.Number.{is_digit, number_of}

-- whether all bytes are digits of a base
abbrev pub all_digits : ℕ → List ℕ → Bool
all_digits base [] = true
all_digits base (b ∷ l) = is_digit base b && all_digits base l

-- one or more digits, zeros in front or not
abbrev pub is_number : ℕ → List ℕ → Bool
is_number base l = ltb 0 (length l) && all_digits base l

-- what one or more digits say, where that is below 2^32; and none otherwise
unfoldable pub said_in : ℕ → List ℕ → Option ℕ
said_in base l = cond (is_number base l && ltb (number_of base l) (2 ^ 32)) (Some (number_of base l)) None
