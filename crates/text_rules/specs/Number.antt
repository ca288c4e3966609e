-- Numbers as a text has them: in decimal digits, or in hex digits. Every byte is a number, its ASCII code.
-- Assumes nothing.
use Rattle.std.specs.Prelude.{ℕ, zero, suc, ◌+◌, ◌*◌, ◌-◌, ◌/◌, ◌%◌, Bool, true, false, cond, not, ◌&&◌, List, [], ◌∷◌, ◌++◌, map, ltb, leb, eqb, length}
use Rattle.row_rules.specs.Text.{hex_digits}
use Rattle.text_rules.specs.Front.{front_while}

-- ---- digits

-- the decimal digits 0 to 9, and the upper-case letters A to F
abbrev is_decimal : ℕ → Bool
is_decimal b = leb 48 b && leb b 57

abbrev is_letter : ℕ → Bool
is_letter b = leb 65 b && leb b 70

-- what a byte says as a digit: 0 to 9, then A to F as 10 to 15; 16 where it is none
unfoldable pub digit_of : ℕ → ℕ
digit_of b = cond (is_decimal b) (b - 48) (cond (is_letter b) (b - 55) 16)

-- whether it is a digit of a base, 10 or 16
abbrev pub is_digit : ℕ → ℕ → Bool
is_digit base b = ltb (digit_of b) base

-- all digits at the front of a text
abbrev pub digits_in : ℕ → List ℕ → List ℕ
digits_in base l = front_while (is_digit base) l

-- what digits of a base say, behind digits that say `before`
abbrev pub positional : ℕ → ℕ → List ℕ → ℕ
positional base before [] = before
positional base before (d ∷ digits) = positional base (base * before + d) digits

-- the number that they say
abbrev pub number_of : ℕ → List ℕ → ℕ
number_of base digits = positional base 0 (map digit_of digits)

-- ---- numbers

-- how the numbers of a line are written: "decimal numbers without leading zeros", or "seven upper-case hex digits"
pub data Notation : Type 0 where
  decimal : Notation
  seven_hex : Notation

abbrev pub base_of : Notation → ℕ
base_of decimal = 10
base_of seven_hex = 16

-- "without leading zeros": there is a digit, and the first is no 0 where another follows
abbrev pub no_leading_zero : List ℕ → Bool
no_leading_zero [] = false
no_leading_zero (b ∷ []) = true
no_leading_zero (b ∷ c ∷ digits) = not (eqb b 48)

-- whether digits are a numeral: "without leading zeros", or "seven" of them
abbrev pub is_numeral : Notation → List ℕ → Bool
is_numeral decimal digits = no_leading_zero digits
is_numeral seven_hex digits = eqb (length digits) 7

-- and say a number below this limit
unfoldable pub says_below : Notation → ℕ → List ℕ → Bool
says_below notation limit digits = is_numeral notation digits && ltb (number_of (base_of notation) digits) limit

-- ---- the digits of a number

-- in decimal, without leading zeros, where it has no more than `most`
unfoldable pub decimal_in : ℕ → ℕ → List ℕ
decimal_in zero v = []
decimal_in (suc most) v = cond (ltb v 10) [] (decimal_in most (v / 10)) ++ (48 + v % 10) ∷ []

abbrev pub digits_for : Notation → ℕ → List ℕ
digits_for decimal v = decimal_in (suc v) v
digits_for seven_hex v = hex_digits 7 v
