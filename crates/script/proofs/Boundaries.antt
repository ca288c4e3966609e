-- Numbers, words and lines at each boundary: what is just known, with its value, and what is just not. Carried by computing the definitions.
-- Assumes nothing.
use Prim.Native.Nat.{ℕ}
use mathlib.Core.Path.{◌≡◌, refl}
use mathlib.Core.List.{List, [], ◌∷◌, ◌++◌}
use lib.ListN.{replicate}
use Rattle.text_rules.specs.Front.{front_while}
use Rattle.text_rules.specs.Number.{digit_of}
use Rattle.std.specs.Prelude.{Option, Some, None}
use Rattle.script.specs.Words.{next_place, line_end, word_end, first_line, first_word}
use Rattle.script.specs.Numbers.{said_in}

-- a number that is known
abbrev known : ℕ → Option ℕ
known value = Some value

-- `429496729` and one digit more
abbrev near_limit : ℕ → List ℕ
near_limit digit = 52 ∷ 50 ∷ 57 ∷ 52 ∷ 57 ∷ 54 ∷ 55 ∷ 50 ∷ 57 ∷ digit ∷ []

-- 4294967295 is known, 4294967296 is not; nor is what has a digit more
pub decimal_limit : (said_in 10 (near_limit 53) ∷ said_in 10 (near_limit 54) ∷ said_in 10 (near_limit 48 ++ 48 ∷ []) ∷ [])
    ≡ (known 4294967295 ∷ None ∷ None ∷ [])
unfolding said_in digit_of
decimal_limit = refl

-- nothing at all, `+1`, ` 1`, `1x`, `A`, and the bytes just before and just behind the digits
pub no_decimals : (said_in 10 [] ∷ said_in 10 (43 ∷ 49 ∷ []) ∷ said_in 10 (32 ∷ 49 ∷ []) ∷ said_in 10 (49 ∷ 120 ∷ []) ∷ said_in 10 (65 ∷ [])
    ∷ said_in 10 (47 ∷ []) ∷ said_in 10 (58 ∷ []) ∷ [])
    ≡ replicate 7 None
unfolding said_in digit_of
no_decimals = refl

-- `0`, `9`, `05`, and a 7 behind twenty zeros
pub zeros_in_front : (said_in 10 (48 ∷ []) ∷ said_in 10 (57 ∷ []) ∷ said_in 10 (48 ∷ 53 ∷ []) ∷ said_in 10 (replicate 20 48 ++ 55 ∷ []) ∷ [])
    ≡ (known 0 ∷ known 9 ∷ known 5 ∷ known 7 ∷ [])
unfolding said_in digit_of
zeros_in_front = refl

-- FFFFFFFF is known, 100000000 is not
pub hex_limit : (said_in 16 (replicate 8 70) ∷ said_in 16 (49 ∷ replicate 8 48) ∷ []) ≡ (known 0xFFFFFFFF ∷ None ∷ [])
unfolding said_in digit_of
hex_limit = refl

-- `0`, `9`, `A` and `F`; `1F`, and the same behind a zero
pub hex_digits_lem : (said_in 16 (48 ∷ []) ∷ said_in 16 (57 ∷ []) ∷ said_in 16 (65 ∷ []) ∷ said_in 16 (70 ∷ [])
    ∷ said_in 16 (49 ∷ 70 ∷ []) ∷ said_in 16 (48 ∷ 49 ∷ 70 ∷ []) ∷ [])
    ≡ (known 0 ∷ known 9 ∷ known 10 ∷ known 15 ∷ known 31 ∷ known 31 ∷ [])
unfolding said_in digit_of
hex_digits_lem = refl

-- nothing at all; lower case, `a` and `f`; `G`, `@`, the bytes just behind and just before the letters; `:` and `/`, those around the digits
pub no_hex_digits : (said_in 16 [] ∷ said_in 16 (97 ∷ []) ∷ said_in 16 (102 ∷ []) ∷ said_in 16 (71 ∷ []) ∷ said_in 16 (64 ∷ [])
    ∷ said_in 16 (58 ∷ []) ∷ said_in 16 (47 ∷ []) ∷ [])
    ≡ replicate 7 None
unfolding said_in digit_of
no_hex_digits = refl

-- `go 31`: its words end at 2 and at 5; from the space on there is an empty word; at the line's end and beyond it, the line's end
abbrev line : List ℕ
line = 103 ∷ 111 ∷ 32 ∷ 51 ∷ 49 ∷ []

pub word_ends : (word_end 0 line ∷ word_end 1 line ∷ word_end 2 line ∷ word_end 3 line ∷ word_end 5 line ∷ word_end 6 line ∷ word_end 0 [] ∷ word_end 1 [] ∷ [])
    ≡ (2 ∷ 2 ∷ 2 ∷ 5 ∷ 5 ∷ 5 ∷ 0 ∷ 0 ∷ [])
unfolding next_place front_while
word_ends = refl

-- the word in front, and what is left: nothing where no space follows it, an empty rest where nothing follows the space
pub first_words : (first_word line ∷ first_word (32 ∷ 53 ∷ []) ∷ first_word (53 ∷ 32 ∷ []) ∷ first_word (53 ∷ []) ∷ first_word [] ∷ [])
    ≡ ((103 ∷ 111 ∷ [], Some (51 ∷ 49 ∷ [])) ∷ ([], Some (53 ∷ [])) ∷ (53 ∷ [], Some []) ∷ (53 ∷ [], None) ∷ ([], None) ∷ [])
unfolding next_place front_while
first_words = refl

-- `go 31`, a newline, an empty line, and `go` without a newline
abbrev text : List ℕ
text = line ++ 10 ∷ 10 ∷ 103 ∷ 111 ∷ []

pub line_ends : (line_end 0 text ∷ line_end 3 text ∷ line_end 6 text ∷ line_end 7 text ∷ line_end 9 text ∷ line_end 10 text ∷ [])
    ≡ (5 ∷ 5 ∷ 6 ∷ 9 ∷ 9 ∷ 9 ∷ [])
unfolding next_place front_while
line_ends = refl

-- the lines in front of what is left of it
pub first_lines : (first_line text ∷ first_line (10 ∷ 103 ∷ 111 ∷ []) ∷ first_line (103 ∷ 111 ∷ []) ∷ [])
    ≡ ((line, Some (10 ∷ 103 ∷ 111 ∷ [])) ∷ ([], Some (103 ∷ 111 ∷ [])) ∷ (103 ∷ 111 ∷ [], None) ∷ [])
unfolding next_place front_while
first_lines = refl
