-- The names of the forms byte by byte; small texts at each boundary of the rules for a line and for a text: what is just refused, by its number and its line, what is
-- just not, and the words of some lines; and words at each boundary of the rules for a listing. Carried by computing the definitions.
-- Assumes nothing.
use Prim.Native.Nat.{ℕ, ◌-◌}
use mathlib.Core.Path.{◌≡◌, refl}
use mathlib.Core.List.{List, [], ◌∷◌, ◌++◌, map, flat_map}
use lib.ListN.{get_or, replicate}
use Rattle.table.specs.Decided.{decided}
use Rattle.table.specs.Refusal.{first_bad}
use Rattle.job_rules.specs.Read.{tested_of, header_of, body_of}
use Rattle.job_rules.specs.Write.{written_of}
use Rattle.text_rules.specs.Letters.{a, c, d, h, i, l, m, n, o, p, r, s, t, u, w, x, dot}
use Rattle.text_rules.specs.Forms.{Form, every_form, first_row}
use Rattle.text_rules.specs.Front.{front_while}
use Rattle.text_rules.specs.Number.{digit_of, says_below, decimal_in}
use Rattle.text_rules.specs.Number.Notation.{decimal}
use Rattle.text_rules.specs.Line.{operands_in, line_of}
use Rattle.text_rules.specs.Text.{read_from, read_text_of}
use Rattle.text_rules.specs.Listing.{numbers_text, line_of_word, listing_of, longest_listing, listed_or_refusal, list_of, list_job_of}

-- the number that a text is refused with, 0 where it is not; the line that is faulty, and the word of line 1
abbrev refusal : List ℕ → ℕ
refusal text = (read_text_of text).refusal

abbrev faulty : List ℕ → ℕ
faulty text = (read_text_of text).line

abbrev word : List ℕ → ℕ
word text = get_or (read_text_of text).words 0 0

-- a space, a newline, a tab and a carriage return in ASCII
abbrev space : ℕ
space = 32

abbrev newline : ℕ
newline = 10

abbrev tab : ℕ
tab = 9

abbrev return : ℕ
return = 13

-- names
abbrev li : List ℕ
li = l ∷ i ∷ []

abbrev au : List ℕ
au = a ∷ u ∷ []

abbrev nop : List ℕ
nop = n ∷ o ∷ p ∷ []

abbrev shrhi : List ℕ
shrhi = s ∷ h ∷ r ∷ h ∷ i ∷ []

abbrev mlhcu : List ℕ
mlhcu = m ∷ l ∷ h ∷ c ∷ u ∷ []

abbrev cntih : List ℕ
cntih = c ∷ n ∷ t ∷ i ∷ h ∷ []

abbrev simals : List ℕ
simals = s ∷ i ∷ m ∷ a ∷ l ∷ s ∷ []

abbrev simahs : List ℕ
simahs = s ∷ i ∷ m ∷ a ∷ h ∷ s ∷ []

abbrev slmshs : List ℕ
slmshs = s ∷ l ∷ m ∷ s ∷ h ∷ s ∷ []

abbrev dot_word : List ℕ
dot_word = dot ∷ w ∷ o ∷ r ∷ d ∷ []

-- a line of a name and bytes behind it; and of a name and numbers
abbrev line : List ℕ → List ℕ → List ℕ
line name bytes = name ++ bytes ++ newline ∷ []

abbrev stated : List ℕ → List ℕ → List ℕ
stated name numbers = line name (numbers_text decimal numbers)

-- so many lines `nop`
abbrev nops : ℕ → List ℕ
nops k = flat_map (λ (_ : ℕ). line nop []) (replicate k 0)

-- ---- names

-- the 26 names in ASCII codes
pub spelt : map (λ (f : Form). f.name) every_form
    ≡ (108 ∷ 105 ∷ [])
    ∷ (115 ∷ 105 ∷ 109 ∷ 97 ∷ 108 ∷ 115 ∷ [])
    ∷ (115 ∷ 105 ∷ 109 ∷ 97 ∷ 104 ∷ 115 ∷ [])
    ∷ (115 ∷ 105 ∷ 109 ∷ 115 ∷ 108 ∷ 115 ∷ [])
    ∷ (115 ∷ 105 ∷ 109 ∷ 115 ∷ 104 ∷ 115 ∷ [])
    ∷ (115 ∷ 108 ∷ 109 ∷ 97 ∷ 108 ∷ 115 ∷ [])
    ∷ (115 ∷ 108 ∷ 109 ∷ 97 ∷ 104 ∷ 115 ∷ [])
    ∷ (115 ∷ 108 ∷ 109 ∷ 115 ∷ 108 ∷ 115 ∷ [])
    ∷ (115 ∷ 108 ∷ 109 ∷ 115 ∷ 104 ∷ 115 ∷ [])
    ∷ (110 ∷ 111 ∷ 112 ∷ [])
    ∷ (115 ∷ 104 ∷ 114 ∷ 104 ∷ 105 ∷ [])
    ∷ (97 ∷ 117 ∷ [])
    ∷ (99 ∷ 110 ∷ 116 ∷ 105 ∷ 104 ∷ [])
    ∷ (97 ∷ 104 ∷ 115 ∷ [])
    ∷ (111 ∷ 114 ∷ [])
    ∷ (98 ∷ 99 ∷ 119 ∷ [])
    ∷ (109 ∷ 97 ∷ 120 ∷ 119 ∷ 115 ∷ [])
    ∷ (109 ∷ 105 ∷ 110 ∷ 119 ∷ 115 ∷ [])
    ∷ (109 ∷ 108 ∷ 104 ∷ 117 ∷ [])
    ∷ (109 ∷ 108 ∷ 104 ∷ 99 ∷ 117 ∷ [])
    ∷ (97 ∷ 110 ∷ 100 ∷ [])
    ∷ (99 ∷ 108 ∷ 122 ∷ 119 ∷ [])
    ∷ (114 ∷ 111 ∷ 116 ∷ 119 ∷ [])
    ∷ (115 ∷ 102 ∷ 119 ∷ 117 ∷ [])
    ∷ (115 ∷ 102 ∷ 104 ∷ 115 ∷ [])
    ∷ (46 ∷ 119 ∷ 111 ∷ 114 ∷ 100 ∷ [])
    ∷ []
spelt = refl

-- ---- operands

-- "Register numbers go to 31, an index to 7, an immediate to 65535"; "shrhi takes rd rs1 and 0 to 15; mlhcu rd rs1 and 0 to 31"
pub registers : (refusal (stated simals (31 ∷ 31 ∷ 31 ∷ 31 ∷ []))
    ∷ refusal (stated simals (32 ∷ 31 ∷ 31 ∷ 31 ∷ [])) ∷ refusal (stated simals (31 ∷ 32 ∷ 31 ∷ 31 ∷ []))
    ∷ refusal (stated simals (31 ∷ 31 ∷ 32 ∷ 31 ∷ [])) ∷ refusal (stated simals (31 ∷ 31 ∷ 31 ∷ 32 ∷ [])) ∷ [])
    ≡ (0 ∷ 12 ∷ 12 ∷ 12 ∷ 12 ∷ [])
unfolding line_of front_while operands_in digit_of says_below first_row decided read_from flat_map decimal_in
registers = refl

pub other_limits : (refusal (stated li (31 ∷ 7 ∷ 65535 ∷ []))
    ∷ refusal (stated li (32 ∷ 7 ∷ 65535 ∷ [])) ∷ refusal (stated li (31 ∷ 8 ∷ 65535 ∷ [])) ∷ refusal (stated li (31 ∷ 7 ∷ 65536 ∷ []))
    ∷ refusal (stated shrhi (31 ∷ 31 ∷ 15 ∷ [])) ∷ refusal (stated shrhi (31 ∷ 31 ∷ 16 ∷ []))
    ∷ refusal (stated mlhcu (31 ∷ 31 ∷ 31 ∷ [])) ∷ refusal (stated mlhcu (31 ∷ 31 ∷ 32 ∷ [])) ∷ [])
    ≡ (0 ∷ 12 ∷ 12 ∷ 12 ∷ 0 ∷ 12 ∷ 0 ∷ 12 ∷ [])
unfolding line_of front_while operands_in digit_of says_below first_row decided read_from flat_map decimal_in
other_limits = refl

-- one operand too few, one too many; "nop nothing"
pub how_many : (refusal (stated au (1 ∷ 2 ∷ [])) ∷ refusal (stated au (1 ∷ 2 ∷ 3 ∷ [])) ∷ refusal (stated au (1 ∷ 2 ∷ 3 ∷ 4 ∷ []))
    ∷ refusal (stated cntih (1 ∷ [])) ∷ refusal (stated cntih (1 ∷ 2 ∷ [])) ∷ refusal (stated cntih (1 ∷ 2 ∷ 3 ∷ []))
    ∷ refusal (stated nop []) ∷ refusal (stated nop (0 ∷ [])) ∷ [])
    ≡ (12 ∷ 0 ∷ 12 ∷ 12 ∷ 0 ∷ 12 ∷ 0 ∷ 12 ∷ [])
unfolding line_of front_while operands_in digit_of says_below first_row decided read_from flat_map decimal_in
how_many = refl

-- `cntih 1 ` and these bytes
abbrev operand : List ℕ → List ℕ
operand bytes = line cntih (space ∷ 49 ∷ space ∷ bytes)

-- "decimal numbers without leading zeros": `0`, `7`, `00`, `07`, nothing at all, `+1`, `1a`, and the bytes just before and just behind the digits
pub numerals : (refusal (operand (48 ∷ [])) ∷ refusal (operand (55 ∷ [])) ∷ refusal (operand (48 ∷ 48 ∷ [])) ∷ refusal (operand (48 ∷ 55 ∷ []))
    ∷ refusal (operand []) ∷ refusal (operand (43 ∷ 49 ∷ [])) ∷ refusal (operand (49 ∷ a ∷ [])) ∷ refusal (operand (47 ∷ [])) ∷ refusal (operand (58 ∷ [])) ∷ [])
    ≡ (0 ∷ 0 ∷ 12 ∷ 12 ∷ 12 ∷ 12 ∷ 12 ∷ 12 ∷ 12 ∷ [])
unfolding line_of front_while operands_in digit_of says_below first_row decided read_from flat_map
numerals = refl

-- ---- spaces and newlines

-- "ended by a newline", "a missing last newline among it": `nop` without it, `cntih 1 2` without it
pub last_newline : (refusal nop ∷ refusal (nop ++ newline ∷ []) ∷ refusal (cntih ++ space ∷ 49 ∷ space ∷ 50 ∷ []) ∷ [])
    ≡ (12 ∷ 0 ∷ 12 ∷ [])
unfolding line_of front_while operands_in digit_of says_below first_row decided read_from flat_map
last_newline = refl

-- "11 where the text up to the first space, newline or end is no name": a blank line, a leading space, a tab or a carriage return behind the name, upper case, a name
-- that is cut off
pub no_names : (refusal (newline ∷ []) ∷ refusal (space ∷ line nop []) ∷ refusal (line nop (tab ∷ [])) ∷ refusal (line nop (return ∷ []))
    ∷ refusal (line (78 ∷ 79 ∷ 80 ∷ []) []) ∷ refusal (line (78 ∷ o ∷ p ∷ []) []) ∷ refusal (n ∷ o ∷ []) ∷ [])
    ≡ (11 ∷ 11 ∷ 11 ∷ 11 ∷ 11 ∷ 11 ∷ 11 ∷ [])
unfolding line_of front_while operands_in digit_of says_below first_row decided read_from flat_map
no_names = refl

-- "single spaces": two of them, one behind the last operand and one behind a name without operands, a tab between operands, a carriage return behind the last one
pub single_spaces : (refusal (line cntih (space ∷ space ∷ 49 ∷ space ∷ 50 ∷ [])) ∷ refusal (line cntih (space ∷ 49 ∷ space ∷ 50 ∷ space ∷ [])) ∷ refusal (line nop (space ∷ []))
    ∷ refusal (line cntih (space ∷ 49 ∷ tab ∷ 50 ∷ [])) ∷ refusal (line cntih (space ∷ 49 ∷ space ∷ 50 ∷ return ∷ [])) ∷ [])
    ≡ (12 ∷ 12 ∷ 12 ∷ 12 ∷ 12 ∷ [])
unfolding line_of front_while operands_in digit_of says_below first_row decided read_from flat_map
single_spaces = refl

-- where name and operands are wrong the name answers: `xx 99`, `nopx 00`
pub name_first : (refusal (stated (x ∷ x ∷ []) (99 ∷ [])) ∷ refusal (line (nop ++ x ∷ []) (space ∷ 48 ∷ 48 ∷ [])) ∷ []) ≡ (11 ∷ 11 ∷ [])
unfolding line_of front_while operands_in digit_of says_below first_row decided read_from flat_map decimal_in
name_first = refl

-- ---- lines

-- "An empty text is a program of no lines": 0, no faulty line, and no words
pub empty_text : (refusal [] ∷ faulty [] ∷ (read_text_of []).n.0 ∷ []) ≡ (0 ∷ 0 ∷ 0 ∷ [])
unfolding read_from decided
empty_text = refl

-- "the number of the first faulty line, from 1": a fault in line 1, one in line 2, faults in both, a last line that is blank
pub first_faulty : (faulty (stated au []) ∷ faulty (nops 1 ++ stated au []) ∷ refusal (nops 1 ++ stated au []) ∷ faulty (stated au [] ++ newline ∷ [])
    ∷ refusal (stated au [] ++ newline ∷ []) ∷ faulty (nops 2 ++ newline ∷ []) ∷ refusal (nops 2 ++ newline ∷ []) ∷ [])
    ≡ (1 ∷ 2 ∷ 12 ∷ 1 ∷ 12 ∷ 3 ∷ 11 ∷ [])
unfolding line_of front_while operands_in digit_of says_below first_row decided read_from flat_map decimal_in
first_faulty = refl

-- "13 for a 65th line": 64 lines are accepted; a 65th is refused, a good one, a blank one, any byte; a fault in line 64 answers first
pub how_many_lines : (refusal (nops 64) ∷ faulty (nops 64) ∷ (read_text_of (nops 64)).n.0
    ∷ refusal (nops 65) ∷ faulty (nops 65) ∷ refusal (nops 64 ++ newline ∷ []) ∷ faulty (nops 64 ++ newline ∷ []) ∷ refusal (nops 64 ++ 0 ∷ [])
    ∷ refusal (nops 63 ++ stated au [] ++ nops 1) ∷ faulty (nops 63 ++ stated au [] ++ nops 1) ∷ refusal (nops 63 ++ newline ∷ nops 1) ∷ [])
    ≡ (0 ∷ 0 ∷ 64 ∷ 13 ∷ 65 ∷ 13 ∷ 65 ∷ 13 ∷ 12 ∷ 64 ∷ 11 ∷ [])
unfolding line_of front_while operands_in digit_of says_below first_row decided read_from flat_map decimal_in
how_many_lines = refl

-- ---- words

-- each operand in its field, low and high, and the words in the order of the lines
pub some_words : (word (stated li (1 ∷ 0 ∷ 5 ∷ [])) ∷ word (stated li (7 ∷ 7 ∷ 17 ∷ [])) ∷ word (stated au (2 ∷ 1 ∷ 1 ∷ [])) ∷ word (stated au (7 ∷ 12 ∷ 17 ∷ []))
    ∷ word (stated simals (7 ∷ 12 ∷ 17 ∷ 22 ∷ [])) ∷ word (stated simahs (7 ∷ 12 ∷ 17 ∷ 22 ∷ [])) ∷ word (stated slmshs (7 ∷ 12 ∷ 17 ∷ 22 ∷ [])) ∷ [])
    ≡ (0x00000A1 ∷ 0x0E00227 ∷ 0x1810422 ∷ 0x1814587 ∷ 0x10B4587 ∷ 0x11B4587 ∷ 0x17B4587 ∷ [])
unfolding line_of front_while operands_in digit_of says_below first_row decided read_from flat_map decimal_in
some_words = refl

pub in_order : (read_text_of (stated li (1 ∷ 0 ∷ 5 ∷ []) ++ stated au (2 ∷ 1 ∷ 1 ∷ []) ++ nops 1)).words ≡ 0x00000A1 ∷ 0x1810422 ∷ 0x1800000 ∷ replicate 61 0
unfolding line_of front_while operands_in digit_of says_below first_row decided read_from flat_map decimal_in
in_order = refl

-- ---- `.word`

-- `.word ` and these bytes
abbrev digits : List ℕ → List ℕ
digits bytes = line dot_word (space ∷ bytes)

-- "for every word below 2^25": `1FFFFFF` and `0000000`, and `1800000`, which has a name; `2000000`, `200000A`, `FFFFFFF`
pub any_word : (refusal (digits (49 ∷ replicate 6 70)) ∷ word (digits (49 ∷ replicate 6 70)) ∷ refusal (digits (replicate 7 48)) ∷ word (digits (replicate 7 48))
    ∷ refusal (digits (49 ∷ 56 ∷ replicate 5 48)) ∷ word (digits (49 ∷ 56 ∷ replicate 5 48)) ∷ word (digits (48 ∷ 49 ∷ 50 ∷ 65 ∷ 66 ∷ 67 ∷ 57 ∷ []))
    ∷ refusal (digits (50 ∷ replicate 6 48)) ∷ refusal (digits (50 ∷ replicate 5 48 ++ 65 ∷ [])) ∷ refusal (digits (replicate 7 70)) ∷ [])
    ≡ (0 ∷ 0x1FFFFFF ∷ 0 ∷ 0 ∷ 0 ∷ 0x1800000 ∷ 0x012ABC9 ∷ 12 ∷ 12 ∷ 12 ∷ [])
unfolding line_of front_while operands_in digit_of says_below first_row decided read_from flat_map
any_word = refl

-- "with other digits": six, eight, eight behind a zero, none; `a` and `f`, `G` and `@`, `:` and `/` as the last of seven
pub seven_digits : (refusal (digits (replicate 6 49)) ∷ refusal (digits (replicate 8 48)) ∷ refusal (digits (48 ∷ replicate 7 49)) ∷ refusal (digits [])
    ∷ refusal (digits (replicate 6 48 ++ 97 ∷ [])) ∷ refusal (digits (replicate 6 48 ++ 102 ∷ [])) ∷ refusal (digits (replicate 6 48 ++ 71 ∷ []))
    ∷ refusal (digits (replicate 6 48 ++ 64 ∷ [])) ∷ refusal (digits (replicate 6 48 ++ 58 ∷ [])) ∷ refusal (digits (replicate 6 48 ++ 47 ∷ [])) ∷ [])
    ≡ replicate 10 12
unfolding line_of front_while operands_in digit_of says_below first_row decided read_from flat_map
seven_digits = refl

-- `.word` alone, two spaces, a space behind the digits, two words, no newline; `word`, `.wor`, `.words` and `.Word` are no names
pub word_lines : (refusal (line dot_word []) ∷ refusal (digits (space ∷ replicate 7 48)) ∷ refusal (digits (replicate 7 48 ++ space ∷ []))
    ∷ refusal (digits (replicate 7 48 ++ space ∷ replicate 7 48)) ∷ refusal (dot_word ++ space ∷ replicate 7 48)
    ∷ refusal (line (w ∷ o ∷ r ∷ d ∷ []) (space ∷ replicate 7 48)) ∷ refusal (line (dot ∷ w ∷ o ∷ r ∷ []) (space ∷ replicate 7 48))
    ∷ refusal (line (dot_word ++ s ∷ []) (space ∷ replicate 7 48)) ∷ refusal (line (dot ∷ 87 ∷ o ∷ r ∷ d ∷ []) (space ∷ replicate 7 48)) ∷ [])
    ≡ (12 ∷ 12 ∷ 12 ∷ 12 ∷ 12 ∷ 11 ∷ 11 ∷ 11 ∷ 11 ∷ [])
unfolding line_of front_while operands_in digit_of says_below first_row decided read_from flat_map
word_lines = refl

-- ---- the line of a word

-- whether a word has a line of its own: the first byte of its line is no full stop
abbrev initials : List ℕ → List ℕ
initials words = map (λ (x : ℕ). get_or (line_of_word x) 0 0) words

-- SHRHI by 15 and by 16, by 31; MLHCU by 31; CNTIH, BCW and CLZW with rs2 0 and 1; NOP with bits 0, 5, 10 and 14; AU with bits 18, which is another code, 19 and 22
pub own_lines : (initials (0x180BC00 ∷ 0x180C000 ∷ 0x180FC00 ∷ 0x1857C00 ∷ []) ++ initials (0x1818000 ∷ 0x1818400 ∷ 0x1830000 ∷ 0x1830400 ∷ 0x1860000 ∷ 0x1860400 ∷ [])
    ++ initials (0x1800001 ∷ 0x1800020 ∷ 0x1800400 ∷ 0x1804000 ∷ []) ++ initials (0x1810000 ∷ 0x1850000 ∷ 0x1890000 ∷ 0x1C10000 ∷ []))
    ≡ (s ∷ dot ∷ dot ∷ m ∷ []) ++ (c ∷ dot ∷ 98 ∷ dot ∷ c ∷ dot ∷ []) ++ replicate 4 dot ++ (a ∷ m ∷ dot ∷ dot ∷ [])
unfolding line_of_word first_row flat_map decimal_in
own_lines = refl

-- each field in its place, low and high, in digits without leading zeros: `li 0 0 0`, `li 10 7 65535`, `li 31 1 100`, `simals 7 12 17 22`, `slmshs 31 31 31 31`, `nop`
pub some_lines : (line_of_word 0 ∷ line_of_word 0x0FFFFEA ∷ line_of_word 0x0200C9F ∷ line_of_word 0x10B4587 ∷ line_of_word 0x17FFFFF ∷ line_of_word 0x1800000 ∷ [])
    ≡ (108 ∷ 105 ∷ 32 ∷ 48 ∷ 32 ∷ 48 ∷ 32 ∷ 48 ∷ 10 ∷ [])
    ∷ (108 ∷ 105 ∷ 32 ∷ 49 ∷ 48 ∷ 32 ∷ 55 ∷ 32 ∷ 54 ∷ 53 ∷ 53 ∷ 51 ∷ 53 ∷ 10 ∷ [])
    ∷ (108 ∷ 105 ∷ 32 ∷ 51 ∷ 49 ∷ 32 ∷ 49 ∷ 32 ∷ 49 ∷ 48 ∷ 48 ∷ 10 ∷ [])
    ∷ (115 ∷ 105 ∷ 109 ∷ 97 ∷ 108 ∷ 115 ∷ 32 ∷ 55 ∷ 32 ∷ 49 ∷ 50 ∷ 32 ∷ 49 ∷ 55 ∷ 32 ∷ 50 ∷ 50 ∷ 10 ∷ [])
    ∷ (115 ∷ 108 ∷ 109 ∷ 115 ∷ 104 ∷ 115 ∷ 32 ∷ 51 ∷ 49 ∷ 32 ∷ 51 ∷ 49 ∷ 32 ∷ 51 ∷ 49 ∷ 32 ∷ 51 ∷ 49 ∷ 10 ∷ [])
    ∷ (110 ∷ 111 ∷ 112 ∷ 10 ∷ [])
    ∷ []
unfolding line_of_word first_row flat_map decimal_in
some_lines = refl

-- "A word that no line of L1 gives": `.word 1800001`, a NOP with an operand; `.word 1890000`, AU with bit 19 set; `.word 1FFFFFF`
pub no_lines : (line_of_word 0x1800001 ∷ line_of_word 0x1890000 ∷ line_of_word 0x1FFFFFF ∷ [])
    ≡ (46 ∷ 119 ∷ 111 ∷ 114 ∷ 100 ∷ 32 ∷ 49 ∷ 56 ∷ 48 ∷ 48 ∷ 48 ∷ 48 ∷ 49 ∷ 10 ∷ [])
    ∷ (46 ∷ 119 ∷ 111 ∷ 114 ∷ 100 ∷ 32 ∷ 49 ∷ 56 ∷ 57 ∷ 48 ∷ 48 ∷ 48 ∷ 48 ∷ 10 ∷ [])
    ∷ (46 ∷ 119 ∷ 111 ∷ 114 ∷ 100 ∷ 32 ∷ 49 ∷ 70 ∷ 70 ∷ 70 ∷ 70 ∷ 70 ∷ 70 ∷ 10 ∷ [])
    ∷ []
unfolding line_of_word first_row flat_map decimal_in
no_lines = refl

-- ---- the listing of a program

-- lines one behind another, in the order of the words; of no words nothing
pub listings : (listing_of [] ∷ listing_of (0x1800000 ∷ 0x1800001 ∷ 0x1810422 ∷ []) ∷ [])
    ≡ [] ∷ (nops 1 ++ digits (49 ∷ 56 ∷ replicate 4 48 ++ 49 ∷ []) ++ line au (space ∷ 50 ∷ space ∷ 49 ∷ space ∷ 49 ∷ [])) ∷ []
unfolding listing_of line_of_word first_row flat_map decimal_in
listings = refl

-- "Refusals: 2, 6, then 9": 65 words, also where one is bad and there is no room; a word of 2^25, with its place, also where there is no room; no room for the last byte
pub refusals : (listed_or_refusal (replicate 65 0x2000000) 0 ∷ listed_or_refusal (0x1800000 ∷ 0x1FFFFFF ∷ 0x2000000 ∷ 0x2000001 ∷ []) 0
    ∷ listed_or_refusal (0x1800000 ∷ 0x1800001 ∷ []) 17 ∷ listed_or_refusal (0x1800000 ∷ 0x1800001 ∷ []) 18 ∷ listed_or_refusal [] 0 ∷ [])
    ≡ (written_of 2 0 0 ∷ written_of 6 2 0 ∷ written_of 9 0 0 ∷ written_of 0 0 18 ∷ written_of 0 0 0 ∷ [])
unfolding listed_or_refusal first_bad decided listing_of line_of_word first_row flat_map decimal_in
refusals = refl

-- 64 words are listed, and the longest line has 19 bytes: 1,216 bytes suffice for these, and 1,215 do not
pub most_room : (listed_or_refusal (replicate 64 0x17FFFFF) longest_listing ∷ listed_or_refusal (replicate 64 0x17FFFFF) (longest_listing - 1) ∷ [])
    ≡ (written_of 0 0 1216 ∷ written_of 9 0 0 ∷ [])
unfolding listed_or_refusal first_bad decided listing_of line_of_word first_row flat_map decimal_in
most_room = refl

-- at the buffer's front, the rest kept; and unaltered where it is refused
pub buffers : ((list_of (0x1800000 ∷ []) (1 ∷ 2 ∷ 3 ∷ 4 ∷ 5 ∷ 6 ∷ [])).1 ∷ (list_of (0x1800000 ∷ []) (1 ∷ 2 ∷ 3 ∷ [])).1 ∷ (list_of (0x2000000 ∷ []) (1 ∷ 2 ∷ 3 ∷ 4 ∷ 5 ∷ [])).1 ∷ [])
    ≡ (nops 1 ++ 5 ∷ 6 ∷ []) ∷ (1 ∷ 2 ∷ 3 ∷ []) ∷ (1 ∷ 2 ∷ 3 ∷ 4 ∷ 5 ∷ []) ∷ []
unfolding list_of listed_or_refusal first_bad decided listing_of line_of_word first_row flat_map decimal_in
buffers = refl

-- of a job file: `nop`; a word of 2^25 behind it, with its place; no bytes at all
pub jobs : (list_job_of (1 ∷ 0 ∷ 0 ∷ 0 ∷ 8 ∷ 0 ∷ 12 ∷ 0 ∷ 0 ∷ 0 ∷ 128 ∷ 1 ∷ []) (1 ∷ 2 ∷ 3 ∷ 4 ∷ 5 ∷ [])
    ∷ list_job_of (2 ∷ 0 ∷ 0 ∷ 0 ∷ 8 ∷ 0 ∷ 16 ∷ 0 ∷ 0 ∷ 0 ∷ 128 ∷ 1 ∷ 0 ∷ 0 ∷ 0 ∷ 2 ∷ []) (1 ∷ 2 ∷ []) ∷ list_job_of [] (1 ∷ 2 ∷ []) ∷ [])
    ≡ (written_of 0 0 4, nops 1 ++ 5 ∷ []) ∷ (written_of 6 1 0, 1 ∷ 2 ∷ []) ∷ (written_of 1 0 0, 1 ∷ 2 ∷ []) ∷ []
unfolding list_job_of header_of tested_of body_of list_of listed_or_refusal first_bad decided listing_of line_of_word first_row flat_map decimal_in
jobs = refl
