-- A register of 128 bits: how document 01 numbers its parts, its zero, its row and its bytes.
-- Assumes nothing.
use Rattle.std.specs.Prelude.{ℕ, ◌+◌, ◌*◌, ◌/◌, ◌%◌, ◌^◌, Bool, cond, ◌&&◌, List, [], ◌∷◌, eqb, get_or}
use Rattle.register.specs.Halves.{low, high, join}
use Rattle.register.specs.declared.Register.{Register}

-- "Bit 127 is leftmost": the 128 bits as one number, word 3 leftmost
abbrev pub number : Register → ℕ
number r = r.w3 * 2 ^ 96 + r.w2 * 2 ^ 64 + r.w1 * 2 ^ 32 + r.w0

-- "Halfword i is bits 16i+15 to 16i, word i is bits 32i+31 to 32i, long i is bits 64i+63 to 64i": lane i of k bits. Beyond bit 127 all bits are 0
unfoldable pub lane : ℕ → ℕ → Register → ℕ
lane k i r = number r / 2 ^ (k * i) % 2 ^ k

-- "A register has a known zero"
abbrev pub zero_register : Register
zero_register = record { w0 = 0; w1 = 0; w2 = 0; w3 = 0 }

-- whether a register is that
abbrev pub is_zero : Register → Bool
is_zero r = eqb r.w0 0 && eqb r.w1 0 && eqb r.w2 0 && eqb r.w3 0

-- "32 rows of four words": a register as a row, word 0 first, and a row as a register
abbrev pub row_of : Register → List ℕ
row_of r = r.w0 ∷ r.w1 ∷ r.w2 ∷ r.w3 ∷ []

abbrev pub of_row : List ℕ → Register
of_row l = record { w0 = get_or l 0 0; w1 = get_or l 1 0; w2 = get_or l 2 0; w3 = get_or l 3 0 }

-- "least significant first": the word of four bytes, and the four bytes of a word, followed by the rest
abbrev pub word_of_bytes : ℕ → ℕ → ℕ → ℕ → ℕ
word_of_bytes b0 b1 b2 b3 = b0 + b1 * 2 ^ 8 + b2 * 2 ^ 16 + b3 * 2 ^ 24

abbrev pub bytes_of_word : ℕ → List ℕ → List ℕ
bytes_of_word w rest = w % 2 ^ 8 ∷ w / 2 ^ 8 % 2 ^ 8 ∷ w / 2 ^ 16 % 2 ^ 8 ∷ w / 2 ^ 24 % 2 ^ 8 ∷ rest

-- "made from, and given back as, 16 bytes"
abbrev pub word_at : List ℕ → ℕ → ℕ
word_at l i = word_of_bytes (get_or l i 0) (get_or l (i + 1) 0) (get_or l (i + 2) 0) (get_or l (i + 3) 0)

abbrev pub of_bytes : List ℕ → Register
of_bytes l = record { w0 = word_at l 0; w1 = word_at l 4; w2 = word_at l 8; w3 = word_at l 12 }

abbrev pub bytes_of : Register → List ℕ
bytes_of r = bytes_of_word r.w0 (bytes_of_word r.w1 (bytes_of_word r.w2 (bytes_of_word r.w3 [])))

-- "The halfword of rd with that index becomes the immediate; the other seven keep": in the word of halfwords k and k + 1, halfword i becomes v
unfoldable pub with_half : ℕ → ℕ → ℕ → ℕ → ℕ
with_half i v k w = cond (eqb i k) (join 16 (high 16 w) v) (cond (eqb i (k + 1)) (join 16 v (low 16 w)) w)

abbrev pub with_halfword : ℕ → ℕ → Register → Register
with_halfword i v r = record { w0 = with_half i v 0 r.w0; w1 = with_half i v 2 r.w1; w2 = with_half i v 4 r.w2; w3 = with_half i v 6 r.w3 }
