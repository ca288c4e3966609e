-- Words and bytes, least significant first. Carried by omega on one word of four bytes; a list goes four bytes at a time.
-- Assumes nothing.
use Prim.Native.Nat.{ℕ, suc, ◌+◌, ◌*◌, ◌/◌, ◌%◌, ◌^◌, ◌≤◌, ◌<◌}
use mathlib.Core.Path.{◌≡◌, sym, ap, ◌∙◌}
use mathlib.Core.List.{List, [], ◌∷◌}
use native.Mathlib.Omega.{arith}
use lib.ListN.{length, get_or, drop}
use lib.Seq.{drop-cons, drop-length}
use Rattle.std.proofs.lemmas.Nat.{from_le_bytes-to_le_bytes_4}
use Rattle.register.specs.Halves.{join}
use Rattle.register.specs.Layout.{word_of_bytes, bytes_of_word, word_at}
use Rattle.register.proofs.Lanes.{value, Digits, digit_at}

-- the word of the bytes of a word
pub word_of_its_bytes : (w : ℕ) → w < 2 ^ 32 → word_of_bytes (w % 2 ^ 8) (w / 2 ^ 8 % 2 ^ 8) (w / 2 ^ 16 % 2 ^ 8) (w / 2 ^ 24 % 2 ^ 8) ≡ w
word_of_its_bytes w h = from_le_bytes-to_le_bytes_4 w h

-- the bytes of the word of four bytes
pub bytes_of_their_word : (b0 b1 b2 b3 : ℕ) (rest : List ℕ) → b0 < 2 ^ 8 → b1 < 2 ^ 8 → b2 < 2 ^ 8 → b3 < 2 ^ 8
    → bytes_of_word (word_of_bytes b0 b1 b2 b3) rest ≡ b0 ∷ b1 ∷ b2 ∷ b3 ∷ rest
bytes_of_their_word b0 b1 b2 b3 rest h0 h1 h2 h3 =
    let bytes = b0 ∷ b1 ∷ b2 ∷ b3 ∷ [] in
    let w = word_of_bytes b0 b1 b2 b3 in
    let e : w ≡ value 8 bytes = omega arith in
    let at : (i : ℕ) → w / 2 ^ (8 * i) % 2 ^ 8 ≡ get_or bytes i 0
    = λ i. ap (λ (n : ℕ). n / 2 ^ (8 * i) % 2 ^ 8) e ∙ digit_at 8 i bytes (h0, (h1, (h2, (h3, tt)))) in
    let e0 : w % 2 ^ 8 ≡ b0 = omega arith in
    λ i. e0 i ∷ at 1 i ∷ at 2 i ∷ at 3 i ∷ rest

-- the bytes of a word as digits
pub digits_of_word : (w : ℕ) (rest : List ℕ) → Digits 8 rest → Digits 8 (bytes_of_word w rest)
digits_of_word w rest d = (omega arith, (omega arith, (omega arith, (omega arith, d))))

pub value_of_word : (w : ℕ) (rest : List ℕ) {n : ℕ} → w < 2 ^ 32 → value 8 rest ≡ n → value 8 (bytes_of_word w rest) ≡ join 32 n w
value_of_word w rest h e =
    let f = word_of_its_bytes w h in
    omega arith

-- ---- lists, some elements at a time

pub next : (l : List ℕ) (i j : ℕ) {rest : List ℕ} → suc i ≡ j → i < length l → drop j l ≡ rest → drop i l ≡ get_or l i 0 ∷ rest
next l i j s h e = drop-cons l i 0 h ∙ ap (λ (t : List ℕ). get_or l i 0 ∷ t) (ap (λ (n : ℕ). drop n l) s ∙ e)

pub next_four : (l : List ℕ) (i : ℕ) {rest : List ℕ} → i + 4 ≤ length l → drop (i + 4) l ≡ rest
    → drop i l ≡ get_or l i 0 ∷ get_or l (i + 1) 0 ∷ get_or l (i + 2) 0 ∷ get_or l (i + 3) 0 ∷ rest
next_four l i h e =
    next l i (i + 1) (omega arith) (omega arith)
    (next l (i + 1) (i + 2) (omega arith) (omega arith)
    (next l (i + 2) (i + 3) (omega arith) (omega arith)
    (next l (i + 3) (i + 4) (omega arith) (omega arith) e)))

-- the bytes of the word at i, and then the rest, are the list from i on
pub bytes_of_word_at : (l : List ℕ) → ((i : ℕ) → get_or l i 0 < 2 ^ 8)
    → (i : ℕ) {rest : List ℕ} → i + 4 ≤ length l → drop (i + 4) l ≡ rest → bytes_of_word (word_at l i) rest ≡ drop i l
bytes_of_word_at l b i {rest} h e =
    bytes_of_their_word (get_or l i 0) (get_or l (i + 1) 0) (get_or l (i + 2) 0) (get_or l (i + 3) 0) rest (b i) (b (i + 1)) (b (i + 2)) (b (i + 3))
    ∙ sym (next_four l i h e)

pub all_dropped : (l : List ℕ) (n : ℕ) → length l ≡ n → drop n l ≡ []
all_dropped l n e = ap (λ (m : ℕ). drop m l) (sym e) ∙ drop-length l
