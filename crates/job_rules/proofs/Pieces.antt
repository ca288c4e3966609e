-- Pieces of k bytes, one after another: read one more, read back from what was written, and written back from what was read. Carried by induction
-- on their number, once for words and registers.
-- Assumes nothing.
use Rattle.job_rules.proofs.Shared.{ℕ, zero, suc, ◌+◌, ◌-◌, ◌*◌, ◌≤◌, ◌<◌, ◌≡◌, refl, sym, ap, ◌∙◌, List, [], ◌∷◌, ◌++◌, flat_map, append_assoc}
use Rattle.job_rules.proofs.Shared.{append-nil, add_assoc, add-zero, arith, length, get_or, take, drop, set, replicate, length-append}
use Rattle.job_rules.proofs.Shared.{length-drop, drop_of_length-le, take-append-drop, take_at, set_at, append_snoc, drop-drop, get_or-drop}
use Rattle.job_rules.proofs.Shared.{take-suc, length-take-le, get_or-take, at_front, Register, zero_register, word_at, of_bytes, Bytes, Edition}
use Rattle.job_rules.proofs.Shared.{One, Two, instructions_at, registers_at, four_bytes, header_bytes, register_count, encode, pieces, registers_of, filled}
use native.Mathlib.Numerals.{add-one, unary_clauses}
use borrow.Rule.Slice.PartMut.{mid_of, put_mid}
use Rattle.buffer.proofs.Parts.{then_front}
use Rattle.register.proofs.Equality.{same}

pub bytes_behind : (k : ℕ) (l : List ℕ) → Bytes l → Bytes (drop k l)
bytes_behind k l b i = rw (get_or-drop k l i 0) (b (k + i))

module _ {A : Type 0} where
  -- a store behind the elements that an array is filled with
  pub one_filled : (size : ℕ) (none x : A) (l : List A) → length l < size → set (filled size none l) (length l) x ≡ filled size none (l ++ (x ∷ []))
  one_filled size none x l h =
      let left : size - length l ≡ suc (size - suc (length l)) = omega arith in
      let n : length (l ++ (x ∷ [])) ≡ suc (length l) = omega (arith, length-append l (x ∷ [])) in
      rw (left, n)
      (set_at l none (replicate (size - suc (length l)) none) x (length l) refl
      ∙ sym (append_snoc l x (replicate (size - suc (length l)) none)))

  module _ (says : List ℕ → A) (k : ℕ) where
    pub length_pieces : (n : ℕ) (l : List ℕ) → length (pieces says k n l) ≡ n
    length_pieces zero l = refl
    length_pieces (suc n) l = ap suc (length_pieces n (drop k l))

    one_more : (n : ℕ) (l : List ℕ) → pieces says k (suc n) l ≡ pieces says k n l ++ (says (drop (k * n) l) ∷ [])
    one_more zero l = simp unary_clauses refl
    one_more (suc n) l =
        let e : k + k * n ≡ k * suc n = simp unary_clauses (omega arith) in
        ap (λ (t : List A). says l ∷ t) (one_more n (drop k l) ∙ rw (drop-drop (k * n) k l, e))

    -- a turn of the loop that reads
    pub next_read : (size : ℕ) (none : A) (l : List ℕ) (at i : ℕ) (xs : List A) (x : A) → i < size
        → xs ≡ filled size none (pieces says k i (drop at l)) → x ≡ says (drop (at + k * i) l)
        → set xs i x ≡ filled size none (pieces says k (i + 1) (drop at l))
    next_read size none l at i xs x h e f =
        let n = length_pieces i (drop at l) in
        let more : pieces says k (i + 1) (drop at l) ≡ pieces says k i (drop at l) ++ (x ∷ [])
        = rw (add-one, one_more i (drop at l), drop-drop (k * i) at l, f) in
        let stored = one_filled size none x (pieces says k i (drop at l)) (omega arith) in
        rw (e, more) (ap (λ (j : ℕ). set (filled size none (pieces says k i (drop at l))) j x) (sym n) ∙ stored)

-- ---- written

module _ {A : Type 0} (bytes : A → List ℕ) where
  pub pieces_join : (xs ys : List A) → flat_map bytes (xs ++ ys) ≡ flat_map bytes xs ++ flat_map bytes ys
  unfolding flat_map
  pieces_join [] ys = refl
  pieces_join (x ∷ xs) ys = ap (λ (l : List ℕ). bytes x ++ l) (pieces_join xs ys) ∙ sym (append_assoc (bytes x) (flat_map bytes xs) (flat_map bytes ys))

  one_piece : (x : A) → flat_map bytes (x ∷ []) ≡ bytes x
  unfolding flat_map
  one_piece x = append-nil (bytes x)

  module _ (k : ℕ) (each : (x : A) → length (bytes x) ≡ k) where
    pub pieces_size : (xs : List A) → length (flat_map bytes xs) ≡ k * length xs
    unfolding flat_map
    pieces_size [] = simp unary_clauses refl
    pieces_size (x ∷ xs) = simp unary_clauses (length-append (bytes x) (flat_map bytes xs) ∙ omega (arith, each x, pieces_size xs))

    -- a turn of the loop that writes: the next piece at the front of the part behind those before it
    pub next_written : (none : A) (xs : List A) (old out part : List ℕ) (i : ℕ) → i < length xs → out ≡ at_front (flat_map bytes (take i xs)) old
        → part ≡ at_front (bytes (get_or xs i none)) (mid_of (k * i) (length out - k * i) out)
        → put_mid (k * i) (length out - k * i) out part ≡ at_front (flat_map bytes (take (i + 1) xs)) old
    next_written none xs old out part i h e f =
        let n : length (flat_map bytes (take i xs)) ≡ k * i = pieces_size (take i xs) ∙ ap (λ (j : ℕ). k * j) (length-take-le i xs (omega arith)) in
        then_front (k * i) (flat_map bytes (take i xs)) (bytes (get_or xs i none)) old out part n e f
        ∙ rw (add-one, take-suc xs i none h, pieces_join (take i xs) (get_or xs i none ∷ []), one_piece (get_or xs i none))

    -- the same of a piece that is copied from a buffer of its own
    pub next_copied : (none : A) (xs : List A) (old out part b : List ℕ) (i : ℕ) → i < length xs → out ≡ at_front (flat_map bytes (take i xs)) old
        → b ≡ bytes (get_or xs i none) → part ≡ at_front b (mid_of (k * i) (length out - k * i) out)
        → put_mid (k * i) (length out - k * i) out part ≡ at_front (flat_map bytes (take (i + 1) xs)) old
    next_copied none xs old out part b i h e g f =
        next_written none xs old out part i h e (f ∙ ap (λ (l : List ℕ). at_front l (mid_of (k * i) (length out - k * i) out)) g)

    -- pieces that fill the buffer
    pub pieces_fill : (xs : List A) (old out : List ℕ) → length old ≤ k * length xs → out ≡ at_front (flat_map bytes xs) old → out ≡ flat_map bytes xs
    pieces_fill xs old out h e =
        let all = drop_of_length-le old {i = length (flat_map bytes xs)} (omega (arith, pieces_size xs)) in
        e ∙ ap (λ (l : List ℕ). flat_map bytes xs ++ l) all ∙ append-nil (flat_map bytes xs)

    -- the bytes of the first n pieces
    pub first_pieces : (n : ℕ) (xs : List A) → n ≤ length xs → take (k * n) (flat_map bytes xs) ≡ flat_map bytes (take n xs)
    first_pieces n xs h =
        ap (take (k * n)) (sym (ap (flat_map bytes) (take-append-drop n xs)) ∙ pieces_join (take n xs) (drop n xs))
        ∙ take_at (flat_map bytes (take n xs)) _ (k * n) (pieces_size (take n xs) ∙ ap (λ (j : ℕ). k * j) (length-take-le n xs h))

  -- what was read is written as it stood
  pub pieces_back : (says : List ℕ → A) (k : ℕ) → ((l : List ℕ) → Bytes l → k ≤ length l → bytes (says l) ++ drop k l ≡ l)
      → (n : ℕ) (l : List ℕ) → Bytes l → k * n ≤ length l → flat_map bytes (pieces says k n l) ++ drop (k * n) l ≡ l
  unfolding flat_map
  pieces_back says k back zero l b h = simp unary_clauses refl
  pieces_back says k back (suc n) l b h =
      let e : k * suc n ≡ k + k * n = simp unary_clauses (omega arith) in
      let others : List ℕ = flat_map bytes (pieces says k n (drop k l)) in
      append_assoc (bytes (says l)) others (drop (k * suc n) l)
      ∙ ap (λ (t : List ℕ). bytes (says l) ++ t)
      (ap (λ (t : List ℕ). others ++ t) (ap (λ (j : ℕ). drop j l) e ∙ sym (drop-drop (k * n) k l))
      ∙ pieces_back says k back n (drop k l) (bytes_behind k l b) (omega (arith, length-drop k l)))
      ∙ back l b (omega arith)

-- ---- a word and a register from a place on

word_behind : (l : List ℕ) (a b : ℕ) → word_at (drop a l) b ≡ word_at l (a + b)
word_behind l a b =
    rw (get_or-drop a l b 0, get_or-drop a l (b + 1) 0, get_or-drop a l (b + 2) 0, get_or-drop a l (b + 3) 0, add_assoc a b 1, add_assoc a b 2, add_assoc a b 3)

pub word_there : (l : List ℕ) (a : ℕ) {w : ℕ} → w ≡ word_at l a → w ≡ word_at (drop a l) 0
word_there l a e = e ∙ sym (word_behind l a 0 ∙ ap (word_at l) (add-zero a))

-- the first 16 bytes are all that a register is made from
pub register_there : (l : List ℕ) {b : List ℕ} {r : Register} → b ≡ take 16 l → r ≡ of_bytes b → r ≡ of_bytes l
register_there l e f = f ∙ ap of_bytes e ∙ same (word 0 (omega arith)) (word 4 (omega arith)) (word 8 (omega arith)) (word 12 (omega arith))
  where
    byte : (i : ℕ) → i < 16 → get_or (take 16 l) i 0 ≡ get_or l i 0
    byte i h = get_or-take 16 l i 0 h

    word : (i : ℕ) → i + 3 < 16 → word_at (take 16 l) i ≡ word_at l i
    word i h = rw (byte i (omega arith), byte (i + 1) (omega arith), byte (i + 2) (omega arith), byte (i + 3) (omega arith))

-- register 0 of r registers, where there is one: made of the first bytes
pub first_of_some : (r : ℕ) (l : List ℕ) {v : Register} → (r ≡ 0 → ⊥) → v ≡ of_bytes l → v ≡ get_or (registers_of r l) 0 zero_register
first_of_some zero l some e = absurd (some refl)
first_of_some (suc r) l some e = e

-- and of register bytes that are enough for one: made of the first 16
pub first_sixteen : (l : List ℕ) {v : Register} {b : List ℕ} → 16 ≤ length l → b ≡ take 16 l → v ≡ of_bytes b
    → v ≡ get_or (registers_of (register_count l) l) 0 zero_register
first_sixteen l h e f = first_of_some (register_count l) l (λ none. omega arith) (register_there l e f)

-- ---- a whole job

four_bytes_lem : (w : ℕ) → length (four_bytes w) ≡ 4
four_bytes_lem w = refl

-- where the instructions stand: behind the four numbers, and so near that two bytes say it
pub offset_bounds : (edition : Edition) → (8 ≤ instructions_at edition) × (instructions_at edition ≤ 12)
offset_bounds One = (omega arith, omega arith)
offset_bounds Two = (omega arith, omega arith)

-- the header fills what stands before them
pub header_size : (edition : Edition) (n r : ℕ) → length (header_bytes edition n r) ≡ instructions_at edition
header_size One n r = refl
header_size Two n r = refl

module _ (edition : Edition) (words bytes : List ℕ) where
  abbrev header : List ℕ
  header = header_bytes edition (length words) (register_count bytes)

  pub header_and_words : length (header ++ flat_map four_bytes words) ≡ registers_at edition (length words)
  header_and_words =
      let size = header_size edition (length words) (register_count bytes) in
      omega (arith, length-append header (flat_map four_bytes words), pieces_size four_bytes 4 four_bytes_lem words)

  pub job_size : length (encode edition words bytes) ≡ instructions_at edition + 4 * length words + length bytes
  unfolding encode
  job_size = omega (arith, length-append (header ++ flat_map four_bytes words) bytes, header_and_words)

  -- header, words and register bytes, each at the front of the part behind the one before
  pub job_put : (at : ℕ) (old x y z : List ℕ) → at ≡ instructions_at edition
      → x ≡ at_front header old
      → y ≡ at_front (flat_map four_bytes words) (mid_of at (length x - at) x)
      → z ≡ at_front bytes (mid_of (at + 4 * length words) (length (put_mid at (length x - at) x y) - (at + 4 * length words)) (put_mid at (length x - at) x y))
      → put_mid (at + 4 * length words) (length (put_mid at (length x - at) x y) - (at + 4 * length words)) (put_mid at (length x - at) x y) z
      ≡ at_front (encode edition words bytes) old
  unfolding encode
  job_put at old x y z there e f g =
      let size = header_size edition (length words) (register_count bytes) in
      then_front (at + 4 * length words) (header ++ flat_map four_bytes words) bytes old _ z (omega (arith, header_and_words))
      (then_front at header (flat_map four_bytes words) old x y (omega arith) e f) g
