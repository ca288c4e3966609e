-- A text of pieces, one behind another: what stands of it, and a piece more. Carried by `then_front`: what is put at the front of the part behind a text stands behind it.
-- Assumes nothing.
use Prim.Native.Nat.{ℕ, ◌+◌, ◌-◌, ◌≤◌, ◌<◌}
use mathlib.Core.Path.{◌≡◌, refl, sym, ap, ◌∙◌}
use mathlib.Core.List.{List, [], ◌∷◌, ◌++◌, flat_map, append-nil}
use native.Mathlib.Omega.{arith}
use native.Mathlib.Nat.{le_refl}
use native.Mathlib.Numerals.{add-one}
use borrow.Rule.Slice.PartMut.{mid_of, put_mid, mid_len}
use lib.ListN.{length, get_or, take, drop, set, length-set, length-append, length-drop, take-append-drop}
use lib.Seq.{take-suc, take_all, append_snoc}
use Rattle.buffer.proofs.Parts.{then_front, then_stored}
use Rattle.job_rules.proofs.Pieces.{pieces_join}
use Rattle.text_rules.specs.Line.{SPACE}
use Rattle.text_rules.specs.Number.{digits_for}
use Rattle.text_rules.specs.Number.Notation.{decimal}
use Rattle.text_writer.specs.Put.{Put}

-- ---- one text behind another

module _ {p old out : List ℕ} {at : ℕ} (front : Put p at old out) where
  -- where it fits, the buffer is as long as before
  pub put_long : length p ≤ length old → length out ≡ length old
  put_long fits = ap length front.stands ∙ omega (arith, length-append p (drop (length p) old), length-drop (length p) old)

  -- a text put behind it
  pub then_put : (q part : List ℕ) (size : ℕ) → Put q size (mid_of at (length out - at) out) part → Put (p ++ q) (at + size) old (put_mid at (length out - at) out part)
  then_put q part size more = record {
    sized = omega (arith, front.sized, more.sized, length-append p q);
    stands = then_front at p q old out part (sym front.sized) front.stands more.stands;
  }

  -- a byte stored behind it
  pub then_byte : (b : ℕ) → at < length old → Put (p ++ b ∷ []) (at + 1) old (set out at b)
  then_byte b room = record {
    sized = omega (arith, front.sized, length-append p (b ∷ []));
    stands = then_stored at b p old out (sym front.sized) room front.stands;
  }

-- ---- pieces

-- those before a place, and those from it on
cut_long : {A : Type 0} (text : A → List ℕ) (xs : List A) (i : ℕ) → length (flat_map text (take i xs)) + length (flat_map text (drop i xs)) ≡ length (flat_map text xs)
cut_long text xs i =
    sym (length-append (flat_map text (take i xs)) (flat_map text (drop i xs))) ∙ ap length (sym (pieces_join text (take i xs) (drop i xs)))
    ∙ ap (λ l. length (flat_map text l)) (take-append-drop i xs)

module _ {A : Type 0} (text : A → List ℕ) (xs : List A) (d : A) (i : ℕ) (h : i < length xs) where
  one_more : flat_map text (take (i + 1) xs) ≡ flat_map text (take i xs) ++ text (get_or xs i d)
  unfolding flat_map
  one_more =
      rw (add-one, take-suc xs i d h)
      (pieces_join text (take i xs) (get_or xs i d ∷ []) ∙ ap (λ (l : List ℕ). flat_map text (take i xs) ++ l) (append-nil (text (get_or xs i d))))

  -- where there is room for all, there is room for the next one
  room_for : length (flat_map text (take i xs)) + length (text (get_or xs i d)) ≤ length (flat_map text xs)
  room_for = omega (arith, cut_long text xs (i + 1), ap length one_more, length-append (flat_map text (take i xs)) (text (get_or xs i d)))

-- the pieces before i stand at the front of a buffer that has room for all
pub record SoFar {A : Type 0} (text : A → List ℕ) (xs : List A) (old out : List ℕ) (at i : ℕ) : Type 0 where
  pub few : i ≤ length xs
  pub room : length (flat_map text xs) ≤ length old
  pub put : Put (flat_map text (take i xs)) at old out

-- before the first of them
pub none_yet : {A : Type 0} (text : A → List ℕ) (xs : List A) (old : List ℕ) → length (flat_map text xs) ≤ length old → SoFar text xs old old 0 0
unfolding flat_map
none_yet text xs old room = record { few = omega arith; room = room; put = record { sized = refl; stands = refl } }

module _ {A : Type 0} {text : A → List ℕ} {xs : List A} {old out : List ℕ} {at i : ℕ} (so_far : SoFar text xs old out at i) where
  -- behind the last of them
  pub all_put : length xs ≤ i → Put (flat_map text xs) at old out
  all_put h = rw (take_all i xs h) at so_far.put

  -- the buffer is as long as it was
  pub as_long : length out ≡ length old
  as_long = put_long so_far.put (omega (arith, so_far.room, cut_long text xs i))

  module _ (h : i < length xs) (d : A) where
    -- the next one fits
    pub fits : at + length (text (get_or xs i d)) ≤ length out
    fits = omega (arith, so_far.room, room_for text xs d i h, so_far.put.sized, as_long)

    -- in the part behind those before it
    pub fits_behind : length (text (get_or xs i d)) ≤ length (mid_of at (length out - at) out)
    fits_behind = omega (arith, fits, mid_len at (length out) out (le_refl (length out)))

    one_further : {new : List ℕ} {end : ℕ} → Put (flat_map text (take i xs) ++ text (get_or xs i d)) end old new → SoFar text xs old new end (i + 1)
    one_further p = record { few = omega arith; room = so_far.room; put = rw (one_more text xs d i h) p }

    -- it is put there
    pub piece_put : (part : List ℕ) (size : ℕ) → Put (text (get_or xs i d)) size (mid_of at (length out - at) out) part
        → SoFar text xs old (put_mid at (length out - at) out part) (at + size) (i + 1)
    piece_put part size more = one_further (then_put so_far.put (text (get_or xs i d)) part size more)

-- ---- numbers, each of them behind a space

abbrev pub behind_space : ℕ → List ℕ
behind_space v = SPACE ∷ digits_for decimal v

module _ {numbers old out : List ℕ} {at i : ℕ} (so_far : SoFar behind_space numbers old out at i) (h : i < length numbers) where
  -- there is a place for the space, and its digits fit behind it
  pub number_fits : at + 1 + length (digits_for decimal (get_or numbers i 0)) ≤ length out
  number_fits = omega (arith, fits so_far h 0)

  pub still_fits : at + 1 + length (digits_for decimal (get_or numbers i 0)) ≤ length (set out at SPACE)
  still_fits = omega (arith, number_fits, length-set out at SPACE)

  pub digits_fit : length (digits_for decimal (get_or numbers i 0)) ≤ length (mid_of (at + 1) (length (set out at SPACE) - (at + 1)) (set out at SPACE))
  digits_fit = omega (arith, still_fits, mid_len (at + 1) (length (set out at SPACE)) (set out at SPACE) (le_refl (length (set out at SPACE))))

  -- a number more
  pub number_put : (part : List ℕ) (size : ℕ)
      → Put (digits_for decimal (get_or numbers i 0)) size (mid_of (at + 1) (length (set out at SPACE) - (at + 1)) (set out at SPACE)) part
      → SoFar behind_space numbers old (put_mid (at + 1) (length (set out at SPACE) - (at + 1)) (set out at SPACE) part) (at + 1 + size) (i + 1)
  number_put part size more =
      let digits = digits_for decimal (get_or numbers i 0) in
      let space = then_byte so_far.put SPACE (omega (arith, number_fits, as_long so_far)) in
      one_further so_far h 0 (rw (append_snoc (flat_map behind_space (take i numbers)) SPACE digits) at (then_put space digits part size more))
