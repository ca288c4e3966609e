-- For the reader of specs/: both ways through rows and through bytes give back what went in, and a halfword that is set leaves the other seven as
-- they were.
-- Assumes nothing.
use Prim.Native.Nat.{ℕ, ◌+◌, ◌*◌, ◌/◌, ◌%◌, ◌^◌, ◌≤◌, ◌<◌}
use mathlib.Core.Path.{◌≡◌, refl, sym, ap, ◌∙◌}
use mathlib.Core.Bool.{Bool, true, false, cond, and-eq-true_iff}
use mathlib.Core.List.{List, [], ◌++◌}
use mathlib.Core.Logic.{◌↔◌}
use native.Mathlib.Omega.{arith}
use borrow.Author.Tests.{eq-eqb, ne_eqb, eqb-true, eqb-false}
use lib.Dec.{eqb}
use lib.ListN.{length, get_or, drop}
use lib.Pow as pow
use Rattle.std.proofs.Common.{⊎_elim}
use Rattle.std.proofs.lemmas.Bool.{cases_eq}
use Rattle.register.specs.Halves.{low, high, half}
use Rattle.register.proofs.Joined.{join_lt}
use Rattle.register.specs.declared.Register.{Register}
use Rattle.register.specs.Layout.{number, lane, zero_register, is_zero, row_of, of_row, of_bytes, bytes_of, bytes_of_word, with_half, with_halfword}
use Rattle.register.proofs.WordBounds.{Held}
use Rattle.register.proofs.Lanes.{value, digit_at, number_in_words, word_lane, half_lane, word_by_word}
use Rattle.register.proofs.ByteOrder.{word_of_its_bytes, value_of_word, digits_of_word, next_four, bytes_of_word_at, all_dropped}
use Rattle.register.proofs.Equality.{same}

-- "a known zero": all 128 bits are 0
pub zero_bits : number zero_register ≡ 0
zero_bits = refl

-- it is the one register of which the test for it holds
pub zero_exactly : (r : Register) → (is_zero r ≡ true) ↔ (r ≡ zero_register)
zero_exactly r = (says, λ e. ap is_zero e)
  where
    says : is_zero r ≡ true → r ≡ zero_register
    says e =
        let a = (and-eq-true_iff _ (eqb r.w3 0)).0 e in
        let b = (and-eq-true_iff _ (eqb r.w2 0)).0 a.0 in
        let c = (and-eq-true_iff (eqb r.w0 0) (eqb r.w1 0)).0 b.0 in
        same (eqb-true r.w0 0 c.0) (eqb-true r.w1 0 c.1) (eqb-true r.w2 0 b.1) (eqb-true r.w3 0 a.1)

-- ---- rows and bytes

pub row_and_back : (r : Register) → of_row (row_of r) ≡ r
row_and_back r = refl

pub from_row_and_back : (l : List ℕ) → length l ≡ 4 → row_of (of_row l) ≡ l
from_row_and_back l n = sym (next_four l 0 (omega arith) (all_dropped l 4 n))

pub bytes_and_back : (r : Register) → Held r → of_bytes (bytes_of r) ≡ r
bytes_and_back r h =
    same (word_of_its_bytes _ h.w0_fits) (word_of_its_bytes _ h.w1_fits) (word_of_its_bytes _ h.w2_fits) (word_of_its_bytes _ h.w3_fits)

-- the bytes of the register in the first sixteen bytes, and then the rest, are the list
pub bytes_then_rest : (l : List ℕ) → ((i : ℕ) → get_or l i 0 < 2 ^ 8) → {rest : List ℕ} → 16 ≤ length l → drop 16 l ≡ rest → bytes_of (of_bytes l) ++ rest ≡ l
bytes_then_rest l b h e =
    bytes_of_word_at l b 0 (omega arith)
    (sym (bytes_of_word_at l b 4 (omega arith)
    (sym (bytes_of_word_at l b 8 (omega arith)
    (sym (bytes_of_word_at l b 12 h e))))))

pub from_bytes_and_back : (l : List ℕ) → length l ≡ 16 → ((i : ℕ) → get_or l i 0 < 2 ^ 8) → bytes_of (of_bytes l) ≡ l
from_bytes_and_back l n b = bytes_then_rest l b (omega arith) (all_dropped l 16 n)

-- byte i is bits 8i+7 to 8i
pub byte_lane : (i : ℕ) (r : Register) → Held r → get_or (bytes_of r) i 0 ≡ lane 8 i r
unfolding lane
byte_lane i r h =
    let t3 = bytes_of_word r.w3 [] in
    let t2 = bytes_of_word r.w2 t3 in
    let t1 = bytes_of_word r.w1 t2 in
    let digits = digits_of_word r.w0 t1 (digits_of_word r.w1 t2 (digits_of_word r.w2 t3 (digits_of_word r.w3 [] tt))) in
    let in_words : value 8 (bytes_of r) ≡ value 32 (row_of r)
    = value_of_word r.w0 t1 h.w0_fits
    (value_of_word r.w1 t2 h.w1_fits
    (value_of_word r.w2 t3 h.w2_fits
    (value_of_word r.w3 [] h.w3_fits refl))) in
    sym (digit_at 8 i (bytes_of r) digits) ∙ ap (λ (n : ℕ). n / 2 ^ (8 * i) % 2 ^ 8) (in_words ∙ sym (number_in_words r))

-- ---- one halfword set, the other seven kept

equal : (a b : ℕ) {P : Type 0} → (a ≡ b → P) → ((a ≡ b → ⊥) → P) → P
equal a b same other = ⊎_elim same other (cases_eq a b)

module _ (i v k w : ℕ) (fits : v < 2 ^ 16) where
  low_set : low 16 (with_half i v k w) ≡ cond (eqb k i) v (low 16 w)
  unfolding with_half
  low_set =
      equal i k
      (λ e. rw (eq-eqb i k e, eq-eqb k i (sym e)) (pow.low (high 16 w) 16 fits))
      (λ n. rw (ne_eqb i k n, ne_eqb k i (λ e. n (sym e))) (equal i (k + 1)
      (λ e. rw (eq-eqb i (k + 1) e) (pow.low v 16 (omega arith)))
      (λ m. rw (ne_eqb i (k + 1) m))))

  high_set : high 16 (with_half i v k w) ≡ cond (eqb (k + 1) i) v (high 16 w)
  unfolding with_half
  high_set =
      equal i k
      (λ e. rw (eq-eqb i k e, ne_eqb (k + 1) i (λ f. omega arith)) (pow.high (high 16 w) 16 fits))
      (λ n. rw (ne_eqb i k n) (equal i (k + 1)
      (λ e. rw (eq-eqb i (k + 1) e, eq-eqb (k + 1) i (sym e)) (pow.high v 16 (omega arith)))
      (λ m. rw (ne_eqb i (k + 1) m, ne_eqb (k + 1) i (λ e. m (sym e))))))

  set_fits : w < 2 ^ 32 → with_half i v k w < 2 ^ 32
  unfolding with_half
  set_fits l =
      equal i k
      (λ e. rw (eq-eqb i k e) (join_lt 16 {hi = high 16 w} (omega arith) fits))
      (λ n. rw (ne_eqb i k n) (equal i (k + 1)
      (λ e. rw (eq-eqb i (k + 1) e) (join_lt 16 {lo = low 16 w} fits (omega arith)))
      (λ m. rw (ne_eqb i (k + 1) m) l)))

pub at_halfword : (i v : ℕ) → v < 2 ^ 16 → (r : Register) → Held r
    → (j : ℕ) → j < 8 → lane 16 j (with_halfword i v r) ≡ cond (eqb j i) v (lane 16 j r)
at_halfword i v fits r h j l =
    sym (half_lane 16 j _ refl) ∙ go (eqb (j % 2) 1) refl ∙ ap (λ (x : ℕ). cond (eqb j i) v x) (half_lane 16 j r refl)
  where
    set : Held (with_halfword i v r)
    set = record {
      w0_fits = set_fits i v 0 r.w0 fits h.w0_fits;
      w1_fits = set_fits i v 2 r.w1 fits h.w1_fits;
      w2_fits = set_fits i v 4 r.w2 fits h.w2_fits;
      w3_fits = set_fits i v 6 r.w3 fits h.w3_fits;
    }

    in_row : get_or (row_of (with_halfword i v r)) (j / 2) 0 ≡ with_half i v (j / 2 + j / 2) (get_or (row_of r) (j / 2) 0)
    in_row = word_by_word (λ (n : ℕ). with_half i v (n + n) (get_or (row_of r) n 0)) _ refl refl refl refl (j / 2) (omega arith)

    word : lane 32 (j / 2) (with_halfword i v r) ≡ with_half i v (j / 2 + j / 2) (lane 32 (j / 2) r)
    word = word_lane (j / 2) _ set ∙ in_row ∙ ap (with_half i v (j / 2 + j / 2)) (sym (word_lane (j / 2) r h))

    go : (t : Bool) → eqb (j % 2) 1 ≡ t → half 16 t (lane 32 (j / 2) (with_halfword i v r)) ≡ cond (eqb j i) v (half 16 t (lane 32 (j / 2) r))
    go true t =
        let b = eqb-true (j % 2) 1 t in
        let e : j / 2 + j / 2 + 1 ≡ j = omega arith in
        ap (high 16) word ∙ high_set i v _ _ fits ∙ ap (λ (n : ℕ). cond (eqb n i) v (high 16 (lane 32 (j / 2) r))) e
    go false t =
        let b = eqb-false (j % 2) 1 t in
        let e : j / 2 + j / 2 ≡ j = omega arith in
        ap (low 16) word ∙ low_set i v _ _ fits ∙ ap (λ (n : ℕ). cond (eqb n i) v (low 16 (lane 32 (j / 2) r))) e
