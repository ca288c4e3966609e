-- A lane by the words of its register. Carried by two laws over the width: digit i of a number in digits of k bits is its bits ki+k-1 to ki, and
-- the halves of lane i of k + k bits are lanes i + i and i + i + 1 of k bits.
-- Assumes nothing.
use Prim.Native.Nat.{ℕ, zero, suc, ◌+◌, ◌*◌, ◌/◌, ◌%◌, ◌^◌, ◌<◌}
use mathlib.Core.Path.{◌≡◌, refl, sym, ap, ap₂, ◌∙◌}
use mathlib.Core.Bool.{Bool, true, false}
use mathlib.Core.List.{List, [], ◌∷◌}
use native.Mathlib.Omega.{arith}
use native.Mathlib.Nat.{add_comm, mul-add, add-mul, mul-one, mul-zero, mul-suc, zero-div, zero-mod, div-one}
use borrow.Author.Tests.{eqb-true, eqb-false}
use lib.Dec.{eqb}
use lib.ListN.{get_or}
use lib.Pow as pow
use Rattle.register.specs.Halves.{low, high, half, join}
use Rattle.register.specs.declared.Register.{Register}
use Rattle.register.specs.Layout.{number, lane, row_of}
use Rattle.register.proofs.WordBounds.{Held}

-- ---- numbers in digits of k bits, the lowest first

abbrev pub value : ℕ → List ℕ → ℕ
value k [] = 0
value k (x ∷ xs) = join k (value k xs) x

abbrev pub Digits : ℕ → List ℕ → Type 0
Digits k [] = Unit {0}
Digits k (x ∷ xs) = (x < 2 ^ k) × Digits k xs

pub digit_at : (k i : ℕ) (xs : List ℕ) → Digits k xs → value k xs / 2 ^ (k * i) % 2 ^ k ≡ get_or xs i 0
digit_at k i [] d = ap (λ (n : ℕ). n % 2 ^ k) (zero-div (2 ^ (k * i))) ∙ zero-mod (2 ^ k)
digit_at k zero (x ∷ xs) d =
    ap (λ (n : ℕ). join k (value k xs) x / 2 ^ n % 2 ^ k) (mul-zero k)
    ∙ ap (λ (n : ℕ). n % 2 ^ k) (div-one _)
    ∙ pow.low (value k xs) k d.0
digit_at k (suc i) (x ∷ xs) d =
    ap (λ (n : ℕ). join k (value k xs) x / 2 ^ n % 2 ^ k) (mul-suc k i ∙ add_comm (k * i) k)
    ∙ ap (λ (n : ℕ). n % 2 ^ k) (sym (pow.shr-shr _ k (k * i)) ∙ ap (λ (n : ℕ). n / 2 ^ (k * i)) (pow.high (value k xs) k d.0))
    ∙ digit_at k i xs d.1

pub number_in_words : (r : Register) → number r ≡ value 32 (row_of r)
number_in_words r = omega arith

-- word i is the word at i of the row, and 0 where there is none
pub word_lane : (i : ℕ) (r : Register) → Held r → lane 32 i r ≡ get_or (row_of r) i 0
unfolding lane
word_lane i r h =
    ap (λ (n : ℕ). n / 2 ^ (32 * i) % 2 ^ 32) (number_in_words r)
    ∙ digit_at 32 i (row_of r) (h.w0_fits, (h.w1_fits, (h.w2_fits, (h.w3_fits, tt))))

-- a row whose four words are g 0 to g 3
pub word_by_word : (g : ℕ → ℕ) (r : Register) → r.w0 ≡ g 0 → r.w1 ≡ g 1 → r.w2 ≡ g 2 → r.w3 ≡ g 3 → (n : ℕ) → n < 4 → get_or (row_of r) n 0 ≡ g n
word_by_word g r e0 e1 e2 e3 zero h = e0
word_by_word g r e0 e1 e2 e3 (suc zero) h = e1
word_by_word g r e0 e1 e2 e3 (suc (suc zero)) h = e2
word_by_word g r e0 e1 e2 e3 (suc (suc (suc zero))) h = e3
word_by_word g r e0 e1 e2 e3 (suc (suc (suc (suc n)))) h = absurd (omega arith)

-- ---- the halves of a lane

even : (k i : ℕ) → k * (i + i) ≡ (k + k) * i
even k i = mul-add k i i ∙ sym (add-mul k k i)

odd : (k i : ℕ) → k * (i + i + 1) ≡ (k + k) * i + k
odd k i = mul-add k (i + i) 1 ∙ ap₂ ◌+◌ (even k i) (mul-one k)

pub low_lane : (k i : ℕ) (r : Register) → lane k (i + i) r ≡ low k (lane (k + k) i r)
unfolding lane
low_lane k i r = ap (λ (n : ℕ). number r / 2 ^ n % 2 ^ k) (even k i) ∙ sym (pow.mod-mod-pow _ k k)

pub high_lane : (k i : ℕ) (r : Register) → lane k (i + i + 1) r ≡ high k (lane (k + k) i r)
unfolding lane
high_lane k i r =
    ap (λ (n : ℕ). number r / 2 ^ n % 2 ^ k) (odd k i)
    ∙ ap (λ (n : ℕ). n % 2 ^ k) (sym (pow.shr-shr _ _ k))
    ∙ sym (pow.field _ k k)

pub joined_lanes : (k i : ℕ) (r : Register) → join k (lane k (i + i + 1) r) (lane k (i + i) r) ≡ lane (k + k) i r
joined_lanes k i r = ap₂ (join k) (high_lane k i r) (low_lane k i r) ∙ pow.split _ k

-- the same by the place i of the half; w is what the code has for the whole lane
pub half_lane : (k i : ℕ) (r : Register) {w : ℕ} → w ≡ lane (k + k) (i / 2) r → half k (eqb (i % 2) 1) w ≡ lane k i r
half_lane k i r {w} e = go (eqb (i % 2) 1) refl
  where
    go : (t : Bool) → eqb (i % 2) 1 ≡ t → half k t w ≡ lane k i r
    go true t =
        let b = eqb-true (i % 2) 1 t in
        let d : i / 2 + i / 2 + 1 ≡ i = omega arith in
        ap (high k) e ∙ sym (high_lane k (i / 2) r) ∙ ap (λ (j : ℕ). lane k j r) d
    go false t =
        let b = eqb-false (i % 2) 1 t in
        let d : i / 2 + i / 2 ≡ i = omega arith in
        ap (low k) e ∙ sym (low_lane k (i / 2) r) ∙ ap (λ (j : ℕ). lane k j r) d
