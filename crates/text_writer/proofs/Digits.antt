-- The decimal digits of a number: those before the last one, and the last one. Carried by `enough`: how many digits are allowed does not matter where there are no more.
-- Assumes nothing.
use Prim.Native.Nat.{ℕ, zero, suc, ◌+◌, ◌/◌, ◌%◌, ◌≤◌, ◌<◌}
use mathlib.Core.Path.{◌≡◌, refl, sym, ap, ◌∙◌}
use mathlib.Core.Bool.{Bool, true, false}
use mathlib.Core.List.{List, [], ◌∷◌, ◌++◌}
use native.Mathlib.Omega.{arith}
use native.Mathlib.Nat.{zero-add}
use borrow.Author.Tests.{ltb-true, ltb-false, lt-ltb, le-ltb}
use lib.Dec.{ltb}
use lib.ListN.{length, drop}
use lib.Seq.{sets, sets-eq}
use Rattle.text_rules.specs.Number.{decimal_in, digits_for}
use Rattle.text_rules.specs.Number.Notation.{decimal}
use Rattle.text_writer.specs.Put.{Put}

last_of_one : (most v : ℕ) → v < 10 → decimal_in (suc most) v ≡ (48 + v % 10) ∷ []
unfolding decimal_in
last_of_one most v h = rw (lt-ltb v 10 h)

last_of_more : (most v : ℕ) → 10 ≤ v → decimal_in (suc most) v ≡ decimal_in most (v / 10) ++ (48 + v % 10) ∷ []
unfolding decimal_in
last_of_more most v h = rw (le-ltb v 10 h)

enough : (m n v : ℕ) → 0 < m → 0 < n → v ≤ m → v ≤ n → decimal_in m v ≡ decimal_in n v
enough zero n v some also hm hn = absurd (omega arith)
enough (suc m) zero v some also hm hn = absurd (omega arith)
enough (suc m) (suc n) v some also hm hn = by (λ h. enough m n (v / 10) (omega arith) (omega arith) (omega arith) (omega arith)) (ltb v 10) refl
  where
    by : (10 ≤ v → decimal_in m (v / 10) ≡ decimal_in n (v / 10)) → (t : Bool) → ltb v 10 ≡ t → decimal_in (suc m) v ≡ decimal_in (suc n) v
    by front true e = let h = ltb-true v 10 e in last_of_one m v h ∙ sym (last_of_one n v h)
    by front false e =
        let h = ltb-false v 10 e in
        last_of_more m v h ∙ ap (λ (l : List ℕ). l ++ (48 + v % 10) ∷ []) (front h) ∙ sym (last_of_more n v h)

-- one digit; the last of more; and two
pub one_digit : (v : ℕ) → v < 10 → digits_for decimal v ≡ (48 + v) ∷ []
one_digit v h = let same : v % 10 ≡ v = omega arith in last_of_one v v h ∙ rw same

last_digit : (v : ℕ) → 10 ≤ v → digits_for decimal v ≡ digits_for decimal (v / 10) ++ (48 + v % 10) ∷ []
last_digit v h =
    last_of_more v v h ∙ ap (λ (l : List ℕ). l ++ (48 + v % 10) ∷ []) (enough v (suc (v / 10)) (v / 10) (omega arith) (omega arith) (omega arith) (omega arith))

pub two_digits_lem : (v : ℕ) → 10 ≤ v → v < 100 → digits_for decimal v ≡ (48 + v / 10) ∷ (48 + v % 10) ∷ []
two_digits_lem v h k = last_digit v h ∙ ap (λ (l : List ℕ). l ++ (48 + v % 10) ∷ []) (one_digit (v / 10) (omega arith))

-- and so on: those of a tenth of the number, and the last one
pub three_digits : (v : ℕ) → 100 ≤ v → v < 1000 → digits_for decimal v ≡ (48 + v / 100) ∷ (48 + v / 10 % 10) ∷ (48 + v % 10) ∷ []
three_digits v h k =
    let first : v / 10 / 10 ≡ v / 100 = omega arith in
    last_digit v (omega arith) ∙ ap (λ (l : List ℕ). l ++ (48 + v % 10) ∷ []) (two_digits_lem (v / 10) (omega arith) (omega arith))
    ∙ ap (λ (n : ℕ). (48 + n) ∷ (48 + v / 10 % 10) ∷ (48 + v % 10) ∷ []) first

pub four_digits : (v : ℕ) → 1000 ≤ v → v < 10000 → digits_for decimal v ≡ (48 + v / 1000) ∷ (48 + v / 100 % 10) ∷ (48 + v / 10 % 10) ∷ (48 + v % 10) ∷ []
four_digits v h k =
    let first : v / 10 / 100 ≡ v / 1000 = omega arith in
    let second : v / 10 / 10 ≡ v / 100 = omega arith in
    last_digit v (omega arith) ∙ ap (λ (l : List ℕ). l ++ (48 + v % 10) ∷ []) (three_digits (v / 10) (omega arith) (omega arith))
    ∙ (λ i. (48 + first i) ∷ (48 + second i % 10) ∷ (48 + v / 10 % 10) ∷ (48 + v % 10) ∷ [])

pub five_digits : (v : ℕ) → 10000 ≤ v → v < 100000
    → digits_for decimal v ≡ (48 + v / 10000) ∷ (48 + v / 1000 % 10) ∷ (48 + v / 100 % 10) ∷ (48 + v / 10 % 10) ∷ (48 + v % 10) ∷ []
five_digits v h k =
    let first : v / 10 / 1000 ≡ v / 10000 = omega arith in
    let second : v / 10 / 100 ≡ v / 1000 = omega arith in
    let third : v / 10 / 10 ≡ v / 100 = omega arith in
    last_digit v (omega arith) ∙ ap (λ (l : List ℕ). l ++ (48 + v % 10) ∷ []) (four_digits (v / 10) (omega arith) (omega arith))
    ∙ (λ i. (48 + first i) ∷ (48 + second i % 10) ∷ (48 + third i % 10) ∷ (48 + v / 10 % 10) ∷ (48 + v % 10) ∷ [])

-- ---- stored, all of them

module _ (v : ℕ) {ds : List ℕ} (digits : digits_for decimal v ≡ ds) (old : List ℕ) (room : length (digits_for decimal v) ≤ length old) where
  -- there is room for so many
  pub digits_fit : length ds ≤ length old
  digits_fit = omega (arith, ap length digits)

  pub digits_put : Put (digits_for decimal v) (length ds) old (sets old 0 ds)
  digits_put = rw digits (record { sized = refl; stands = sets-eq ds old 0 (omega (arith, digits_fit)) ∙ ap (λ (n : ℕ). ds ++ drop n old) (zero-add (length ds)) })
