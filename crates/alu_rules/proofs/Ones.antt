-- Ones counted in fields, once over the field's size. Carried by `halves_counted`: the ones of a field are those of its two halves.
-- Assumes nothing.
use Prim.Native.Nat.{ℕ, zero, suc, ◌+◌, ◌*◌, ◌/◌, ◌%◌, ◌^◌, ◌<◌}
use mathlib.Core.Path.{◌≡◌, refl, sym, ap, ap₂, ◌∙◌, subst}
use native.Mathlib.Omega.{arith}
use native.Mathlib.Nat.{zero-add, suc-add, add_assoc, mul-zero, mul-suc, div-one, pow-suc}
use native.Mathlib.Numerals.{add-one, one-add}
use lib.Count.{ones_in}
use lib.Pow as pow
use Rattle.register.specs.Halves.{low, high, join}
use Rattle.alu_rules.specs.Lane.{CNTIH}
use Rattle.alu_rules.specs.Ones.{in_fields, ones_in_fields}
use Rattle.alu_rules.proofs.Bits.{bit, total, ones_by_bits}

-- ---- fields

module _ (d : ℕ) (f : ℕ → ℕ) (fits : (y : ℕ) → f y < 2 ^ d) where
  -- field i holds what f makes of field i: nothing comes over from a neighbour
  pub at_each_field : (n i x : ℕ) → i < n → in_fields d n f x / 2 ^ (d * i) % 2 ^ d ≡ f (x / 2 ^ (d * i) % 2 ^ d)
  unfolding in_fields
  at_each_field zero i x l = absurd (omega (arith, l))
  at_each_field (suc n) zero x l =
      let one : (y : ℕ) → y / 2 ^ (d * 0) ≡ y = λ y. ap (λ (m : ℕ). y / 2 ^ m) (mul-zero d) ∙ div-one y in
      ap (low d) (one _) ∙ pow.low _ d (fits _) ∙ ap (λ (y : ℕ). f (low d y)) (sym (one x))
  at_each_field (suc n) (suc i) x l =
      let next : (y : ℕ) → y / 2 ^ (d * suc i) ≡ high d y / 2 ^ (d * i) =
      λ y. ap (λ (m : ℕ). y / 2 ^ m) (omega (arith, mul-suc d i)) ∙ sym (pow.shr-shr y d (d * i)) in
      ap (low d) (next _ ∙ ap (λ (y : ℕ). y / 2 ^ (d * i)) (pow.high _ d (fits _))) ∙ at_each_field n i (high d x) (omega arith)
      ∙ ap (λ (y : ℕ). f (low d y)) (sym (next x))

-- ---- the ones of a field

pub no_overflow : (d x : ℕ) → ones_in d x < 2 ^ d
unfolding ones_in
no_overflow zero x = omega arith
no_overflow (suc d) x = omega (arith, no_overflow d (x / 2), pow-suc 2 d)

pub ones_of_low : (d x : ℕ) → ones_in d (low d x) ≡ ones_in d x
unfolding ones_in
ones_of_low zero x = refl
ones_of_low (suc d) x =
    let e : suc d ≡ d + 1 = sym (add-one d) in
    ap₂ ◌+◌ (ap (λ (m : ℕ). x % 2 ^ m % 2) e ∙ pow.mod-mod-pow x d 1)
    (ap (ones_in d) (ap (λ (m : ℕ). x % 2 ^ m / 2) e ∙ pow.field x d 1) ∙ ones_of_low d (x / 2))

ones_split : (j d x : ℕ) → ones_in (j + d) x ≡ ones_in j x + ones_in d (x / 2 ^ j)
unfolding ones_in
ones_split zero d x = ap (λ (m : ℕ). ones_in m x) (zero-add d) ∙ ap (ones_in d) (sym (div-one x)) ∙ sym (zero-add _)
ones_split (suc j) d x =
    ap (λ (m : ℕ). ones_in m x) (suc-add j d) ∙ ap (λ (m : ℕ). x % 2 + m) (ones_split j d (x / 2)) ∙ sym (add_assoc (x % 2) _ _)
    ∙ ap (λ (m : ℕ). ones_in (suc j) x + ones_in d m) (pow.shr-shr x 1 j ∙ ap (λ (m : ℕ). x / 2 ^ m) (one-add j))

-- the ones of a field are those of its two halves
halves_counted : (k x : ℕ) → ones_in k (low k x) + ones_in k (low k (high k x)) ≡ ones_in (k + k) (low (k + k) x)
halves_counted k x = ap₂ ◌+◌ (ones_of_low k x) (ones_of_low k (high k x)) ∙ sym (ones_split k k x) ∙ sym (ones_of_low (k + k) x)

-- no step overflows its field: what the step for k adds fits in k + k bits
pub sum_fits : (k x : ℕ) → ones_in k (low k x) + ones_in k (low k (high k x)) < 2 ^ (k + k)
sum_fits k x = subst (λ (m : ℕ). m < 2 ^ (k + k)) (sym (halves_counted k x)) (no_overflow (k + k) (low (k + k) x))

-- every field holds the number of ones that it has in the word: the sum of its bits
pub ones_at_each_field : (d i w : ℕ) → i < 32 / d → ones_in_fields d w / 2 ^ (d * i) % 2 ^ d ≡ total d (λ (j : ℕ). bit (d * i + j) w)
ones_at_each_field d i w l =
    at_each_field d (ones_in d) (no_overflow d) (32 / d) i w l ∙ ones_of_low d _ ∙ ones_by_bits d _
    ∙ (λ j. total d (λ (m : ℕ). ap (λ (n : ℕ). n % 2) (pow.shr-shr w (d * i) m) j))

-- ---- the four steps

-- the two halves of each of n fields of k + k bits added
abbrev pub halves_added : ℕ → ℕ → ℕ → ℕ
halves_added k n x = in_fields (k + k) n (λ (y : ℕ). low k y + high k y) x

-- the parts of a number whose two lowest fields of k bits are b and a
module _ (k rest : ℕ) {a b : ℕ} (fa : a < 2 ^ k) (fb : b < 2 ^ k) where
  whole : ℕ
  whole = join k (join k rest b) a

  above : high (k + k) whole ≡ rest
  unfolding whole
  above = sym (pow.shr-shr whole k k) ∙ ap (high k) (pow.high (join k rest b) k fa) ∙ pow.high rest k fb

  added : low k (low (k + k) whole) + high k (low (k + k) whole) ≡ a + b
  unfolding whole
  added =
      ap₂ ◌+◌ (pow.mod-mod-pow whole k k ∙ pow.low (join k rest b) k fa)
      (pow.field whole k k ∙ ap (low k) (pow.high (join k rest b) k fa) ∙ pow.low rest k fb)

-- the step for k: where fields of k bits hold their ones, their sums are the ones of fields of k + k bits
pub step : (k n w : ℕ) → halves_added k n (in_fields k (n + n) (ones_in k) w) ≡ in_fields (k + k) n (ones_in (k + k)) w
unfolding in_fields whole
step k zero w = refl
step k (suc n) w =
    let rest = in_fields k (n + n) (ones_in k) (high k (high k w)) in
    let a = no_overflow k (low k w) in
    let b = no_overflow k (low k (high k w)) in
    let two : suc n + suc n ≡ suc (suc (n + n)) = omega arith in
    ap (λ (m : ℕ). halves_added k (suc n) (in_fields k m (ones_in k) w)) two
    ∙ ap₂ (join (k + k))
    (ap (halves_added k n) (above k rest a b ∙ ap (in_fields k (n + n) (ones_in k)) (pow.shr-shr w k k)) ∙ step k n (high (k + k) w))
    (added k rest a b ∙ halves_counted k w)

-- a word has the ones of its single bits
pub single_bits : (n w : ℕ) → w < 2 ^ n → in_fields 1 n (ones_in 1) w ≡ w
unfolding in_fields ones_in
single_bits zero w l = omega arith
single_bits (suc n) w l = ap (λ (m : ℕ). join 1 m (ones_in 1 (low 1 w))) (single_bits n (w / 2) (omega (arith, pow-suc 2 n))) ∙ omega arith

-- CNTIH is what stands there after the last step
pub last_step : (w : ℕ) → ones_in_fields 16 w ≡ CNTIH w
unfolding in_fields
last_step w = ap (λ (m : ℕ). join 16 m (ones_in 16 (low 16 w))) (omega (arith, ones_of_low 16 (high 16 w)))
