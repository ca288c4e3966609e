-- A step of the count in the code: masked halves of fields, added. Once over the half's width k. Carried by `masked`: the mask leaves the low half of each field.
-- Assumes nothing.
use Rattle.std.proofs.Common.{◌≡◌, ℕ, zero, suc, ◌+◌, ◌-◌, ◌*◌, ◌/◌, ◌^◌, sym, refl, ap, ◌∙◌, ap₂, lt_of_lt_of_le, mod-lt, add-mul, add_comm, arith}
use lib.Bits.{bit_and, and_zero_r, and_block, and_mask}
use lib.Count.{ones_in}
use lib.Pow as pow
use Rattle.register.specs.Halves.{low, high, join}
use Rattle.alu_rules.specs.Ones.{in_fields}
use Rattle.alu_rules.proofs.Ones.{halves_added, step}

-- the low halves of n fields of k + k bits
abbrev pub mask : ℕ → ℕ → ℕ
mask k zero = 0
mask k (suc n) = join (k + k) (mask k n) (2 ^ k - 1)

masked : (k n x : ℕ) → bit_and x (mask k n) ≡ in_fields (k + k) n (low k) x
unfolding in_fields
masked k zero x = and_zero_r x
masked k (suc n) x =
    let d = k + k in
    ap (λ (y : ℕ). bit_and y (mask k (suc n))) (sym (pow.split x d))
    ∙ and_block d (high d x) (mask k n) (low d x) (2 ^ k - 1) (mod-lt x (pow.pow_pos d)) (lt_of_lt_of_le (pow.ones_lt k) (pow.pow_mono (omega arith)))
    ∙ ap₂ (join d) (masked k n (high d x)) (and_mask (low d x) k)

-- moved right by k, the high halves stand where the low ones were
moved : (k n x : ℕ) → in_fields (k + k) n (low k) (x / 2 ^ k) ≡ in_fields (k + k) n (high k) x
unfolding in_fields
moved k zero x = refl
moved k (suc n) x =
    let d = k + k in
    ap₂ (join d)
    (ap (in_fields d n (low k)) (pow.shr-shr x k d ∙ ap (λ (m : ℕ). x / 2 ^ m) (add_comm k d) ∙ sym (pow.shr-shr x d k)) ∙ moved k n (high d x))
    (pow.mod-mod-pow (x / 2 ^ k) k k ∙ sym (pow.field x k k))

-- words that are added are added field by field
together : (d n : ℕ) (f g : ℕ → ℕ) (x : ℕ) → in_fields d n f x + in_fields d n g x ≡ in_fields d n (λ (y : ℕ). f y + g y) x
unfolding in_fields
together d zero f g x = refl
together d (suc n) f g x =
    let hi = high d x in
    omega (arith, add-mul (in_fields d n f hi) (in_fields d n g hi) (2 ^ d), ap (λ (m : ℕ). m * 2 ^ d) (together d n f g hi))

-- the step for k, which leaves n fields
pub counted : (k n w : ℕ) {x m r : ℕ} → x ≡ in_fields k (n + n) (ones_in k) w → r ≡ bit_and x m + bit_and (x / 2 ^ k) m → m ≡ mask k n
    → r ≡ in_fields (k + k) n (ones_in (k + k)) w
counted k n w {x} s a e =
    a ∙ ap (λ (y : ℕ). bit_and x y + bit_and (x / 2 ^ k) y) e ∙ ap₂ ◌+◌ (masked k n x) (masked k n (x / 2 ^ k) ∙ moved k n x)
    ∙ together (k + k) n (low k) (high k) x ∙ ap (halves_added k n) s ∙ step k n w
