-- Digits of any base, one behind another. Carried by the last digit: it is what is left over the base.
-- Assumes nothing.
use Prim.Native.Nat.{ℕ, zero, suc, ◌+◌, ◌*◌, ◌/◌, ◌^◌, ◌≤◌, ◌<◌}
use mathlib.Core.Path.{◌≡◌, refl, sym, ap, ◌∙◌}
use mathlib.Core.Bool.{true}
use mathlib.Core.List.{List, [], ◌∷◌, ◌++◌}
use native.Mathlib.Omega.{arith}
use native.Mathlib.Nat.{add-zero, pow-zero, mul-one, le_refl, le_trans, lt_of_lt_of_le, mul-le-mul_right}
use native.Mathlib.Nat.{le_of_suc-le-suc, not-suc-le-zero}
use native.Mathlib.Nat.{mul_comm, mul_assoc, add-mul, mul-add-div, div-eq_of_lt, le-mul_of_pos_right, pow-succ'}
use borrow.Author.Tests.{ltb-true}
use lib.Dec.{ltb}
use lib.ListN.{length, get_or}
use Rattle.text_rules.specs.Number.{positional}
use Rattle.text_rules.proofs.Fronts.{All, all_map}
use Rattle.text_rules.proofs.Rows.{every, every_all}

-- each digit is below the base
abbrev pub AllBelow : ℕ → List ℕ → Type 0
AllBelow base ds = All (λ (d : ℕ). d < base) ds

pub each_below : (base : ℕ) (ds : List ℕ) → AllBelow base ds → (i : ℕ) → i < length ds → get_or ds i 0 < base
each_below base [] all i h = absurd (not-suc-le-zero h)
each_below base (d ∷ ds) all zero h = all.0
each_below base (d ∷ ds) all (suc i) h = each_below base ds all.1 i (le_of_suc-le-suc h)

-- as a test says it
pub every_below : (base : ℕ) (ds : List ℕ) → every (λ (d : ℕ). ltb d base) ds ≡ true → AllBelow base ds
every_below base ds e = all_map (λ d. ltb-true d base) ds (every_all (λ (d : ℕ). ltb d base) ds e)

pub positional_append : (base before : ℕ) (xs ys : List ℕ) → positional base before (xs ++ ys) ≡ positional base (positional base before xs) ys
positional_append base before [] ys = refl
positional_append base before (x ∷ xs) ys = positional_append base (base * before + x) xs ys

-- one digit more
pub snoc : (base before : ℕ) (ds : List ℕ) (d : ℕ) → positional base before (ds ++ d ∷ []) ≡ base * positional base before ds + d
snoc base before ds d = positional_append base before ds (d ∷ [])

-- how often the base goes into a number, and what is left over
how_often : (base a d : ℕ) → d < base → (base * a + d) / base ≡ a
how_often base a d h = mul-add-div (omega arith) a d ∙ ap (λ (n : ℕ). a + n) (div-eq_of_lt h) ∙ add-zero a

last_digit : (base a b d e : ℕ) → d < base → e < base → base * a + d ≡ base * b + e → (a ≡ b) × (d ≡ e)
last_digit base a b d e hd he q =
    let first : a ≡ b = sym (how_often base a d hd) ∙ ap (λ (n : ℕ). n / base) q ∙ how_often base b e he in
    let times : base * a ≡ base * b = ap (λ (n : ℕ). base * n) first in
    (first, omega arith)

-- as many digits, and the same number: the same digits, behind the same
pub same_length : (base a b : ℕ) (xs ys : List ℕ) → AllBelow base xs → AllBelow base ys → length xs ≡ length ys
    → positional base a xs ≡ positional base b ys → (a ≡ b) × (xs ≡ ys)
same_length base a b [] [] hx hy n q = (q, refl)
same_length base a b [] (y ∷ ys) hx hy n q = absurd (omega arith)
same_length base a b (x ∷ xs) [] hx hy n q = absurd (omega arith)
same_length base a b (x ∷ xs) (y ∷ ys) hx hy n q =
    let rest = same_length base (base * a + x) (base * b + y) xs ys hx.1 hy.1 (omega arith) q in
    let first = last_digit base a b x y hx.0 hy.0 rest.0 in
    (first.0, λ i. first.1 i ∷ rest.1 i)

-- more digits say no less
pub at_least : (base before : ℕ) (ds : List ℕ) → 0 < base → before ≤ positional base before ds
at_least base before [] h = le_refl before
at_least base before (d ∷ ds) h =
    let more = at_least base (base * before + d) ds h in
    let times = le-mul_of_pos_right before h in
    omega (arith, mul_comm before base)

-- so many digits behind a number say less than the next number with as many zeros behind it, and no less than that number with them
pub below_power : (base before : ℕ) (ds : List ℕ) → AllBelow base ds → positional base before ds < (before + 1) * base ^ length ds
below_power base before [] h = rw (pow-zero base, mul-one (before + 1)) (omega arith)
below_power base before (d ∷ ds) h =
    let p = base ^ length ds in
    let times : (base * before + d + 1) * p ≤ (before + 1) * base * p
    = mul-le-mul_right p (omega (arith, add-mul before 1 base, mul_comm before base, h.0)) in
    rw (pow-succ' base (length ds), ← mul_assoc (before + 1) base p) (lt_of_lt_of_le (below_power base (base * before + d) ds h.1) times)

pub above_power : (base before : ℕ) (ds : List ℕ) → before * base ^ length ds ≤ positional base before ds
above_power base before [] = rw (pow-zero base, mul-one before) (le_refl before)
above_power base before (d ∷ ds) =
    let p = base ^ length ds in
    let times : before * base * p ≤ (base * before + d) * p = mul-le-mul_right p (omega (arith, mul_comm before base)) in
    rw (pow-succ' base (length ds), ← mul_assoc before base p) (le_trans times (above_power base (base * before + d) ds))
