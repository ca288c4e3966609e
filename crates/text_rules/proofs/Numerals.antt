-- Numbers in digits, in either notation: each number has one numeral, `digits_for` writes it, and it says that number. Carried by the last digit for what is written in
-- decimal, by the first one for what is written in hex, and for what is read by the laws of positional digits: of two decimal numerals that say the same, neither is
-- the longer one.
-- Assumes nothing.
use Prim.Native.Nat.{ℕ, zero, suc, ◌+◌, ◌*◌, ◌-◌, ◌/◌, ◌%◌, ◌^◌, ◌≤◌, ◌<◌}
use mathlib.Core.Path.{◌≡◌, refl, sym, ap, ◌∙◌}
use mathlib.Core.Bool.{Bool, true, false, cond, not, ◌&&◌, false≢true}
use mathlib.Core.List.{List, [], ◌∷◌, ◌++◌, map, map-append}
use native.Mathlib.Omega.{arith}
use native.Mathlib.Nat.{pow-zero, pow-succ', one-le-pow, add-mul, mul_assoc, mul_comm}
use borrow.Author.Tests.{ltb-true, ltb-false, lt-ltb, le-ltb, leb-true, eqb-true, eqb-false, ne_eqb, not-true}
use lib.Arith.{mod-mul}
use lib.Dec.{ltb, leb, eqb}
use lib.ListN.{length, take, drop, length-map, length-drop, take-append-drop}
use lib.Seq.{length-take-le}
use Rattle.row_rules.specs.Text.{digit, hex_digits}
use Rattle.row_rules.proofs.Theorems.{decimal_code, letter_code}
use Rattle.text_rules.specs.Number.{digit_of, is_digit, positional, number_of, Notation, base_of, no_leading_zero, is_numeral, decimal_in, digits_for}
use Rattle.text_rules.specs.Number.Notation.{decimal, seven_hex}
use Rattle.text_rules.proofs.Fronts.{All, all_append, all_parts}
use Rattle.text_rules.proofs.Rows.{both, agree}
use Rattle.text_rules.proofs.Positional.{AllBelow, positional_append, snoc, same_length, at_least}

-- ---- a digit

-- a byte is a decimal digit, a letter or no digit
by_kind : (P : ℕ → Type 0) (b : ℕ) → (48 ≤ b → b ≤ 57 → P (b - 48)) → (65 ≤ b → b ≤ 70 → P (b - 55)) → P 16 → P (digit_of b)
unfolding digit_of
by_kind P b is-decimal is-letter none = go (leb 48 b && leb b 57) (leb 65 b && leb b 70) refl refl
  where
    go : (s t : Bool) → (leb 48 b && leb b 57) ≡ s → (leb 65 b && leb b 70) ≡ t → P (cond s (b - 48) (cond t (b - 55) 16))
    go true t e f = let two = both (leb 48 b) (leb b 57) e in is-decimal (leb-true 48 b two.0) (leb-true b 57 two.1)
    go false true e f = let two = both (leb 65 b) (leb b 70) f in is-letter (leb-true 65 b two.0) (leb-true b 70 two.1)
    go false false e f = none

-- a decimal digit has a code from 48 to 57, and says how far behind 48 it is
pub decimal_bounds : (b : ℕ) → is_digit 10 b ≡ true → (48 ≤ b) × (b ≤ 57) × (digit_of b ≡ b - 48)
decimal_bounds b e =
    by_kind (λ (d : ℕ). d < 10 → (48 ≤ b) × (b ≤ 57) × (d ≡ b - 48)) b (λ l u h. (l, u, refl)) (λ l u h. absurd (omega arith)) (λ h. absurd (omega arith))
    (ltb-true (digit_of b) 10 e)

-- the code of a digit says that digit, and no other code does
pub digit_said : (d : ℕ) → d < 16 → digit_of (digit d) ≡ d
unfolding digit_of
digit_said = agree 16 (λ (d : ℕ). digit_of (digit d)) (λ (d : ℕ). d) refl

digit_back : (b : ℕ) → digit_of b < 16 → digit (digit_of b) ≡ b
digit_back b =
    by_kind (λ (d : ℕ). d < 16 → digit d ≡ b) b (λ l u h. sym (decimal_code (b - 48) (omega arith)) ∙ omega arith)
    (λ l u h. sym (letter_code (b - 55) (omega arith) (omega arith)) ∙ omega arith) (λ h. absurd (omega arith))

zero_said : digit_of 48 ≡ 0
unfolding digit_of
zero_said = refl

code_said : (d : ℕ) → d < 10 → digit_of (48 + d) ≡ d
code_said d h = ap digit_of (omega (arith, decimal_code d h)) ∙ digit_said d (omega arith)

-- ---- digits

-- each byte is a digit
abbrev pub AllDigits : ℕ → List ℕ → Type 0
AllDigits base l = All (λ (b : ℕ). is_digit base b ≡ true) l

is_digit_lem : (base b d : ℕ) → digit_of b ≡ d → d < base → is_digit base b ≡ true
is_digit_lem base b d e h = rw e (lt-ltb d base h)

values_below : (base : ℕ) (ds : List ℕ) → AllDigits base ds → AllBelow base (map digit_of ds)
values_below base [] h = tt
values_below base (b ∷ ds) h = (ltb-true (digit_of b) base h.0, values_below base ds h.1)

-- the same values are the same digits
same_digits : (base : ℕ) (xs ys : List ℕ) → base ≤ 16 → AllDigits base xs → AllDigits base ys → map digit_of xs ≡ map digit_of ys → xs ≡ ys
same_digits base [] [] small hx hy e = refl
same_digits base [] (y ∷ ys) small hx hy e = let z : ◌≡◌ {A = ℕ} 0 1 = cc in absurd (omega arith)
same_digits base (x ∷ xs) [] small hx hy e = let z : ◌≡◌ {A = ℕ} 0 1 = cc in absurd (omega arith)
same_digits base (x ∷ xs) (y ∷ ys) small hx hy e =
    let first : digit_of x ≡ digit_of y = cc in
    let rest : map digit_of xs ≡ map digit_of ys = cc in
    let of-x = ltb-true (digit_of x) base hx.0 in
    let of-y = ltb-true (digit_of y) base hy.0 in
    let same : x ≡ y = sym (digit_back x (omega arith)) ∙ ap digit first ∙ digit_back y (omega arith) in
    λ i. same i ∷ same_digits base xs ys small hx.1 hy.1 rest i

-- as many digits that say the same number
same_numbers : (base : ℕ) (xs ys : List ℕ) → base ≤ 16 → AllDigits base xs → AllDigits base ys → length xs ≡ length ys → number_of base xs ≡ number_of base ys → xs ≡ ys
same_numbers base xs ys small hx hy n e =
    let as_many : length (map digit_of xs) ≡ length (map digit_of ys) = length-map xs digit_of ∙ n ∙ sym (length-map ys digit_of) in
    same_digits base xs ys small hx hy
    (same_length base 0 0 (map digit_of xs) (map digit_of ys) (values_below base xs hx) (values_below base ys hy) as_many e).1

-- digits of a notation, as many as there have to be, that say a number
pub record Numeral (notation : Notation) (v : ℕ) (ds : List ℕ) : Type 0 where
  pub digits : AllDigits (base_of notation) ds
  pub numeral : is_numeral notation ds ≡ true
  pub says : number_of (base_of notation) ds ≡ v

-- ---- what is written in decimal

number_snoc : (ds : List ℕ) (d : ℕ) → number_of 10 (ds ++ d ∷ []) ≡ 10 * number_of 10 ds + digit_of d
number_snoc ds d = ap (positional 10 0) (map-append digit_of ds (d ∷ [])) ∙ snoc 10 0 (map digit_of ds) (digit_of d)

longer : (ds : List ℕ) (d : ℕ) → no_leading_zero ds ≡ true → 0 < number_of 10 ds → no_leading_zero (ds ++ d ∷ []) ≡ true
longer [] d e h = absurd (false≢true e)
longer (b ∷ []) d e h = ap not (ne_eqb b 48 (λ z. omega (arith, ap digit_of z ∙ zero_said)))
longer (b ∷ c ∷ ds) d e h = e

one_digit : (most v : ℕ) → v < 10 → Numeral decimal v (decimal_in (suc most) v)
unfolding decimal_in
one_digit most v h =
    let said : digit_of (48 + v % 10) ≡ v % 10 = code_said (v % 10) (omega arith) in
    rw (lt-ltb v 10 h) (record { digits = (is_digit_lem 10 (48 + v % 10) (v % 10) said (omega arith), tt); numeral = refl; says = omega (arith, said) })

next_digit : (most v : ℕ) → 10 ≤ v → Numeral decimal (v / 10) (decimal_in most (v / 10)) → Numeral decimal v (decimal_in (suc most) v)
unfolding decimal_in
next_digit most v h n =
    let ds = decimal_in most (v / 10) in
    let says = n.says in
    let said : digit_of (48 + v % 10) ≡ v % 10 = code_said (v % 10) (omega arith) in
    rw (le-ltb v 10 h) (record {
      digits = all_append _ ds _ n.digits (is_digit_lem 10 (48 + v % 10) (v % 10) said (omega arith), tt);
      numeral = longer ds _ n.numeral (omega arith);
      says = number_snoc ds (48 + v % 10) ∙ omega (arith, said);
    })

numeral_in : (most v : ℕ) → v < most → Numeral decimal v (decimal_in most v)
numeral_in zero v h = absurd (omega arith)
numeral_in (suc most) v h = go (λ some. numeral_in most (v / 10) (omega arith)) (ltb v 10) refl
  where
    go : (10 ≤ v → Numeral decimal (v / 10) (decimal_in most (v / 10))) → (t : Bool) → ltb v 10 ≡ t → Numeral decimal v (decimal_in (suc most) v)
    go front true e = one_digit most v (ltb-true v 10 e)
    go front false e = let some = ltb-false v 10 e in next_digit most v some (front some)

-- the decimal digits of a number are a numeral that says it
pub decimal_says : (v : ℕ) → Numeral decimal v (digits_for decimal v)
decimal_says v = numeral_in (suc v) v (omega arith)

-- ---- what is written in hex

hex_all : (k v : ℕ) → AllDigits 16 (hex_digits k v)
hex_all zero v = tt
hex_all (suc k) v = (is_digit_lem 16 _ (v / 16 ^ k % 16) (digit_said (v / 16 ^ k % 16) (omega arith)) (omega arith), hex_all k v)

hex_positional : (k before v : ℕ) → positional 16 before (map digit_of (hex_digits k v)) ≡ before * 16 ^ k + v % 16 ^ k
hex_positional zero before v = rw (pow-zero 16) (omega arith)
hex_positional (suc k) before v =
    let d = v / 16 ^ k % 16 in
    let p = 16 ^ k in
    let low : v % (16 * p) ≡ d * p + v % p = mod-mul v (omega arith) (one-le-pow k 16 (omega arith)) in
    ap (λ (n : ℕ). positional 16 (16 * before + n) (map digit_of (hex_digits k v))) (digit_said d (omega arith))
    ∙ hex_positional k (16 * before + d) v
    ∙ omega (arith, add-mul (16 * before) d p, mul_assoc 16 before p, mul_comm before p, mul_assoc before 16 p, low)
    ∙ sym (ap (λ (q : ℕ). before * q + v % q) (pow-succ' 16 k))

-- the seven hex digits of a number below 16^7 are a numeral that says it
hex_says : (v : ℕ) → v < 16 ^ 7 → Numeral seven_hex v (digits_for seven_hex v)
hex_says v h = record { digits = hex_all 7 v; numeral = refl; says = hex_positional 7 0 v ∙ omega arith }

-- In either notation what is written is a numeral, and says the number.
pub digits_say : (notation : Notation) (v : ℕ) → v < 2 ^ 25 → Numeral notation v (digits_for notation v)
digits_say decimal v h = decimal_says v
digits_say seven_hex v h = hex_says v (omega arith)

-- and nothing but digits
pub all_digits_lem : (notation : Notation) (v : ℕ) → AllDigits (base_of notation) (digits_for notation v)
all_digits_lem decimal v = (decimal_says v).digits
all_digits_lem seven_hex v = hex_all 7 v

-- ---- one numeral for each number

-- digits in front of which more follow, and the first is no 0, say more than 0
first_counts : (front back : List ℕ) → AllDigits 10 front → 0 < length front → 0 < length back → no_leading_zero (front ++ back) ≡ true → 0 < number_of 10 front
first_counts [] back h some behind e = absurd (omega arith)
first_counts (b ∷ front) [] h some behind e = absurd (omega arith)
first_counts (b ∷ []) (c ∷ back) h some behind e =
    let no_zero = eqb-false b 48 (not-true (eqb b 48) e) in
    let bounds = decimal_bounds b h.0 in
    omega arith
first_counts (b ∷ c ∷ front) (d ∷ back) h some behind e =
    let no_zero = eqb-false b 48 (not-true (eqb b 48) e) in
    let bounds = decimal_bounds b h.0 in
    let more = at_least 10 (10 * 0 + digit_of b) (map digit_of (c ∷ front)) (omega arith) in
    omega arith

-- a decimal numeral that is longer says another number
longer_differs : (v : ℕ) (xs ys : List ℕ) → Numeral decimal v xs → Numeral decimal v ys → length xs < length ys → 0 < length xs → ⊥
longer_differs v xs ys nx ny h some =
    let k = length ys - length xs in
    let front = take k ys in
    let back = drop k ys in
    let parts = all_parts _ k ys ny.digits in
    let whole : front ++ back ≡ ys = take-append-drop k ys in
    let n : length front ≡ k = length-take-le k ys (omega arith) in
    let m : length back ≡ length xs = length-drop k ys ∙ omega arith in
    let counts = first_counts front back parts.0 (omega arith) (omega arith) (ap no_leading_zero whole ∙ ny.numeral) in
    let split : positional 10 (number_of 10 front) (map digit_of back) ≡ positional 10 0 (map digit_of xs)
    = sym (positional_append 10 0 (map digit_of front) (map digit_of back)) ∙ ap (positional 10 0) (sym (map-append digit_of front back)) ∙ ap (number_of 10) whole
    ∙ ny.says ∙ sym nx.says in
    let same = same_length 10 (number_of 10 front) 0 (map digit_of back) (map digit_of xs) (values_below 10 back parts.1) (values_below 10 xs nx.digits)
    (length-map back digit_of ∙ m ∙ sym (length-map xs digit_of)) split in
    omega (arith, same.0)

some_digit : (ds : List ℕ) → no_leading_zero ds ≡ true → 0 < length ds
some_digit [] e = absurd (false≢true e)
some_digit (d ∷ ds) e = omega arith

as_long : (v : ℕ) (xs ys : List ℕ) → Numeral decimal v xs → Numeral decimal v ys → length xs ≡ length ys
as_long v xs ys nx ny = go (ltb (length xs) (length ys)) (ltb (length ys) (length xs)) refl refl
  where
    go : (s t : Bool) → ltb (length xs) (length ys) ≡ s → ltb (length ys) (length xs) ≡ t → length xs ≡ length ys
    go true t e f = absurd (longer_differs v xs ys nx ny (ltb-true _ _ e) (some_digit xs nx.numeral))
    go false true e f = absurd (longer_differs v ys xs ny nx (ltb-true _ _ f) (some_digit ys ny.numeral))
    go false false e f = omega (arith, ltb-false (length ys) (length xs) f, ltb-false (length xs) (length ys) e)

-- two numerals that say the same number are the same
pub one_numeral : (notation : Notation) (v : ℕ) (xs ys : List ℕ) → Numeral notation v xs → Numeral notation v ys → xs ≡ ys
one_numeral decimal v xs ys nx ny =
    same_numbers 10 xs ys (omega arith) nx.digits ny.digits (as_long v xs ys nx ny) (nx.says ∙ sym ny.says)
one_numeral seven_hex v xs ys nx ny =
    same_numbers 16 xs ys (omega arith) nx.digits ny.digits (eqb-true _ _ nx.numeral ∙ sym (eqb-true _ _ ny.numeral)) (nx.says ∙ sym ny.says)

-- and `digits_for` writes it
pub digits_of : (notation : Notation) (ds : List ℕ) → AllDigits (base_of notation) ds → is_numeral notation ds ≡ true → number_of (base_of notation) ds < 2 ^ 25
    → digits_for notation (number_of (base_of notation) ds) ≡ ds
digits_of notation ds h e small =
    let v = number_of (base_of notation) ds in
    one_numeral notation v (digits_for notation v) ds (digits_say notation v small) (record { digits = h; numeral = e; says = refl })
