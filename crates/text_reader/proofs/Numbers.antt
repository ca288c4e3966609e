-- The number in front of a text, a digit at a time, in digits of either base. Carried by the laws of fronts, and by `at_least`: where a number reaches its limit early, more
-- digits bring it no lower.
-- Assumes nothing.
use Prim.Native.Nat.{ℕ, ◌+◌, ◌*◌, ◌-◌, ◌^◌, ◌≤◌, ◌<◌}
use mathlib.Core.Path.{◌≡◌, refl, sym, ap, subst, ◌∙◌}
use mathlib.Core.Bool.{Bool, true, false, cond, and-false}
use mathlib.Core.List.{List, [], ◌∷◌, map}
use native.Mathlib.Nat.{mul-le-mul}
use native.Mathlib.Omega.{arith}
use borrow.Author.Tests.{lt-ltb, le-ltb}
use lib.Dec.{ltb, lit≤}
use lib.ListN.{length, get_or, take, drop}
use Rattle.std.specs.Prelude.{Some, None}
use Rattle.text_rules.specs.Front.{front_while}
use Rattle.text_rules.specs.Number.{Notation, base_of, digit_of, is_digit, digits_in, positional, number_of, is_numeral, says_below}
use Rattle.text_rules.specs.Number.Notation.{decimal, seven_hex}
use Rattle.text_rules.proofs.Fronts.{front_ended, front_more}
use Rattle.text_rules.proofs.Positional.{at_least}
use Rattle.text_reader.specs.Front.{notation_of, DigitsRead, number_at}

-- ---- the base

-- that of a notation tells which it is
pub notation_of_lem : (notation : Notation) → notation_of (base_of notation) ≡ notation
notation_of_lem decimal = refl
notation_of_lem seven_hex = refl

base_bounds : (notation : Notation) → (1 ≤ base_of notation) × (base_of notation ≤ 16)
base_bounds decimal = (lit≤ tt, lit≤ tt)
base_bounds seven_hex = (lit≤ tt, lit≤ tt)

-- ---- so many digits in front of a text

front_taken : (test : ℕ → Bool) (l : List ℕ) → take (length (front_while test l)) l ≡ front_while test l
unfolding front_while
front_taken test [] = refl
front_taken test (b ∷ l) = by (test b) (front_while test l) (front_taken test l)
  where
    by : (t : Bool) (m : List ℕ) → take (length m) l ≡ m → take (length (cond t (b ∷ m) [])) (b ∷ l) ≡ cond t (b ∷ m) []
    by true m e = ap (λ (r : List ℕ). b ∷ r) e
    by false m e = refl

module _ {base : ℕ} {text : List ℕ} {value size : ℕ} (read : DigitsRead base text value size) where
  pub digits_are : take size text ≡ digits_in base text
  digits_are = rw read.size (front_taken (is_digit base) text)

-- ---- what digits say of a limit

module _ (notation : Notation) (limit : ℕ) (ds : List ℕ) where
  too_large : limit ≤ number_of (base_of notation) ds → says_below notation limit ds ≡ false
  unfolding says_below
  too_large h = simp (le-ltb (number_of (base_of notation) ds) limit h, and-false)

  not_numeral : is_numeral notation ds ≡ false → says_below notation limit ds ≡ false
  unfolding says_below
  not_numeral e = simp e

  said : is_numeral notation ds ≡ true → number_of (base_of notation) ds < limit → says_below notation limit ds ≡ true
  unfolding says_below
  said e h = simp (e, lt-ltb (number_of (base_of notation) ds) limit h)

module _ (notation : Notation) (limit at : ℕ) (text : List ℕ) where
  abbrev digits : List ℕ
  digits = digits_in (base_of notation) (drop at text)

  refuses : says_below notation limit digits ≡ false → None ≡ number_at notation limit at text
  unfolding number_at
  refuses e = rw e refl

  accepts : says_below notation limit digits ≡ true → Some (record { value = number_of (base_of notation) digits; end = at + length digits }) ≡ number_at notation limit at text
  unfolding number_at
  accepts e = rw e refl

-- ---- a value and an end so far, with the digits from the end on

pub record NumberSoFar (base : ℕ) (text : List ℕ) (at value end : ℕ) : Type 0 where
  pub value_of : positional base value (map digit_of (digits_in base (drop end text))) ≡ number_of base (digits_in base (drop at text))
  pub size_of : end + length (digits_in base (drop end text)) ≡ at + length (digits_in base (drop at text))

module _ {base : ℕ} {text : List ℕ} {at value end : ℕ} (so_far : NumberSoFar base text at value end) where
  -- one digit more
  module _ (more : end < length text) {d : ℕ} (digit-is : d ≡ digit_of (get_or text end 0)) where
    pub number_more : d < base → NumberSoFar base text at (base * value + d) (end + 1)
    number_more h =
        let left = front_more (is_digit base) text end more (ap (λ (n : ℕ). ltb n base) (sym digit-is) ∙ lt-ltb d base h) in
        record {
          value_of = rw digit-is (sym (ap (λ (ds : List ℕ). positional base value (map digit_of ds)) left) ∙ so_far.value_of);
          size_of = omega (arith, so_far.size_of, ap length left);
        }

    -- a byte that is no digit
    pub number_ended : base ≤ d → digits_in base (drop end text) ≡ []
    number_ended h = front_ended (is_digit base) text end more (ap (λ (n : ℕ). ltb n base) (sym digit-is) ∙ le-ltb d base h)

  -- where no digit is left, all are read
  pub all_read : digits_in base (drop end text) ≡ [] → DigitsRead base (drop at text) value (end - at)
  all_read all = record {
    value = sym (ap (λ (ds : List ℕ). positional base value (map digit_of ds)) all) ∙ so_far.value_of;
    size = omega (arith, so_far.size_of, ap length all);
  }

-- a value that is not below the limit, whatever digits follow
pub reaches_limit : (notation : Notation) {base : ℕ} {text : List ℕ} {at value end : ℕ} → base ≡ base_of notation → NumberSoFar base text at value end
    → (limit : ℕ) → limit ≤ value → None ≡ number_at notation limit at text
reaches_limit notation {base} {text} {at} {value} {end} is so_far limit h =
    let there : NumberSoFar (base_of notation) text at value end = subst (λ (b : ℕ). NumberSoFar b text at value end) is so_far in
    let left : List ℕ = map digit_of (digits_in (base_of notation) (drop end text)) in
    refuses notation limit at text (too_large notation limit _ (omega (arith, there.value_of, at_least (base_of notation) value left (base_bounds notation).0)))

-- one that is below it has room for a digit more
pub times_base : {base limit : ℕ} (value : ℕ) → base ≤ 16 → limit ≤ 2 ^ 25 → value < limit → base * value ≤ 16 * 2 ^ 25
times_base value most small h = let less : value ≤ 2 ^ 25 = omega arith in mul-le-mul most less

-- ---- all digits, judged by the number that they make

module _ (text : List ℕ) (at end value limit : ℕ) (notation : Notation) {base : ℕ} (h : at ≤ end) (is : base ≡ base_of notation)
    (all : DigitsRead base (drop at text) value (end - at)) where
  all_there : DigitsRead (base_of notation) (drop at text) value (end - at)
  all_there = subst (λ (b : ℕ). DigitsRead b (drop at text) value (end - at)) is all

  -- a number that is not below the limit
  pub above_limit : limit ≤ value → None ≡ number_at notation limit at text
  above_limit k = refuses notation limit at text (too_large notation limit _ (omega (arith, all_there.value)))

  module _ {t : Bool} (test : t ≡ is_numeral notation (take (end - at) (drop at text))) where
    tested : is_numeral notation (digits_in (base_of notation) (drop at text)) ≡ t
    tested = sym (test ∙ ap (is_numeral notation) (digits_are all_there))

    -- no numeral
    pub no_number : t ≡ false → None ≡ number_at notation limit at text
    no_number off = refuses notation limit at text (not_numeral notation limit _ (tested ∙ off))

    -- a numeral
    pub number_read : t ≡ true → value < limit → Some (record { value = value; end = end }) ≡ number_at notation limit at text
    number_read on k =
        let end_is : end ≡ at + length (digits_in (base_of notation) (drop at text)) = omega (arith, h, all_there.size) in
        (λ i. Some (record { value = all_there.value i; end = end_is i }))
        ∙ accepts notation limit at text (said notation limit _ (tested ∙ on) (omega (arith, all_there.value)))
