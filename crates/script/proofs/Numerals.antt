-- A number, a digit at a time. Carried by the digits that are left: behind the value so far they say what all digits say, and no less than that value.
-- Assumes nothing.
use Prim.Native.Nat.{ℕ, ◌+◌, ◌*◌, ◌^◌, ◌≤◌, ◌<◌}
use mathlib.Core.Path.{◌≡◌, refl, sym, ap, ◌∙◌}
use mathlib.Core.Bool.{true, false, and-false}
use mathlib.Core.List.{List, [], ◌∷◌, map}
use native.Mathlib.Nat.{mul-le-mul}
use native.Mathlib.Numerals.{add-one}
use native.Mathlib.Omega.{arith}
use borrow.Author.Tests.{lt-ltb, le-ltb}
use lib.ListN.{length, get_or, drop, drop_of_length-le}
use lib.Seq.{drop-cons}
use Rattle.text_rules.specs.Number.{digit_of, positional, number_of}
use Rattle.text_rules.proofs.Positional.{at_least}
use Rattle.std.specs.Prelude.{Some, None}
use Rattle.script.specs.Numbers.{all_digits, said_in}

-- ---- what digits say, by the tests

module _ (base : ℕ) (l : List ℕ) where
  -- none at all
  pub none_said : length l ≡ 0 → said_in base l ≡ None
  unfolding said_in
  none_said e = simp (le-ltb 0 (length l) (omega arith))

  not_digits : all_digits base l ≡ false → said_in base l ≡ None
  unfolding said_in
  not_digits e = simp (e, and-false)

  above_limit : 2 ^ 32 ≤ number_of base l → said_in base l ≡ None
  unfolding said_in
  above_limit h = simp (le-ltb (number_of base l) (2 ^ 32) h, and-false)

  pub said : 0 < length l → all_digits base l ≡ true → number_of base l < 2 ^ 32 → said_in base l ≡ Some (number_of base l)
  unfolding said_in
  said some e h = simp (lt-ltb 0 (length l) some, e, lt-ltb (number_of base l) (2 ^ 32) h)

-- ---- the digits up to a place

pub record SaidSoFar (base : ℕ) (l : List ℕ) (value i : ℕ) : Type 0 where
  pub within : i ≤ length l
  pub small : value < 2 ^ 32
  pub test_left : all_digits base (drop i l) ≡ all_digits base l
  pub value_left : positional base value (map digit_of (drop i l)) ≡ number_of base l

-- before the first of them
pub none_so_far : (base : ℕ) (l : List ℕ) → SaidSoFar base l 0 0
none_so_far base l = record { within = omega arith; small = omega arith; test_left = refl; value_left = refl }

module _ {base : ℕ} {l : List ℕ} {value i : ℕ} (so_far : SaidSoFar base l value i) where
  -- behind the last of them
  pub all_said : length l ≤ i → 0 < i → Some value ≡ said_in base l
  all_said h some =
      let none : drop i l ≡ [] = drop_of_length-le l h in
      let value_is : value ≡ number_of base l = sym (ap (λ (m : List ℕ). positional base value (map digit_of m)) none) ∙ so_far.value_left in
      rw value_is
      (sym (said base l (omega (arith, so_far.within)) (sym so_far.test_left ∙ ap (all_digits base) none) (omega (arith, so_far.small))))

  -- there is room for a digit more
  pub times_base : base ≤ 16 → base * value ≤ 16 * 2 ^ 32
  times_base h = let most : value ≤ 2 ^ 32 = omega (arith, so_far.small) in mul-le-mul h most

  module _ (more : i < length l) {d : ℕ} (digit-is : d ≡ digit_of (get_or l i 0)) where
    apart : drop i l ≡ get_or l i 0 ∷ drop (i + 1) l
    apart = rw add-one (drop-cons l i 0 more)

    tested : all_digits base l ≡ all_digits base (get_or l i 0 ∷ drop (i + 1) l)
    tested = sym so_far.test_left ∙ ap (all_digits base) apart

    -- a byte that is no digit of the base
    pub no_digit : base ≤ d → None ≡ said_in base l
    no_digit h = sym (not_digits base l (tested ∙ simp (← digit-is, le-ltb d base h)))

    valued : positional base (base * value + d) (map digit_of (drop (i + 1) l)) ≡ number_of base l
    valued = rw digit-is (sym (ap (λ (m : List ℕ). positional base value (map digit_of m)) apart) ∙ so_far.value_left)

    -- a value that is too large, whatever digits follow
    pub too_large : 0 < base → 2 ^ 32 ≤ base * value + d → None ≡ said_in base l
    too_large some h =
        sym (above_limit base l (omega (arith, valued, at_least base (base * value + d) (map digit_of (drop (i + 1) l)) some)))

    -- one digit more
    pub digit_more : d < base → base * value + d < 2 ^ 32 → SaidSoFar base l (base * value + d) (i + 1)
    digit_more h small = record {
      within = omega arith;
      small = small;
      test_left = sym (tested ∙ simp (← digit-is, lt-ltb d base h));
      value_left = valued;
    }
