-- For the reader of specs/: a number as it is written in decimal digits is read as that number, zeros in front or not. Carried by what is proved of `digits_for`, the digits of a
-- number.
-- Assumes nothing.
use Prim.Native.Nat.{ℕ, zero, suc, ◌^◌, ◌<◌}
use mathlib.Core.Path.{◌≡◌, refl, ap, ◌∙◌}
use mathlib.Core.Bool.{true, false≢true}
use mathlib.Core.List.{List, [], ◌∷◌, ◌++◌}
use native.Mathlib.Omega.{arith}
use lib.ListN.{length, replicate}
use Rattle.std.specs.Prelude.{Some}
use Rattle.text_rules.specs.Number.{digit_of, number_of, no_leading_zero, digits_for}
use Rattle.text_rules.specs.Number.Notation.{decimal}
use Rattle.text_rules.proofs.Numerals.{AllDigits, Numeral, decimal_says}
use Rattle.script.specs.Numbers.{all_digits, said_in}
use Rattle.script.proofs.Numerals.{said}

all_digits_lem : (ds : List ℕ) → AllDigits 10 ds → all_digits 10 ds ≡ true
all_digits_lem [] h = refl
all_digits_lem (d ∷ ds) h = rw h.0 (all_digits_lem ds h.1)

-- zeros in front change nothing
zeros_tested : (k : ℕ) (ds : List ℕ) → all_digits 10 (replicate k 48 ++ ds) ≡ all_digits 10 ds
unfolding digit_of
zeros_tested zero ds = refl
zeros_tested (suc k) ds = zeros_tested k ds

zeros_valued : (k : ℕ) (ds : List ℕ) → number_of 10 (replicate k 48 ++ ds) ≡ number_of 10 ds
unfolding digit_of
zeros_valued zero ds = refl
zeros_valued (suc k) ds = zeros_valued k ds

zeros_longer : (k : ℕ) (ds : List ℕ) → no_leading_zero ds ≡ true → 0 < length (replicate k 48 ++ ds)
zeros_longer zero [] e = absurd (false≢true e)
zeros_longer zero (d ∷ ds) e = omega arith
zeros_longer (suc k) ds e = omega arith

-- A number below 2^32, in decimal digits behind any number of zeros, is known.
pub decimal_read : (zeros v : ℕ) → v < 2 ^ 32 → said_in 10 (replicate zeros 48 ++ digits_for decimal v) ≡ Some v
decimal_read zeros v h =
    let ds : List ℕ = digits_for decimal v in
    let n : Numeral decimal v ds = decimal_says v in
    let all : List ℕ = replicate zeros 48 ++ ds in
    let value_is : number_of 10 all ≡ v = zeros_valued zeros ds ∙ n.says in
    said 10 all (zeros_longer zeros ds n.numeral) (zeros_tested zeros ds ∙ all_digits_lem ds n.digits) (omega arith)
    ∙ ap (λ (x : ℕ). Some x) value_is
