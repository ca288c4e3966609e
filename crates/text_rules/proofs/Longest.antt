-- A line has at most 19 bytes, and so a listing at most 1,216. Carried by the table's longest lines: a smaller number has no more digits.
-- Assumes nothing.
use Prim.Native.Nat.{ℕ, zero, suc, ◌+◌, ◌-◌, ◌*◌, ◌/◌, ◌^◌, ◌≤◌, ◌<◌}
use mathlib.Core.Path.{◌≡◌, refl, ap}
use mathlib.Core.Bool.{Bool, true, false, cond}
use mathlib.Core.List.{List, [], ◌∷◌, flat_map}
use native.Mathlib.Omega.{arith}
use native.Mathlib.Nat.{le_refl}
use borrow.Author.Tests.{ltb-true, ltb-false}
use lib.Dec.{ltb}
use lib.ListN.{length, length-append}
use Rattle.text_rules.specs.Forms.{Operand, form_at}
use Rattle.text_rules.specs.Line.{Line, line_of}
use Rattle.text_rules.specs.Number.{Notation, decimal_in, digits_for}
use Rattle.text_rules.specs.Number.Notation.{decimal, seven_hex}
use Rattle.text_rules.specs.Listing.{numbers_text, line_text, numbers_in, row_giving, line_of_word, listing_of, longest_listing}
use Rattle.text_rules.proofs.Written.{Below}
use Rattle.text_rules.proofs.Rows.{most_bytes, sound}
use Rattle.text_rules.proofs.Positional.{AllBelow}
use Rattle.text_rules.proofs.Giving.{numbers_below, row_there}
use Rattle.text_rules.proofs.Stated.{line_size, accepted_line_lem}

digits_of : (most v : ℕ) → length (decimal_in (suc most) v) ≡ length (cond (ltb v 10) [] (decimal_in most (v / 10))) + 1
unfolding decimal_in
digits_of most v = length-append (cond (ltb v 10) [] (decimal_in most (v / 10))) _

-- a smaller number has no more digits
no_more_digits : (most room v w : ℕ) → v ≤ w → w < room → length (decimal_in most v) ≤ length (decimal_in room w)
unfolding decimal_in
no_more_digits zero room v w h r = omega arith
no_more_digits (suc most) zero v w h r = absurd (omega arith)
no_more_digits (suc most) (suc room) v w h r =
    let front = by (ltb v 10) (ltb w 10) refl refl (λ some. no_more_digits most room (v / 10) (w / 10) (omega arith) (omega arith)) in
    omega (arith, front, digits_of most v, digits_of room w)
  where
    by : (s t : Bool) → ltb v 10 ≡ s → ltb w 10 ≡ t → (10 ≤ w → length (decimal_in most (v / 10)) ≤ length (decimal_in room (w / 10)))
        → length (cond s [] (decimal_in most (v / 10))) ≤ length (cond t [] (decimal_in room (w / 10)))
    by true t e f rest = omega arith
    by false true e f rest = let some = ltb-false v 10 e in let few = ltb-true w 10 f in absurd (omega arith)
    by false false e f rest = rest (ltb-false w 10 f)

as_many_or_fewer : (notation : Notation) (v w : ℕ) → v ≤ w → length (digits_for notation v) ≤ length (digits_for notation w)
as_many_or_fewer decimal v w h = no_more_digits (suc v) (suc w) v w h (omega arith)
as_many_or_fewer seven_hex v w h = le_refl 7

numbers_longest : (notation : Notation) (os : List Operand) (vs : List ℕ) → Below os vs → length (numbers_text notation vs) ≤ most_bytes notation os
unfolding flat_map
numbers_longest notation [] [] h = le_refl 0
numbers_longest notation [] (v ∷ vs) h = absurd h
numbers_longest notation (o ∷ os) [] h = absurd h
numbers_longest notation (o ∷ os) (v ∷ vs) h =
    let less : v < o.limit = h.0 in
    let digits = as_many_or_fewer notation v (o.limit - 1) (omega arith) in
    omega (arith, digits, numbers_longest notation os vs h.1, length-append (digits_for notation v) (numbers_text notation vs))

-- a line as it is written has at most 19 bytes
pub longest_written : (row : ℕ) (vs : List ℕ) → row < 26 → Below (form_at row).operands vs → length (line_text (form_at row) vs) ≤ 19
longest_written row vs h below =
    omega (arith, line_size (form_at row) vs, numbers_longest (form_at row).notation (form_at row).operands vs below, (sound row h).bytes)

-- and so has one that is accepted
pub longest_line : (l : List ℕ) → (line_of l).refusal ≡ 0 → (line_of l).size ≤ 19
longest_line l e =
    let s = accepted_line_lem l e in
    omega (arith, ap (λ (x : Line). x.size) s.answer, longest_written s.row s.numbers s.a_row s.below)

-- ---- listings

-- a line that is written for a word has at most 19 bytes
pub longest_of_word : (w : ℕ) → w < 2 ^ 25 → length (line_of_word w) ≤ 19
unfolding line_of_word
longest_of_word w h = let row = row_giving w in longest_written row (numbers_in w (form_at row)) (row_there w h) (numbers_below w row (row_there w h))

-- and so a listing of at most 64 has at most 1,216
longest_lines : (ws : List ℕ) → AllBelow (2 ^ 25) ws → length (listing_of ws) ≤ 19 * length ws
unfolding listing_of flat_map
longest_lines [] h = le_refl 0
longest_lines (w ∷ ws) h = omega (arith, longest_of_word w h.0, longest_lines ws h.1, length-append (line_of_word w) (listing_of ws))

pub longest_program : (ws : List ℕ) → length ws ≤ 64 → AllBelow (2 ^ 25) ws → length (listing_of ws) ≤ longest_listing
longest_program ws few h = omega (arith, longest_lines ws h)
