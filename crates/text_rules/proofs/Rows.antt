-- What holds of each row of the table of forms. Carried by one test that is computed over all of its rows, and by a law that brings it to each.
-- Assumes nothing.
use Prim.Native.Nat.{ℕ, zero, suc, ◌+◌, ◌*◌, ◌-◌, ◌^◌, ◌≤◌, ◌<◌}
use mathlib.Core.Path.{◌≡◌, refl, sym, ap, ◌∙◌}
use mathlib.Core.Bool.{Bool, true, false, cond, ◌&&◌, true≢false, and-eq-true_iff}
use mathlib.Core.List.{List, [], ◌∷◌}
use native.Mathlib.Omega.{arith}
use native.Mathlib.Nat.{le_of_suc-le-suc, zero-lt-suc, not-suc-le-zero, le_trans}
use borrow.Author.Tests.{ltb-true, leb-true, eqb-true, eq-eqb}
use lib.Dec.{ltb, leb, eqb, lit≤}
use lib.ListN.{length, get_or}
use Rattle.text_rules.specs.Number.{Notation, decimal_in, digits_for}
use Rattle.text_rules.specs.Number.Notation.{decimal, seven_hex}
use Rattle.text_rules.specs.Forms.{Operand, Form, every_form, first_row, form_at, same_bytes, row_named}
use Rattle.text_rules.specs.Line.{in_name}
use Rattle.text_rules.proofs.Fronts.{All}

-- ---- tests on a whole list

-- both of two tests hold
pub both : (s t : Bool) → (s && t) ≡ true → (s ≡ true) × (t ≡ true)
both s t e = (and-eq-true_iff s t).0 e

-- a test holds of each element of a list
abbrev pub every : {A : Type 0} → (A → Bool) → List A → Bool
every test [] = true
every test (x ∷ xs) = test x && every test xs

-- so of all of its numbers, said as a fact
pub every_all : (test : ℕ → Bool) (xs : List ℕ) → every test xs ≡ true → All (λ (b : ℕ). test b ≡ true) xs
every_all test [] e = tt
every_all test (x ∷ xs) e = let two = both (test x) (every test xs) e in (two.0, every_all test xs two.1)

-- and of the one at any place
pub at_place : {A : Type 0} (test : A → Bool) (xs : List A) (d : A) → every test xs ≡ true → (k : ℕ) → k < length xs → test (get_or xs k d) ≡ true
at_place test [] d e k h = absurd (not-suc-le-zero h)
at_place test (x ∷ xs) d e zero h = (both (test x) (every test xs) e).0
at_place test (x ∷ xs) d e (suc k) h = at_place test xs d (both (test x) (every test xs) e).1 k (le_of_suc-le-suc h)

-- ---- two functions whose values below a limit are computed, and are the same there

abbrev values : {A : Type 0} → ℕ → (ℕ → A) → List A
values zero f = []
values (suc n) f = f 0 ∷ values n (λ k. f (suc k))

value_at : {A : Type 0} (n : ℕ) (f : ℕ → A) (d : A) (k : ℕ) → k < n → get_or (values n f) k d ≡ f k
value_at zero f d k h = absurd (not-suc-le-zero h)
value_at (suc n) f d zero h = refl
value_at (suc n) f d (suc k) h = value_at n (λ j. f (suc j)) d k (le_of_suc-le-suc h)

pub agree : {A : Type 0} (n : ℕ) (f g : ℕ → A) → values n f ≡ values n g → (k : ℕ) → k < n → f k ≡ g k
agree {A} n f g e k h = sym (value_at n f (f 0) k h) ∙ ap (λ (l : List A). get_or l k (f 0)) e ∙ value_at n g (f 0) k h

-- ---- the first row that passes a test

pub first_passes : (test : Form → Bool) (fs : List Form) (d : Form) → first_row test fs < length fs → test (get_or fs (first_row test fs) d) ≡ true
unfolding first_row
first_passes test [] d h = absurd (not-suc-le-zero h)
first_passes test (f ∷ fs) d h = by (test f) refl h (λ less. first_passes test fs d less)
  where
    by : (t : Bool) → test f ≡ t → cond t 0 (suc (first_row test fs)) < suc (length fs)
        → (first_row test fs < length fs → test (get_or fs (first_row test fs) d) ≡ true)
        → test (get_or (f ∷ fs) (cond t 0 (suc (first_row test fs))) d) ≡ true
    by true e h rest = e
    by false e h rest = rest (le_of_suc-le-suc h)

pub first_is : (test : Form → Bool) (fs : List Form) (d : Form) (row : ℕ) → row < length fs → test (get_or fs row d) ≡ true
    → ((k : ℕ) → k < row → test (get_or fs k d) ≡ false) → first_row test fs ≡ row
unfolding first_row
first_is test [] d row h e earlier = absurd (not-suc-le-zero h)
first_is test (f ∷ fs) d zero h e earlier = rw e
first_is test (f ∷ fs) d (suc row) h e earlier =
    rw (earlier 0 (zero-lt-suc row)) (ap suc (first_is test fs d row (le_of_suc-le-suc h) e (λ k less. earlier (suc k) (omega arith))))

-- ---- names

pub same_bytes_lem : (x y : List ℕ) → same_bytes x y ≡ true → x ≡ y
same_bytes_lem [] [] e = refl
same_bytes_lem [] (b ∷ y) e = absurd (true≢false (sym e))
same_bytes_lem (a ∷ x) [] e = absurd (true≢false (sym e))
same_bytes_lem (a ∷ x) (b ∷ y) e =
    let s = both (eqb a b) (same_bytes x y) e in
    λ i. eqb-true a b s.0 i ∷ same_bytes_lem x y s.1 i

pub same_as_itself : (x : List ℕ) → same_bytes x x ≡ true
same_as_itself [] = refl
same_as_itself (a ∷ x) = rw (eq-eqb a a refl) (same_as_itself x)

-- ---- operands

-- what the operands can add to a word
abbrev pub most : List Operand → ℕ
most [] = 0
most (o ∷ os) = (o.limit - 1) * 2 ^ o.place + most os

-- the most bytes that they take: for each a space and the digits of the largest number
abbrev pub most_bytes : Notation → List Operand → ℕ
most_bytes notation [] = 0
most_bytes notation (o ∷ os) = 1 + length (digits_for notation (o.limit - 1)) + most_bytes notation os

-- no limit is larger
abbrev pub largest_limit : Notation → ℕ
largest_limit decimal = 65536
largest_limit seven_hex = 2 ^ 25

abbrev pub has_limit : Notation → Operand → Bool
has_limit notation o = ltb 0 o.limit && leb o.limit (largest_limit notation)

pub has_limit_lem : (notation : Notation) (o : Operand) → has_limit notation o ≡ true → (0 < o.limit) × (o.limit ≤ largest_limit notation)
has_limit_lem notation o e =
    let tests = both (ltb 0 o.limit) (leb o.limit (largest_limit notation)) e in
    (ltb-true 0 o.limit tests.0, leb-true o.limit (largest_limit notation) tests.1)

pub largest_small : (notation : Notation) → largest_limit notation ≤ 2 ^ 25
largest_small decimal = lit≤ tt
largest_small seven_hex = lit≤ tt

pub limit_small : (notation : Notation) (o : Operand) → has_limit notation o ≡ true → o.limit ≤ 2 ^ 25
limit_small notation o e = le_trans (has_limit_lem notation o e).1 (largest_small notation)

-- the limit of each of them
pub each_limit : (notation : Notation) (os : List Operand) → every (has_limit notation) os ≡ true → (k : ℕ) → k < length os → (d : Operand)
    → (0 < (get_or os k d).limit) × ((get_or os k d).limit ≤ largest_limit notation)
each_limit notation os e k h d = has_limit_lem notation (get_or os k d) (at_place (has_limit notation) os d e k h)

-- ---- each row

pub record Sound (f : Form) : Type 0 where
  -- its name has at most six bytes, and none of them ends it
  pub short : length f.name ≤ 6
  pub named : every in_name f.name ≡ true
  -- it has at most four operands, and each has a limit
  pub few : length f.operands ≤ 4
  pub limits : every (has_limit f.notation) f.operands ≡ true
  -- its words are below 2^25, and its lines have at most 19 bytes
  pub room : f.word + most f.operands < 2 ^ 25
  pub bytes : length f.name + most_bytes f.notation f.operands + 1 ≤ 19

abbrev at_most : (Form → ℕ) → ℕ → Form → Bool
at_most of limit f = leb (of f) limit

module _ (row : ℕ) (h : row < length every_form) where
  at_row : (test : Form → Bool) → every test every_form ≡ true → test (form_at row) ≡ true
  at_row test e = at_place test every_form (form_at (length every_form)) e row h

  at_most_lem : (of : Form → ℕ) (limit : ℕ) → every (at_most of limit) every_form ≡ true → of (form_at row) ≤ limit
  at_most_lem of limit e = leb-true (of (form_at row)) limit (at_row (at_most of limit) e)

  pub sound : Sound (form_at row)
  unfolding decimal_in
  sound = record {
    short = at_most_lem (λ f. length f.name) 6 refl;
    named = at_row (λ f. every in_name f.name) refl;
    few = at_most_lem (λ f. length f.operands) 4 refl;
    limits = at_row (λ f. every (has_limit f.notation) f.operands) refl;
    room = at_most_lem (λ f. suc (f.word + most f.operands)) (2 ^ 25) refl;
    bytes = at_most_lem (λ f. length f.name + most_bytes f.notation f.operands + 1) 19 refl;
  }

-- every name is that of its own row, and no earlier one has it
pub own_row : (row : ℕ) → row < length every_form → row_named (form_at row).name ≡ row
unfolding first_row
own_row = agree 26 (λ (row : ℕ). row_named (form_at row).name) (λ (row : ℕ). row) refl
