-- The texts in parts, and how long they are: the rows of the cycles that are left and END; the word of a line and the digits behind it.
-- Carried by `ran` of crate `unit_rules`: a run makes the cycles that are left.
-- Assumes nothing.
use Rattle.trace_rules.proofs.Shared.{mid_of, put_mid, at_front, then_front, digit, two_digits, newline, row_text, row_size, row_size_lem, Unit}
use Rattle.trace_rules.proofs.Shared.{well_made_says, last_small, ran, shown_of, rows_of, end_text, refused_text, most_cycles, cycles_left, trace_text}
use Rattle.unit_rules.proofs.Shared.{ℕ, zero, suc, ◌+◌, ◌-◌, ◌*◌, ◌%◌, ◌≤◌, ◌<◌, ◌≡◌, refl, ap, ◌∙◌, Bool, true, false, List, [], ◌∷◌, ◌++◌, arith}
use Rattle.unit_rules.proofs.Shared.{lt-ltb, le-ltb, ltb-true, ltb-false, ltb, length, length-append, cycles_of, last_of, well_made_of}
use Rattle.unit_rules.specs.Answers.{Ran}

-- ---- a trace

pub rows_long : (c : ℕ) (u : Unit) → length (rows_of c u) ≡ row_size * c
unfolding rows_of
rows_long zero u = omega arith
rows_long (suc c) u =
    omega (arith, length-append (rows_of c u) (row_text (shown_of (cycles_of c u))), rows_long c u, row_size_lem (shown_of (cycles_of c u)))

end_long : (c : ℕ) → length (end_text c) ≡ 7
unfolding end_text two_digits
end_long c = refl

module _ (u : Unit) (made : well_made_of u ≡ true) (went : u.gone ≡ true) where
  cycles_left_lem : cycles_left u ≡ last_of u.program.n.0 - u.cycle
  cycles_left_lem = ap (λ (r : Ran). r.made) (ran u went (well_made_says u made) most_cycles) ∙ omega (arith, last_small u made)

  pub trace_is : {last : ℕ} → last ≡ last_of u.program.n.0 → rows_of (last - u.cycle) u ++ end_text (last - u.cycle) ≡ trace_text u
  unfolding trace_text
  trace_is e = rw (e, cycles_left_lem)

  pub trace_long : {last : ℕ} → last ≡ last_of u.program.n.0 → length (trace_text u) ≡ row_size * (last - u.cycle) + 7
  trace_long {last} e =
      let c = last - u.cycle in
      rw (← (trace_is e)) (omega (arith, length-append (rows_of c u) (end_text c), rows_long c u, end_long c))

-- ---- the word of a line and the digits behind it

abbrev pub end_word : List ℕ
end_word = 69 ∷ 78 ∷ 68 ∷ 32 ∷ []

-- the digits put behind the word that stands at the front
pub end_put : (c : ℕ) (old : List ℕ) {word digits : List ℕ} → word ≡ at_front end_word old
    → digits ≡ at_front (two_digits c ++ newline) (mid_of 4 (length word - 4) word) → put_mid 4 (length word - 4) word digits ≡ at_front (end_text c) old
unfolding end_text
end_put c old e f = then_front 4 end_word (two_digits c ++ newline) old _ _ refl e f

abbrev pub refused_word : List ℕ
refused_word = 82 ∷ 69 ∷ 70 ∷ 85 ∷ 83 ∷ 69 ∷ 68 ∷ 32 ∷ []

refused_one : (k : ℕ) → k < 10 → refused_word ++ (digit (k % 10) ∷ newline) ≡ refused_text k
unfolding refused_text
refused_one k h = rw (lt-ltb k 10 h)

refused_two : (k : ℕ) → 10 ≤ k → refused_word ++ (two_digits k ++ newline) ≡ refused_text k
unfolding refused_text
refused_two k h = rw (le-ltb k 10 h)

pub refused_one_long : (k : ℕ) → k < 10 → length (refused_text k) ≡ 10
refused_one_long k h = rw (← (refused_one k h))

pub refused_two_long : (k : ℕ) → 10 ≤ k → length (refused_text k) ≡ 11
unfolding two_digits
refused_two_long k h = rw (← (refused_two k h))

pub refused_long : (k : ℕ) → (10 ≤ length (refused_text k)) × (length (refused_text k) ≤ 11)
refused_long k = go (ltb k 10) refl
  where
    go : (t : Bool) → ltb k 10 ≡ t → (10 ≤ length (refused_text k)) × (length (refused_text k) ≤ 11)
    go true q = let size = refused_one_long k (ltb-true k 10 q) in (omega arith, omega arith)
    go false q = let size = refused_two_long k (ltb-false k 10 q) in (omega arith, omega arith)

-- where the text has room its word has, and the digits in the part behind the word
module _ (k n : ℕ) (room : length (refused_text k) ≤ n) {m : ℕ} (same : m ≡ n) where
  pub word_fits : 8 ≤ m
  word_fits = let size = (refused_long k).0 in omega arith

  pub one_fits : {p : ℕ} → p ≡ m - 8 → 2 ≤ p
  one_fits e = let size = (refused_long k).0 in omega arith

  pub two_fits : {p : ℕ} → 10 ≤ k → p ≡ m - 8 → 3 ≤ p
  two_fits h e = let size = refused_two_long k h in omega arith

module _ (k : ℕ) (old : List ℕ) {word digits : List ℕ} (e : word ≡ at_front refused_word old) where
  pub one_put : k < 10 → digits ≡ at_front (digit (k % 10) ∷ newline) (mid_of 8 (length word - 8) word)
      → put_mid 8 (length word - 8) word digits ≡ at_front (refused_text k) old
  one_put h f = rw (← (refused_one k h)) (then_front 8 refused_word (digit (k % 10) ∷ newline) old _ _ refl e f)

  pub two_put : 10 ≤ k → digits ≡ at_front (two_digits k ++ newline) (mid_of 8 (length word - 8) word)
      → put_mid 8 (length word - 8) word digits ≡ at_front (refused_text k) old
  two_put h f = rw (← (refused_two k h)) (then_front 8 refused_word (two_digits k ++ newline) old _ _ refl e f)
