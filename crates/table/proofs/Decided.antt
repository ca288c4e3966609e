-- Decisions by tests in an order: a test that holds stops, and one that does not is passed. Carried by the one test in front.
-- Assumes nothing.
use Prim.Native.Nat.{ℕ}
use mathlib.Core.Path.{◌≡◌, refl, sym, subst, ◌∙◌}
use mathlib.Core.Bool.{Bool, true, false, cond, not, ◌||◌, true≢false}
use mathlib.Core.List.{List, [], ◌∷◌}
use lib.Dec.{eqb}
use borrow.Author.Tests.{lt-ltb, le-ltb, le-leb, lt-leb, eq-eqb, ne_eqb, eqb-false}
use Rattle.table.specs.Decided.{decided}

module _ {A : Type 0} (tests : List (Bool × A)) (o : A) where
  -- a test that holds stops
  pub stops : {t : Bool} {x : A} → t ≡ true → x ≡ decided ((t, x) ∷ tests) o
  unfolding decided
  stops e = rw e

  -- one that does not is passed
  pub passes : {t : Bool} (x : A) {v : A} → t ≡ false → v ≡ decided tests o → v ≡ decided ((t, x) ∷ tests) o
  unfolding decided
  passes x e rest = rw e rest

  -- a decision taken apart from its front
  pub apart : (P : A → Type 0) (t : Bool) (x : A) → (t ≡ true → P x) → (t ≡ false → P (decided tests o)) → P (decided ((t, x) ∷ tests) o)
  apart P t x holds isnt = go t refl
    where
      go : (s : Bool) → t ≡ s → P (decided ((t, x) ∷ tests) o)
      go true e = subst P (stops e) (holds e)
      go false e = subst P (passes x e refl) (isnt e)

-- behind the last one
pub ends : {A : Type 0} {o : A} → o ≡ decided [] o
unfolding decided
ends = refl

-- ---- whichever answer it is

-- what holds of each test's answer
abbrev pub Each : {A : Type 0} → (A → Type 0) → List (Bool × A) → Type 0
Each P [] = Unit
Each P (test ∷ tests) = P test.1 × Each P tests

-- and of the last one holds of the decision
pub each : {A : Type 0} (P : A → Type 0) (tests : List (Bool × A)) (o : A) → Each P tests → P o → P (decided tests o)
each P [] o all last = subst P ends last
each P (test ∷ tests) o all last = apart tests o P test.0 test.1 (λ _. all.0) (λ _. each P tests o all.1 last)

-- ---- where no test refused

-- all of them were passed
abbrev pub Passed : {A : Type 0} → List (Bool × A) → Type 0
Passed [] = Unit
Passed (test ∷ tests) = (test.0 ≡ false) × Passed tests

-- the answers of all of them are refusals
abbrev pub refusing : {A : Type 0} → (A → ℕ) → List (Bool × A) → Bool
refusing number [] = true
refusing number (test ∷ tests) = cond (eqb (number test.1) 0) false (refusing number tests)

both : (t b : Bool) → cond t false b ≡ true → (t ≡ false) × (b ≡ true)
both true b e = absurd (true≢false (sym e))
both false b e = (refl, e)

pub none_refused : {A : Type 0} (tests : List (Bool × A)) (o : A) (number : A → ℕ) → refusing number tests ≡ true
    → number (decided tests o) ≡ 0 → Passed tests
none_refused [] o number r e = tt
none_refused {A} (test ∷ tests) o number r e =
    let s = both (eqb (number test.1) 0) (refusing number tests) r in
    apart tests o (λ (x : A). number x ≡ 0 → Passed (test ∷ tests)) test.0 test.1
    (λ _ e. absurd (eqb-false (number test.1) 0 s.0 e)) (λ isnt e. (isnt, none_refused tests o number s.1 e)) e

-- ---- tests that are put together

pub denied : {t : Bool} → t ≡ false → not t ≡ true
denied e = rw e

pub not_denied : {t : Bool} → t ≡ true → not t ≡ false
not_denied e = rw e

pub the_first : {a : Bool} (b : Bool) → a ≡ true → (a || b) ≡ true
the_first b e = rw e

pub the_second : (a : Bool) {b : Bool} → b ≡ true → (a || b) ≡ true
the_second true e = refl
the_second false e = e

pub neither : {a b : Bool} → a ≡ false → b ≡ false → (a || b) ≡ false
neither e f = rw (e, f)

-- and taken apart
pub neither_held : (a b : Bool) → (a || b) ≡ false → (a ≡ false) × (b ≡ false)
neither_held true b e = absurd (true≢false e)
neither_held false b e = (refl, e)

pub none_held : (a b c : Bool) → (a || b || c) ≡ false → (a ≡ false) × (b ≡ false) × (c ≡ false)
none_held a b c e = let s = neither_held (a || b) c e in let t = neither_held a b s.0 in (t.0, t.1, s.1)

-- a test that a function answered, as it came out
pub came_true : {t b : Bool} → t ≡ b → t ≡ true → b ≡ true
came_true e h = sym e ∙ h

pub came_false : {t b : Bool} → t ≡ b → t ≡ false → b ≡ false
came_false e h = sym e ∙ h

-- for `search deciding depth 12`: the laws, and each test from what is known of its numbers
pub ruleset deciding = (stops, passes, ends, lt-ltb, le-ltb, le-leb, lt-leb, eq-eqb, ne_eqb, denied, not_denied, the_first, the_second, neither, came_true, came_false)
