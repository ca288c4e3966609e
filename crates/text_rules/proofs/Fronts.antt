-- What holds of every element of a list, and the front of a text as far as a test holds. Carried by the first byte, which passes the test or ends the front.
-- Assumes nothing.
use Prim.Native.Nat.{ℕ, zero, suc, ◌+◌, ◌≤◌, ◌<◌}
use mathlib.Core.Path.{◌≡◌, refl, sym, ap, subst}
use mathlib.Core.Bool.{Bool, true, false, cond}
use mathlib.Core.List.{List, [], ◌∷◌, ◌++◌}
use native.Mathlib.Omega.{arith}
use native.Mathlib.Nat.{le_refl}
use native.Mathlib.Numerals.{add-one}
use lib.ListN.{length, get_or, take, drop, take-append-drop, drop_of_length-le}
use lib.Seq.{drop-cons}
use Rattle.text_rules.specs.Front.{front_while}

-- ---- every element

abbrev pub All : (ℕ → Type 0) → List ℕ → Type 0
All P [] = Unit {0}
All P (x ∷ xs) = P x × All P xs

-- what follows of each follows of all
pub all_map : {P Q : ℕ → Type 0} → ((b : ℕ) → P b → Q b) → (xs : List ℕ) → All P xs → All Q xs
all_map f [] h = tt
all_map f (x ∷ xs) h = (f x h.0, all_map f xs h.1)

module _ (P : ℕ → Type 0) where
  -- of two lists, one behind the other
  pub all_append : (xs ys : List ℕ) → All P xs → All P ys → All P (xs ++ ys)
  all_append [] ys hx hy = hy
  all_append (x ∷ xs) ys hx hy = (hx.0, all_append xs ys hx.1 hy)

  -- taken apart again
  pub all_apart : (xs ys : List ℕ) → All P (xs ++ ys) → All P xs × All P ys
  all_apart [] ys h = (tt, h)
  all_apart (x ∷ xs) ys h = let rest = all_apart xs ys h.1 in ((h.0, rest.0), rest.1)

  -- cut at a place
  pub all_parts : (n : ℕ) (xs : List ℕ) → All P xs → All P (take n xs) × All P (drop n xs)
  all_parts n xs h = all_apart (take n xs) (drop n xs) (subst (All P) (sym (take-append-drop n xs)) h)

-- ---- the front of a text

module _ (test : ℕ → Bool) where
  -- all of it passes
  pub front_passes : (l : List ℕ) → All (λ (b : ℕ). test b ≡ true) (front_while test l)
  unfolding front_while
  front_passes [] = tt
  front_passes (b ∷ l) = by (test b) refl (front_passes l)
    where
      by : (t : Bool) → test b ≡ t → All (λ (b : ℕ). test b ≡ true) (front_while test l) → All (λ (b : ℕ). test b ≡ true) (cond t (b ∷ front_while test l) [])
      by true e rest = (e, rest)
      by false e rest = tt

  -- it is no longer than the text
  pub front_fits : (l : List ℕ) → length (front_while test l) ≤ length l
  unfolding front_while
  front_fits [] = le_refl 0
  front_fits (b ∷ l) = by (test b) (front_fits l)
    where
      by : (t : Bool) → length (front_while test l) ≤ length l → length (cond t (b ∷ front_while test l) []) ≤ suc (length l)
      by true h = omega arith
      by false h = omega arith

  -- it stands in front of what is behind it
  pub front_stands : (l : List ℕ) → front_while test l ++ drop (length (front_while test l)) l ≡ l
  unfolding front_while
  front_stands [] = refl
  front_stands (b ∷ l) = by (test b) (front_while test l) (front_stands l)
    where
      by : (t : Bool) (m : List ℕ) → m ++ drop (length m) l ≡ l → cond t (b ∷ m) [] ++ drop (length (cond t (b ∷ m) [])) (b ∷ l) ≡ b ∷ l
      by true m e = ap (λ (r : List ℕ). b ∷ r) e
      by false m e = refl

  -- so what holds of all of the text holds of all of it
  pub all_front : (P : ℕ → Type 0) (l : List ℕ) → All P l → All P (front_while test l)
  all_front P l h = (all_apart P (front_while test l) (drop (length (front_while test l)) l) (subst (All P) (sym (front_stands l)) h)).0

  -- bytes that pass, and the front of what follows
  pub front_then : (xs rest : List ℕ) → All (λ (b : ℕ). test b ≡ true) xs → front_while test (xs ++ rest) ≡ xs ++ front_while test rest
  unfolding front_while
  front_then [] rest h = refl
  front_then (x ∷ xs) rest h = rw h.0 (ap (λ (m : List ℕ). x ∷ m) (front_then xs rest h.1))

  -- where the text is cut, so is its front
  pub front_cut : (n : ℕ) (l : List ℕ) → front_while test (take n l) ≡ take n (front_while test l)
  unfolding front_while
  front_cut zero l = refl
  front_cut (suc n) [] = refl
  front_cut (suc n) (b ∷ l) = by (test b) (front_while test (take n l)) (front_while test l) (front_cut n l)
    where
      by : (t : Bool) (k m : List ℕ) → k ≡ take n m → cond t (b ∷ k) [] ≡ take (suc n) (cond t (b ∷ m) [])
      by true k m e = ap (λ (r : List ℕ). b ∷ r) e
      by false k m e = refl

  -- ---- from a place on

  -- at the end of the text there is none
  pub front_at_end : (l : List ℕ) (at : ℕ) → length l ≤ at → front_while test (drop at l) ≡ []
  unfolding front_while
  front_at_end l at h = rw (drop_of_length-le l h)

  module _ (l : List ℕ) (at : ℕ) (h : at < length l) where
    -- nor at a byte that fails
    pub front_ended : test (get_or l at 0) ≡ false → front_while test (drop at l) ≡ []
    unfolding front_while
    front_ended e = rw (drop-cons l at 0 h) (simp e)

    -- a byte that passes, and the front behind it
    pub front_more : test (get_or l at 0) ≡ true → front_while test (drop at l) ≡ get_or l at 0 ∷ front_while test (drop (at + 1) l)
    unfolding front_while
    front_more e = rw (drop-cons l at 0 h, add-one) (simp e)
