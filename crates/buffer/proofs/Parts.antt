-- A buffer is filled from its front on: by a store at the next place, or through the part from the next place on, lent to another writer.
-- Assumes nothing.
use Prim.Native.Nat.{ℕ, suc, ◌+◌, ◌-◌, ◌≤◌, ◌<◌}
use mathlib.Core.Path.{◌≡◌, sym, ap, ◌∙◌}
use mathlib.Core.List.{List, [], ◌∷◌, ◌++◌, append_assoc, append-nil}
use native.Mathlib.Omega.{arith}
use native.Mathlib.Nat.{le_refl}
use borrow.Rule.Slice.PartMut.{mid_of, post_of, put_mid, mid_len}
use lib.ListN.{length, get_or, take, drop, set, length-append, length-drop, drop_of_length-le}
use lib.Seq.{take_at, drop_at, drop-drop, take_all, drop-cons, set_at, append_snoc}
use Rattle.buffer.specs.Front.{at_front, from_start}

module _ {A : Type 0} where
  -- the part from a on to the end, and nothing behind it
  rest_mid : (a : ℕ) (xs : List A) → mid_of a (length xs - a) xs ≡ drop a xs
  rest_mid a xs = take_all (length xs - a) (drop a xs) (omega (arith, length-drop a xs))

  rest_post : (a : ℕ) (xs : List A) → post_of a (length xs - a) xs ≡ []
  rest_post a xs = drop_of_length-le (drop a xs) {i = length xs - a} (omega (arith, length-drop a xs))

  -- what is put at the front of the part from a on stands in the whole from a on
  pub put_from : (a : ℕ) (q xs ys : List A) → ys ≡ at_front q (mid_of a (length xs - a) xs) → put_mid a (length xs - a) xs ys ≡ from_start a q xs
  put_from a q xs ys e =
      let part : ys ≡ at_front q (drop a xs) = e ∙ ap (at_front q) (rest_mid a xs) in
      rw (rest_post a xs, append-nil ys, part)

  -- q put from where p ends stands behind p
  pub then_from : (a : ℕ) (p q old xs : List A) → length p ≡ a → xs ≡ at_front p old → from_start a q xs ≡ at_front (p ++ q) old
  then_from a p q old xs n s =
      let behind : drop a xs ≡ drop a old = ap (drop a) s ∙ drop_at p (drop (length p) old) a n ∙ ap (λ (k : ℕ). drop k old) n in
      let front : take a xs ≡ p = ap (take a) s ∙ take_at p (drop (length p) old) a n in
      let size : length (p ++ q) ≡ a + length q = omega (arith, length-append p q) in
      rw (front, behind, drop-drop (length q) a old, size) (sym (append_assoc p q (drop (a + length q) old)))

  -- q put at the front of the part behind p stands behind p
  pub then_front : (a : ℕ) (p q old xs ys : List A) → length p ≡ a → xs ≡ at_front p old → ys ≡ at_front q (mid_of a (length xs - a) xs)
      → put_mid a (length xs - a) xs ys ≡ at_front (p ++ q) old
  then_front a p q old xs ys n s e = put_from a q xs ys e ∙ then_from a p q old xs n s

  -- an element stored behind what stands at the front
  pub then_stored : (a : ℕ) (b : A) (p old xs : List A) → length p ≡ a → a < length old → xs ≡ at_front p old → set xs a b ≡ at_front (p ++ b ∷ []) old
  then_stored a b p old xs n h e =
      let size : length (p ++ b ∷ []) ≡ suc a = omega (arith, length-append p (b ∷ [])) in
      rw (e, size, n, drop-cons old a b h, append_snoc p b (drop (suc a) old)) (set_at p (get_or old a b) (drop (suc a) old) b a n)

  -- as many elements as there is room for: all of them, where they fit
  pub all_fit : (p old : List A) → length p ≤ length old → at_front (take (length old) p) old ≡ at_front p old
  all_fit p old h = ap (λ (q : List A). at_front q old) (take_all (length old) p h)

  -- in the part from a on
  pub all_fit_from : (a : ℕ) (p xs : List A) {ys : List A} → ys ≡ at_front (take (length (mid_of a (length xs - a) xs)) p) (mid_of a (length xs - a) xs)
      → a + length p ≤ length xs → ys ≡ at_front p (mid_of a (length xs - a) xs)
  all_fit_from a p xs e h = e ∙ all_fit p (mid_of a (length xs - a) xs) (omega (arith, mid_len a (length xs) xs (le_refl (length xs))))

-- a loop that counts up to n has come to its end: what holds at i holds at n
pub at_end : {A : Type 0} (f : ℕ → A) (i n : ℕ) {x : A} → i ≤ n → n ≤ i → x ≡ f i → x ≡ f n
at_end f i n h g e = let same : i ≡ n = omega arith in e ∙ ap f same
