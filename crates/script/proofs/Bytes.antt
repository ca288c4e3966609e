-- The next place of a byte. Carried by induction over what is left of a text from a place on.
-- Assumes nothing.
use Prim.Native.Nat.{ℕ, ◌+◌, ◌-◌, ◌≤◌, ◌<◌}
use mathlib.Core.Path.{◌≡◌, refl, ap, ◌∙◌}
use mathlib.Core.Bool.{Bool, true, false, cond, not}
use mathlib.Core.List.{List, [], ◌∷◌}
use native.Mathlib.Omega.{arith}
use borrow.Author.Tests.{lt-ltb, le-ltb, ltb-false}
use lib.Dec.{ltb, eqb}
use lib.ListN.{length, take, drop, length-drop}
use lib.Seq.{take_all}
use Rattle.std.specs.Prelude.{Option, Some, None}
use Rattle.std.specs.List.{position_or_len}
use Rattle.std.specs.Option.{unwrap_or}
use Rattle.text_rules.specs.Front.{front_while}
use Rattle.text_rules.proofs.Fronts.{front_fits}
use Rattle.script.specs.Words.{is_other, next_place}

-- ---- the next place of a byte

module _ (byte at : ℕ) (text : List ℕ) where
  -- a place beyond the text
  pub beyond : length text < at → length text ≡ next_place byte at text
  unfolding next_place
  beyond h = simp (lt-ltb (length text) at h)

  from_there : at ≤ length text → next_place byte at text ≡ at + length (front_while (is_other byte) (drop at text))
  unfolding next_place
  from_there h = simp (le-ltb (length text) at h)

-- a search through what is left stops where all others end
counted : (t : Bool) {a : ℕ} (x : ℕ) (l : List ℕ) → a ≡ length l → cond (not t) (1 + a) 0 ≡ length (cond (not t) (x ∷ l) [])
counted true x l e = refl
counted false x l e = omega (arith, e)

place_lem : (byte : ℕ) (l : List ℕ) → position_or_len (λ (b : ℕ). eqb b byte) l ≡ length (front_while (is_other byte) l)
unfolding front_while
place_lem byte [] = refl
place_lem byte (b ∷ l) = counted (eqb b byte) b (front_while (is_other byte) l) (place_lem byte l)

or_end : (i size : ℕ) → i ≤ size → unwrap_or (cond (ltb i size) (Some i) None) size ≡ i
or_end i size h = go (ltb i size) refl
  where
    go : (t : Bool) → ltb i size ≡ t → unwrap_or (cond t (Some i) None) size ≡ i
    go true e = refl
    go false e = omega (arith, ltb-false i size e, h)

-- so the place that it finds is the next one, and the text's end where it finds none
pub found_next : (byte at : ℕ) (text : List ℕ) → at ≤ length text → {o : Option ℕ} {r : ℕ} → (let rest = take (length text - at) (drop at text) in let i = position_or_len (λ (b : ℕ). eqb b byte) rest in
    o ≡ cond (ltb i (length rest)) (Some i) None → r ≡ unwrap_or o (length rest) → at + r ≡ next_place byte at text)
found_next byte at text h {o} {r} e f =
    let rest : List ℕ = take (length text - at) (drop at text) in
    let whole : rest ≡ drop at text = take_all (length text - at) (drop at text) (omega (arith, length-drop at text)) in
    let others : List ℕ = front_while (is_other byte) rest in
    let stops : r ≡ length others = f ∙ ap (λ (o : Option ℕ). unwrap_or o (length rest)) e ∙ or_end _ (length rest) (omega (arith, place_lem byte rest, front_fits (is_other byte) rest)) ∙ place_lem byte rest in
    omega (arith, stops, from_there byte at text h, ap (λ (l : List ℕ). length (front_while (is_other byte) l)) whole)
