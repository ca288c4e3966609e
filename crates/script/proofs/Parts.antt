-- For the loops that take a text apart: what stands behind a line or a word is shorter than what they stand in. Carried by the test of `apart_at`.
-- Assumes nothing.
use Prim.Native.Nat.{ℕ, ◌+◌, ◌<◌}
use mathlib.Core.Path.{◌≡◌, ◌∙◌, refl, sym, ap, subst}
use mathlib.Core.Bool.{Bool, true, false, cond}
use mathlib.Core.List.{List}
use native.Mathlib.Omega.{arith}
use borrow.Author.Tests.{ltb-true}
use lib.Dec.{ltb}
use lib.ListN.{length, drop, length-drop}
use Rattle.std.specs.Prelude.{Option, Some, None, IfSome, option_map}
use Rattle.script.specs.Words.{apart_at}

part_shorter : (end : ℕ) (text : List ℕ) → IfSome (apart_at end text).1 (λ rest. length rest < length text)
part_shorter end text = go (ltb end (length text)) refl
  where
    go : (t : Bool) → ltb end (length text) ≡ t → IfSome (cond t (Some (drop (end + 1) text)) None) (λ rest. length rest < length text)
    go true e = omega (arith, ltb-true end (length text) e, length-drop (end + 1) text)
    go false e = tt

-- The same of what a function hands out, where `now` says what that is.
pub behind_shorter : {X : Type 0} (now : X → List ℕ) (end : ℕ) (text : List ℕ) {front : List ℕ} {parts : Option X} {rest : X} → parts ≡ Some rest
    → (front, option_map now parts) ≡ apart_at end text → length (now rest) < length text
behind_shorter now end text {front} {parts} {rest} is e =
    let behind : Some (now rest) ≡ (apart_at end text).1 = sym (ap (option_map now) is) ∙ ap (λ (p : List ℕ × Option (List ℕ)). p.1) e in
    subst (λ (o : Option (List ℕ)). IfSome o (λ rest. length rest < length text)) (sym behind) (part_shorter end text)
