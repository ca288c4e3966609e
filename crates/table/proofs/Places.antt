-- The first bad word is the first that a search finds, and there is no bad word where the bits of all words together are below the limit.
-- Assumes nothing.
use Prim.Native.Nat.{ℕ, ◌<◌, ◌^◌}
use mathlib.Core.Path.{◌≡◌, ◌∙◌, refl, ap, sym}
use mathlib.Core.List.{List, [], ◌∷◌}
use native.Mathlib.Omega.{arith}
use Rattle.std.specs.declared.option.Option.{Option}
use Rattle.std.specs.declared.option.Option.TheVariants.{None, Some}
use Rattle.std.specs.Option.{unwrap_or}
use Rattle.std.specs.Prelude.{position}
use Rattle.std.proofs.lemmas.List.Recursion.{is_position_or_len}
use Rattle.std.proofs.lemmas.List.Sums.{prefix_len-le-length}
use borrow.Author.Tests.{lt-ltb, ltb-false}
use lib.Bits.{bit_or, and_le_l, and_le_r, or_add_and}
use lib.ListN.{length}
use Rattle.std.specs.Prelude.{fold, suc, not, Bool, true, false, cond, leb, ltb}
use Rattle.std.specs.List.{position_or_len}
use Rattle.table.specs.Refusal.{first_bad}

-- gathered from any number on: that number is below the limit too
below_before : (all : ℕ) (ws : List ℕ) → fold bit_or all ws < 2 ^ 25 → all < 2 ^ 25
below_before all [] h = h
below_before all (w ∷ ws) h = omega (arith, below_before (bit_or all w) ws h, or_add_and all w, and_le_r all w)

none_from : (all : ℕ) (ws : List ℕ) → fold bit_or all ws < 2 ^ 25 → first_bad ws ≡ length ws
unfolding first_bad
none_from all [] h = refl
none_from all (w ∷ ws) h =
    let good : w < 2 ^ 25 = omega (arith, below_before (bit_or all w) ws h, or_add_and all w, and_le_l all w) in
    rw (lt-ltb _ _ good) (ap suc (none_from (bit_or all w) ws h))

pub none_bad : (ws : List ℕ) → fold bit_or 0 ws < 2 ^ 25 → first_bad ws ≡ length ws
none_bad ws h = none_from 0 ws h

first_that_is : (ws : List ℕ) → first_bad ws ≡ position_or_len (λ w. leb (2 ^ 25) w) ws
unfolding first_bad
first_that_is = is_position_or_len first_bad (λ w. leb (2 ^ 25) w) refl (λ w ws. grind arith)

-- what a search answers, with the number of words where it finds none
pub found : (ws : List ℕ) {r : Option ℕ} → r ≡ position (λ w. leb (2 ^ 25) w) ws → {i : ℕ} → i ≡ unwrap_or r (length ws) → i ≡ first_bad ws
found ws searched e = e ∙ ap (λ (r : Option ℕ). unwrap_or r (length ws)) searched ∙ within (ltb (position_or_len (λ w. leb (2 ^ 25) w) ws) (length ws)) refl ∙ sym (first_that_is ws)
  where
    within : (t : Bool) → ltb (position_or_len (λ w. leb (2 ^ 25) w) ws) (length ws) ≡ t
        → unwrap_or (cond t (Some (position_or_len (λ w. leb (2 ^ 25) w) ws)) None) (length ws) ≡ position_or_len (λ w. leb (2 ^ 25) w) ws
    within true e = refl
    within false e = omega (arith, ltb-false _ _ e, prefix_len-le-length (λ w. not (leb (2 ^ 25) w)) ws)
