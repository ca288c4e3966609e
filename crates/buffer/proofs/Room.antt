-- The test as it came out, in numbers. Carried by what a comparison says.
-- Assumes nothing.
use Prim.Native.Nat.{ℕ, ◌+◌, ◌-◌, ◌<◌, ◌≤◌}
use mathlib.Core.Path.{◌≡◌, sym, ◌∙◌}
use mathlib.Core.Bool.{Bool, true, false}
use borrow.Author.Tests.{leb-true, leb-false}
use native.Mathlib.Omega.{arith}
use lib.Dec.{leb}

module _ (length start size : ℕ) {t : Bool} (test : t ≡ leb (start + size) length) where
  pub enough : t ≡ true → start + size ≤ length
  enough h = leb-true _ _ (sym test ∙ h)

  pub too_little : t ≡ false → length < start + size
  too_little h = leb-false _ _ (sym test ∙ h)

  -- the part from the start on, of a buffer as long
  module _ (room : t ≡ true) {m : ℕ} (same : m ≡ length) where
    pub starts_within : start ≤ m
    starts_within = omega (arith, enough room)

    pub part_long : {k : ℕ} → k ≡ m - start → size ≤ k
    part_long e = omega (arith, enough room)
