-- A text that is written from its last byte back: what stands of it stands from a place on. Carried by `stored_before`: a byte stored before what stands from the next place on.
-- Assumes nothing.
use Prim.Native.Nat.{ℕ, suc, ◌-◌, ◌≤◌, ◌<◌}
use mathlib.Core.Path.{◌≡◌, sym, ap, ◌∙◌}
use mathlib.Core.List.{List, [], ◌∷◌, ◌++◌}
use native.Mathlib.Omega.{arith}
use lib.ListN.{length, get_or, take, drop, set, length-append, take-append-drop, drop_of_length-le}
use lib.Seq.{get_or_at, get_or-take, drop-cons, length-take-le}
use Rattle.buffer.specs.Front.{at_front, from_start}
use Rattle.row.proofs.Stores.{stored_before}

-- before the first byte is written
pub none_written : (s old : List ℕ) (i : ℕ) → length s ≡ i → old ≡ from_start i (drop i s) old
none_written s old i n = rw (drop_of_length-le s {i = i} (omega arith)) (sym (take-append-drop i old))

-- all of it
pub all_written : (s old out : List ℕ) (i : ℕ) → i ≤ 0 → out ≡ from_start i (drop i s) old → out ≡ at_front s old
all_written s old out i h e = let none : i ≡ 0 = omega arith in e ∙ rw none

module _ (s : List ℕ) (i : ℕ) (some : 0 < i) (within : i ≤ length s) (front : List ℕ) (b : ℕ) (last : take i s ≡ front ++ b ∷ []) where
  front_long : length front ≡ i - 1
  front_long = omega (arith, length-append front (b ∷ []), ap length last, length-take-le i s within)

  -- the byte that is next
  byte_before : get_or s (i - 1) 0 ≡ b
  byte_before =
      sym (get_or-take i s (i - 1) 0 (omega arith)) ∙ ap (λ (l : List ℕ). get_or l (i - 1) 0) last ∙ get_or_at front b [] 0 (i - 1) front_long

  -- stored
  pub one_back : (old out : List ℕ) → length s ≤ length old → out ≡ from_start i (drop i s) old → set out (i - 1) b ≡ from_start (i - 1) (drop (i - 1) s) old
  one_back old out room e =
      let next : suc (i - 1) ≡ i = omega arith in
      let stands : out ≡ from_start (suc (i - 1)) (drop i s) old = rw next e in
      let apart : drop (i - 1) s ≡ b ∷ drop i s = drop-cons s (i - 1) 0 (omega arith) ∙ rw (byte_before, next) in
      rw apart (stored_before (i - 1) b (drop i s) old out (omega arith) stands)
