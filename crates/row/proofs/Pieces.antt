-- The pieces of a row: a hyphen or a digit more, and that the parts in which it is written join. Carried by `stored_before` and the texts' lengths.
-- Assumes nothing.
use Prim.Native.Nat.{ℕ, suc, ◌-◌, ◌/◌, ◌%◌, ◌^◌, ◌≤◌, ◌<◌}
use mathlib.Core.Path.{◌≡◌, refl, sym, ap, ◌∙◌}
use mathlib.Core.List.{List, [], ◌++◌, append_assoc}
use native.Mathlib.Nat.{div-div-eq-div-mul, pow-suc}
use native.Mathlib.Omega.{arith}
use borrow.Rule.Slice.PartMut.{mid_of, put_mid}
use lib.ListN.{length, set, length-append, take-append-drop}
use lib.Seq.{append_snoc}
use Rattle.buffer.specs.Front.{at_front, from_start}
use Rattle.buffer.proofs.Parts.{then_front}
use Rattle.register.specs.declared.Register.{Register}
use Rattle.row_rules.proofs.Lengths.{two_long, stage_long, flags_long, number_long, value_long, mark_long}
use Rattle.row_rules.specs.Shown.{Change}
use Rattle.row_rules.specs.declared.Flags.{Flags}
use Rattle.row_rules.specs.declared.Row.{Row}
use Rattle.row_rules.specs.Shown.{Stage}
use Rattle.row_rules.specs.Text.{digit, two_digits, hex_digits, stage_text, flags_text, number_text, register_text, value_text, mark_text, behind_space, newline, row_text}
use Rattle.row.proofs.Stores.{part, back, stored_before, behind_each, end_put}

-- the loop that writes hex digits, from the last one back: before its first turn, a turn, which takes a digit from the rest of the number, and its end
module _ (k w : ℕ) where
  none_yet : k - k ≡ 0
  none_yet = omega arith

  pub all_left : w ≡ w / 16 ^ (k - k)
  all_left = rw none_yet (omega arith)

  pub no_digit : (old : List ℕ) → old ≡ from_start k (hex_digits (k - k) w) old
  no_digit old = rw none_yet (sym (take-append-drop k old))

module _ (k i w rest : ℕ) (some : 0 < i) (within : i ≤ k) (left : rest ≡ w / 16 ^ (k - i)) where
  one_more : k - (i - 1) ≡ suc (k - i)
  one_more = omega arith

  pub less_left : rest / 16 ≡ w / 16 ^ (k - (i - 1))
  less_left = rw (left, one_more, pow-suc 16 (k - i)) (div-div-eq-div-mul w (16 ^ (k - i)) 16)

  pub digit_more : (old out : List ℕ) {b : ℕ} → b ≡ digit (rest % 16) → k ≤ length old → out ≡ from_start i (hex_digits (k - i) w) old
      → set out (i - 1) b ≡ from_start (i - 1) (hex_digits (k - (i - 1)) w) old
  digit_more old out said room e =
      let next : suc (i - 1) ≡ i = omega arith in
      let stands : out ≡ from_start (suc (i - 1)) (hex_digits (k - i) w) old = rw next e in
      rw (said, one_more, ← left) (stored_before (i - 1) (digit (rest % 16)) (hex_digits (k - i) w) old out (omega arith) stands)

pub all_digits_lem : (k i w : ℕ) (old out : List ℕ) → i ≤ 0 → out ≡ from_start i (hex_digits (k - i) w) old → out ≡ at_front (hex_digits k w) old
all_digits_lem k i w old out h e =
    let none : i ≡ 0 = omega arith in
    let all : k - i ≡ k = omega arith in
    e ∙ rw (all, none)

-- the parts in which a row is written
abbrev pub two_stages : Stage → Stage → List ℕ
two_stages a b = behind_space (stage_text a) ++ behind_space (stage_text b)

abbrev pub begin_of : Row → List ℕ
begin_of r = two_digits r.cycle ++ two_stages r.fetch r.decode ++ two_stages r.execute r.write

abbrev pub end_of : Row → List ℕ
end_of r =
    behind_space (flags_text r.flags) ++ behind_space (number_text r.change) ++ behind_space (value_text r.change) ++ behind_space (mark_text r.change)
    ++ newline

-- where each of them ends
half_begun_long : (n : ℕ) (a b : Stage) → length (two_digits n ++ two_stages a b) ≡ 18
half_begun_long n a b = simp length-append (omega (arith, two_long n, stage_long a, stage_long b))

begun_long : (r : Row) → length (begin_of r) ≡ 34
begun_long r =
    simp length-append (omega (arith, two_long r.cycle, stage_long r.fetch, stage_long r.decode, stage_long r.execute, stage_long r.write))

module _ (f : Flags) where
  flags_end : length (behind_space (flags_text f) ++ behind_space []) ≡ 5
  flags_end = simp length-append (omega (arith, flags_long f))

  module _ (c : Change) where
    number_end : length (behind_space (flags_text f) ++ behind_space [] ++ number_text c) ≡ 7
    number_end = simp length-append (omega (arith, flags_long f, number_long c))

    value_end : length (behind_space (flags_text f) ++ behind_space [] ++ number_text c ++ behind_space (value_text c)) ≡ 40
    value_end = simp length-append (omega (arith, flags_long f, number_long c, value_long c))

    mark_end : length (behind_space (flags_text f) ++ behind_space [] ++ number_text c ++ behind_space (value_text c) ++ behind_space (mark_text c)) ≡ 43
    mark_end = simp length-append (omega (arith, flags_long f, number_long c, value_long c, mark_long c))

joined : (a b c d e f g h i j : List ℕ) → a ++ (b ++ c) ++ (d ++ e) ++ (f ++ g ++ h ++ i ++ j) ≡ a ++ b ++ c ++ d ++ e ++ f ++ g ++ h ++ i ++ j
joined a b c d e f g h i j = simp append_assoc

row_joined : (r : Row) → begin_of r ++ end_of r ≡ row_text r
unfolding row_text
row_joined r = joined (two_digits r.cycle) _ _ _ _ _ _ _ _ _

-- both words from their places on, and then before each its space
pub two_stages_put : (a b : Stage) (old : List ℕ) {x y : List ℕ} → 8 < length old → x ≡ at_front (stage_text a) (part 1 old)
    → y ≡ at_front (stage_text b) (part 9 (back 1 old x)) → set (set (back 9 (back 1 old x) y) 8 32) 0 32 ≡ at_front (two_stages a b) old
two_stages_put a b old h e f = behind_each 7 32 (stage_text a) (stage_text b) old _ _ (stage_long a) (omega arith) e f

-- number, value and mark behind the flags, and then the spaces before value and mark and the newline behind them
pub row_end_put : (f : Flags) (c : Change) (old : List ℕ) {u v w x : List ℕ} → 43 < length old
    → u ≡ at_front (behind_space (flags_text f) ++ behind_space []) old → v ≡ at_front (number_text c) (part 5 u)
    → w ≡ at_front (value_text c) (part 8 (back 5 u v)) → x ≡ at_front (mark_text c) (part 41 (back 8 (back 5 u v) w))
    → set (set (set (back 41 (back 8 (back 5 u v) w) x) 7 32) 40 32) 43 10
    ≡ at_front (behind_space (flags_text f) ++ behind_space (number_text c) ++ behind_space (value_text c) ++ behind_space (mark_text c) ++ newline) old
row_end_put f c old h eu ev ew ex =
    let flags = behind_space (flags_text f) in
    end_put 5 7 40 43 32 10 (flags ++ behind_space []) (number_text c) (value_text c) (mark_text c) old _ _ _ _
    (flags_end f) (number_end f c) (value_end f c) (mark_end f c) h eu ev ew ex
    ∙ ap (λ (l : List ℕ). at_front (l ++ behind_space (value_text c) ++ behind_space (mark_text c) ++ newline) old) (append_snoc flags 32 (number_text c))

-- ---- the second piece at the front of the part behind the first

module _ (old : List ℕ) {x y : List ℕ} where
  pub register_put : (v : Register) → x ≡ at_front (hex_digits 8 v.w3 ++ hex_digits 8 v.w2) old
      → y ≡ at_front (hex_digits 8 v.w1 ++ hex_digits 8 v.w0) (mid_of 16 (length x - 16) x)
      → put_mid 16 (length x - 16) x y ≡ at_front (register_text v) old
  unfolding register_text
  register_put v e f = then_front 16 (hex_digits 8 v.w3 ++ hex_digits 8 v.w2) (hex_digits 8 v.w1 ++ hex_digits 8 v.w0) old x y refl e f

  pub row_put : (r : Row) → x ≡ at_front (begin_of r) old → y ≡ at_front (end_of r) (mid_of 34 (length x - 34) x)
      → put_mid 34 (length x - 34) x y ≡ at_front (row_text r) old
  row_put r e f = rw (← (row_joined r)) (then_front 34 (begin_of r) (end_of r) old x y (begun_long r) e f)

  pub stages_put : (n : ℕ) (a b c d : Stage) {z : List ℕ} → x ≡ at_front (two_digits n) old → y ≡ at_front (two_stages a b) (mid_of 2 (length x - 2) x)
      → z ≡ at_front (two_stages c d) (mid_of 18 (length (put_mid 2 (length x - 2) x y) - 18) (put_mid 2 (length x - 2) x y))
      → put_mid 18 (length (put_mid 2 (length x - 2) x y) - 18) (put_mid 2 (length x - 2) x y) z
      ≡ at_front (two_digits n ++ two_stages a b ++ two_stages c d) old
  stages_put n a b c d e f g =
      then_front 18 (two_digits n ++ two_stages a b) (two_stages c d) old _ _ (half_begun_long n a b)
      (then_front 2 (two_digits n) (two_stages a b) old x y (two_long n) e f) g
