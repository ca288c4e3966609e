-- A buffer that is filled a piece at a time: what stands at its front once a piece was put behind what came before.
-- Assumes nothing.
use Rattle.std.proofs.Common.{◌≡◌, ℕ, ◌+◌, ◌-◌, ◌≤◌, List, ◌++◌, arith, length, take, slice_range, sym, ap, ◌∙◌, le_refl, drop_at, length-take-le}
use Rattle.std.proofs.lemmas.Slice.{take-put_mid_below}
use borrow.Rule.Slice.PartMut.{put_mid, post_of}
use lib.Seq.{take-add, take-append-le}

-- the piece itself
piece : (size room n : ℕ) (old new : List ℕ) → size ≤ length old → n ≤ length new → slice_range (put_mid size room old new) size (size + n) ≡ take n new
piece size room n old new within fits =
    let same : (size + n) - size ≡ n = omega arith in
    let after = post_of size room old in
    ap (take ((size + n) - size)) (drop_at (take size old) (new ++ after) size (length-take-le size old within)) ∙ ap (λ m. take m (new ++ after)) same
    ∙ take-append-le n new after fits

-- what came before, and then the piece
pub front_grown : (size room n : ℕ) (old new : List ℕ) → size ≤ length old → n ≤ length new → take size old ++ take n new ≡ take (size + n) (put_mid size room old new)
front_grown size room n old new within fits =
    let all = put_mid size room old new in
    let same : size + ((size + n) - size) ≡ size + n = omega arith in
    let before : take size all ≡ take size old = take-put_mid_below _ _ _ _ _ (le_refl _) within in
    ap (λ l. take size old ++ l) (sym (piece size room n old new within fits)) ∙ ap (λ l. l ++ slice_range all size (size + n)) (sym before)
    ∙ sym (take-add size ((size + n) - size) all) ∙ ap (λ k. take k all) same
