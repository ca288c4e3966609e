-- An element stored beside texts that stand in a buffer: before one, behind one, or between two. Carried by where the store falls in a list.
-- Assumes nothing.
use Prim.Native.Nat.{ℕ, suc, ◌+◌, ◌-◌, ◌≤◌, ◌<◌}
use mathlib.Core.Path.{◌≡◌, sym, ap, ◌∙◌}
use mathlib.Core.List.{List, [], ◌∷◌, ◌++◌, append_assoc}
use native.Mathlib.Omega.{arith}
use borrow.Rule.Slice.PartMut.{mid_of, put_mid}
use lib.ListN.{length, get_or, take, drop, set, length-append}
use lib.Seq.{take-suc, drop-cons, drop-drop, set_at, append_snoc, length-take-le}
use Rattle.buffer.specs.Front.{at_front, from_start}
use Rattle.buffer.proofs.Parts.{put_from, then_front, then_stored}

-- an element stored before what stands from the next place on
pub stored_before : (j b : ℕ) (p old out : List ℕ) → j < length old → out ≡ from_start (suc j) p old → set out j b ≡ from_start j (b ∷ p) old
stored_before j b p old out h e =
    let n : length (take j old) ≡ j = length-take-le j old (omega arith) in
    let place : suc j + length p ≡ j + suc (length p) = omega arith in
    let behind : drop (length p) (drop (suc j) old) ≡ drop (suc (length p)) (drop j old)
    = drop-drop (length p) (suc j) old ∙ ap (λ (k : ℕ). drop k old) place ∙ sym (drop-drop (suc (length p)) j old) in
    rw (e, take-suc old j b h, append_snoc (take j old) (get_or old j b) (p ++ drop (length p) (drop (suc j) old)), ← behind)
    (set_at (take j old) (get_or old j b) _ b j n)

-- the part of a buffer from a on, and the buffer with what was made of that part
abbrev pub part : ℕ → List ℕ → List ℕ
part a x = mid_of a (length x - a) x

abbrev pub back : ℕ → List ℕ → List ℕ → List ℕ
back a x y = put_mid a (length x - a) x y

-- what stands from a start on, as what stands at the front
from_front : (s : ℕ) (p old : List ℕ) → s ≤ length old → from_start s p old ≡ at_front (take s old ++ p) old
from_front s p old h =
    let size : length (take s old ++ p) ≡ s + length p = omega (arith, length-append (take s old) p, length-take-le s old h) in
    rw (size, drop-drop (length p) s old) (sym (append_assoc (take s old) p (drop (s + length p) old)))

-- q put a place behind the end of p, which stands at the front: between them stays the element that was there
beyond : (j : ℕ) (p q old xs ys : List ℕ) → length p ≡ j → j < length old → xs ≡ at_front p old → ys ≡ at_front q (part (suc j) xs)
    → back (suc j) xs ys ≡ at_front (p ++ (get_or old j 0 ∷ q)) old
beyond j p q old xs ys n h e f =
    let c = get_or old j 0 in
    let size : length (p ++ c ∷ []) ≡ suc j = omega (arith, length-append p (c ∷ [])) in
    let longer : xs ≡ at_front (p ++ c ∷ []) old = e ∙ rw (size, n, drop-cons old j 0 h, append_snoc p c (drop (suc j) old)) in
    then_front (suc j) (p ++ c ∷ []) q old xs ys size longer f ∙ ap (λ (l : List ℕ). at_front l old) (append_snoc p c q)

-- an element stored over the one between two texts
replaced : (j b c : ℕ) (p q old xs : List ℕ) → length p ≡ j → xs ≡ at_front (p ++ (c ∷ q)) old → set xs j b ≡ at_front (p ++ (b ∷ q)) old
replaced j b c p q old xs n e =
    rw (e, length-append p (c ∷ q), length-append p (b ∷ q), append_assoc p (c ∷ q), append_assoc p (b ∷ q)) (set_at p c _ b j n)

-- two texts, each at the front of the part from its place on, and then an element before each
pub behind_each : (a b : ℕ) (p q old x y : List ℕ) → length p ≡ a → 1 + a < length old
    → x ≡ at_front p (part 1 old) → y ≡ at_front q (part (suc (1 + a)) (back 1 old x))
    → set (set (back (suc (1 + a)) (back 1 old x) y) (1 + a) b) 0 b ≡ at_front ((b ∷ p) ++ (b ∷ q)) old
behind_each a b p q old x y n h e f =
    let one : length (take 1 old) ≡ 1 = length-take-le 1 old (omega arith) in
    let size : length (take 1 old ++ p) ≡ 1 + a = omega (arith, length-append (take 1 old) p) in
    let first : back 1 old x ≡ at_front (take 1 old ++ p) old = put_from 1 p old x e ∙ from_front 1 p old (omega arith) in
    let second = replaced (1 + a) b _ (take 1 old ++ p) q old _ size (beyond (1 + a) (take 1 old ++ p) q old _ y size h first f) in
    let behind : at_front (take 1 old ++ p ++ (b ∷ q)) old ≡ from_start 1 (p ++ (b ∷ q)) old
    = ap (λ (l : List ℕ). at_front l old) (append_assoc (take 1 old) p (b ∷ q)) ∙ sym (from_front 1 (p ++ (b ∷ q)) old (omega arith)) in
    stored_before 0 b (p ++ (b ∷ q)) old _ (omega arith) (second ∙ behind)

-- four texts, the third and the fourth each a place behind what is before it, then an element in each of these two places and one behind all
pub end_put : (i j k l b z : ℕ) (p q r s old u v w x : List ℕ)
    → length p ≡ i → length (p ++ q) ≡ j → length (p ++ q ++ (b ∷ r)) ≡ k → length (p ++ q ++ (b ∷ r) ++ (b ∷ s)) ≡ l → l < length old
    → u ≡ at_front p old → v ≡ at_front q (part i u) → w ≡ at_front r (part (suc j) (back i u v)) → x ≡ at_front s (part (suc k) (back (suc j) (back i u v) w))
    → set (set (set (back (suc k) (back (suc j) (back i u v) w) x) j b) k b) l z ≡ at_front (p ++ q ++ (b ∷ r) ++ (b ∷ s) ++ (z ∷ [])) old
end_put i j k l b z p q r s old u v w x ni nj nk nl room e f g h =
    let c = get_or old j 0 in
    let d = get_or old k 0 in
    let m : length (p ++ q ++ (c ∷ r)) ≡ k = omega (arith, length-append (p ++ q) (c ∷ r), length-append (p ++ q) (b ∷ r)) in
    let further : k < length old = omega (arith, length-append (p ++ q ++ (b ∷ r)) (b ∷ s)) in
    let far : j < length old = omega (arith, length-append (p ++ q) (b ∷ r)) in
    let third = beyond j (p ++ q) r old _ w nj far (then_front i p q old u v ni e f) g in
    let all = beyond k (p ++ q ++ (c ∷ r)) s old _ x m further third h ∙ ap (λ (t : List ℕ). at_front t old) (append_assoc (p ++ q) (c ∷ r) (d ∷ s)) in
    let one = replaced j b c (p ++ q) (r ++ (d ∷ s)) old _ nj all ∙ ap (λ (t : List ℕ). at_front t old) (sym (append_assoc (p ++ q) (b ∷ r) (d ∷ s))) in
    then_stored l z (p ++ q ++ (b ∷ r) ++ (b ∷ s)) old _ nl room (replaced k b d (p ++ q ++ (b ∷ r)) s old _ nk one)
