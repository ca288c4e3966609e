-- Signed numbers, once over the width k. With its top bit turned, x is the natural number that the signed number plus 2^(k-1) is. So the signed number
-- is `sub_ℕ (turned k x) (2 ^ (k - 1))`, sums are such differences again, and what wraps is off by 2^k or not at all. It is also what std's casts say.
-- Assumes nothing.
use Rattle.std.proofs.Common.{◌≡◌, ℕ, suc, ◌+◌, ◌-◌, ◌*◌, ◌%◌, ◌^◌, ◌<◌, ◌≤◌, Bool, true, false, cond, ◌||◌, ltb, ℤ, negsuc, ◌+ℤ◌, ◌*ℤ◌, neg_ℤ, sym, refl, ap, ◌∙◌, ap₂, mod-eq_of_lt, arith, pow_pos, ltb-false, ltb-true, le-ltb, lt-ltb}
use native.Mathlib.Nat.{mod-eq-sub-mod, mod-add-mod}
use lib.Bits.{bit_xor, xor_block, xor_zero_r}
use lib.IntN.{sub_ℕ}
use lib.Signed.{lt_z}
use mir.Syntax.{Width}
use mir.Val.{bits as width_of, hbits, to_z, of_z, SFits}
use Rattle.std.proofs.lemmas.Int.{to_z-of_z}
use Rattle.alu_rules.specs.Width.{signed, bits, greatest, within, clamped, is_marked}
use Rattle.alu_lanes.specs.Sign.{exact_sum, sign_lost}
use Rattle.alu_lanes.specs.Clamped.{clamped_lane, in_numbers}
use Rattle.alu_rules.proofs.Integers.{either, sub_pos, sub_neg, neg_pos}
use Rattle.alu_rules.proofs.Clamped.{double, bounds, signed_low, signed_high, inside_pos, inside_neg, above, beneath}
use Rattle.alu_lanes.proofs.Integers.{sub_same, pos_as, sub_sum, sub_swap}

-- x with the top one of its k bits turned
abbrev turned : ℕ → ℕ → ℕ
turned k x = bit_xor x (2 ^ (k - 1))

-- v is z clamped to k bits, and b says whether that changes it
record Clamps (k : ℕ) (z : ℤ) (v : ℕ) (b : Bool) : Type 0 where
  value_is : v ≡ clamped k z
  mark_is : b ≡ is_marked k z

-- v modulo m, where v is below m + m: m is taken away once, or not at all
once : (m v : ℕ) {P : Type 0} → v < m + m → (v % m ≡ v → P) → (v % m + m ≡ v → P) → P
once m v h same less =
    either v m
    (λ l. same (mod-eq_of_lt l))
    (λ l. less (ap (λ (n : ℕ). n + m) (mod-eq-sub-mod l ∙ mod-eq_of_lt (omega arith)) ∙ omega arith))

-- the number of the one that is taken
taken : {L : Type 0} (number : L → ℕ) (t : Bool) (x y : L) → number (cond t x y) ≡ cond t (number x) (number y)
taken number true x y = refl
taken number false x y = refl

module _ (k : ℕ) (some : 0 < k) where
  -- ---- the top bit turned

  turned_low : (x : ℕ) → x < 2 ^ (k - 1) → turned k x ≡ x + 2 ^ (k - 1)
  turned_low x h =
      let e : 0 * 2 ^ (k - 1) + x ≡ x = omega arith in
      let f : 1 * 2 ^ (k - 1) + 0 ≡ 2 ^ (k - 1) = omega arith in
      ap₂ bit_xor (sym e) (sym f) ∙ xor_block (k - 1) 0 1 x 0 h (pow_pos (k - 1)) ∙ omega (arith, xor_zero_r x)

  turned_high : (x : ℕ) → 2 ^ (k - 1) ≤ x → x < 2 ^ k → turned k x ≡ x - 2 ^ (k - 1)
  turned_high x h l =
      let d = double k some in
      let e : 1 * 2 ^ (k - 1) + (x - 2 ^ (k - 1)) ≡ x = omega arith in
      let f : 1 * 2 ^ (k - 1) + 0 ≡ 2 ^ (k - 1) = omega arith in
      ap₂ bit_xor (sym e) (sym f) ∙ xor_block (k - 1) 1 1 (x - 2 ^ (k - 1)) 0 (omega arith) (pow_pos (k - 1))
      ∙ omega (arith, xor_zero_r (x - 2 ^ (k - 1)))

  signed_turned : (x : ℕ) → x < 2 ^ k → signed k x ≡ sub_ℕ (turned k x) (2 ^ (k - 1))
  signed_turned x l =
      let d = double k some in
      either x (2 ^ (k - 1))
      (λ h. let e = turned_low x h in signed_low k some x h ∙ pos_as x (turned k x) _ (omega arith))
      (λ h. let e = turned_high x h l in signed_high k some x h ∙ sub_same x (2 ^ k) (turned k x) _ (omega arith))

  -- ---- u - 2^k clamped, by the four ranges of u

  -- z is what is clamped, as a constructor
  is_clamped : {y z : ℤ} {v : ℕ} {b : Bool} → y ≡ z → bits k (within (negsuc (2 ^ (k - 1) - 1)) (greatest k) z) ≡ v
      → (lt_z z (negsuc (2 ^ (k - 1) - 1)) || lt_z (greatest k) z) ≡ b → Clamps k y v b
  is_clamped {z = z} e f g = record {
    value_is = sym (ap (clamped k) e ∙ ap (bits k) (bounds k some z) ∙ f);
    mark_is = sym (ap (is_marked k) e ∙ ap (λ (l : ℤ). lt_z z l || lt_z (greatest k) z) (neg_pos (2 ^ (k - 1)) (pow_pos (k - 1))) ∙ g);
  }

  over : (u : ℕ) → 2 ^ k + 2 ^ (k - 1) ≤ u → Clamps k (sub_ℕ u (2 ^ k)) (2 ^ (k - 1) - 1) true
  unfolding bits
  over u h =
      let q = pow_pos (k - 1) in
      let n = u - 2 ^ k in
      is_clamped (sub_pos u _ (omega arith)) (ap (bits k) (above _ n (omega arith))) (lt-ltb _ n (omega arith))

  inside_low : (u s : ℕ) → s + 2 ^ k ≡ u → s < 2 ^ (k - 1) → Clamps k (sub_ℕ u (2 ^ k)) s false
  unfolding bits
  inside_low u s e h = is_clamped (sym (pos_as s u _ e)) (ap (bits k) (inside_pos _ s (omega arith))) (le-ltb _ s (omega arith))

  inside_high : (u s : ℕ) → s ≡ u → 2 ^ (k - 1) ≤ s → s < 2 ^ k → Clamps k (sub_ℕ u (2 ^ k)) s false
  unfolding bits
  inside_high u s e h l =
      let d = double k some in
      let n = 2 ^ k - suc u in
      is_clamped (sub_neg u _ (omega arith)) (ap (bits k) (inside_neg _ n (omega arith)) ∙ omega arith) (rw (le-ltb (2 ^ (k - 1) - 1) n (omega arith)))

  under : (u : ℕ) → u < 2 ^ (k - 1) → Clamps k (sub_ℕ u (2 ^ k)) (2 ^ (k - 1)) true
  unfolding bits
  under u h =
      let d = double k some in
      let n = 2 ^ k - suc u in
      is_clamped (sub_neg u _ (omega arith)) (ap (bits k) (beneath _ n (omega arith)) ∙ omega arith) (rw (lt-ltb (2 ^ (k - 1) - 1) n (omega arith)))

  -- ---- x + z + c by the signs of x and z and of s, which is that sum wrapped

  -- what the test whether x is low, below its top bit and so not negative, says of x turned
  abbrev Side : ℕ → Bool → Type 0
  Side x true = (x < 2 ^ (k - 1)) × (turned k x ≡ x + 2 ^ (k - 1))
  Side x false = (2 ^ (k - 1) ≤ x) × (turned k x + 2 ^ (k - 1) ≡ x)

  side : (x : ℕ) → x < 2 ^ k → (t : Bool) → ltb x (2 ^ (k - 1)) ≡ t → Side x t
  side x l true e =
      let h = ltb-true x _ e in
      (h, turned_low x h)
  side x l false e =
      let h = ltb-false x _ e in
      (h, omega (arith, turned_high x h l))

  module _ (x z c s : ℕ) {t : ℕ} (d : 2 ^ k ≡ 2 ^ (k - 1) + 2 ^ (k - 1)) (hx : x < 2 ^ k) (hz : z < 2 ^ k) (hc : c ≤ 1)
      (et : t ≡ (x + z) % 2 ^ k) (es : s ≡ (t + c) % 2 ^ k) where
    -- s is the sum, or 2^k less
    wraps : {P : Type 0} → (s ≡ x + z + c → P) → (s + 2 ^ k ≡ x + z + c → P) → P
    wraps f g =
        let m : s ≡ (x + z + c) % 2 ^ k = es ∙ ap (λ (n : ℕ). (n + c) % 2 ^ k) et ∙ mod-add-mod (x + z) (2 ^ k) c in
        once (2 ^ k) (x + z + c) (omega arith) (λ n. f (m ∙ n)) (λ n. g (omega arith))

    -- the eight cases of three signs
    by_sides : s < 2 ^ k → (a b t : Bool) → Side x a → Side z b → Side s t
        → Clamps k (sub_ℕ (turned k x + (turned k z + c)) (2 ^ k)) (cond (sign_lost a b t) (cond a (2 ^ (k - 1) - 1) (2 ^ (k - 1))) s) (sign_lost a b t)
    unfolding sign_lost
    by_sides hs true true true p q r = inside_low _ s (wraps (λ n. omega arith) (λ n. omega arith)) r.0
    by_sides hs true true false p q r = over _ (wraps (λ n. omega arith) (λ n. omega arith))
    by_sides hs true false true p q r = inside_low _ s (wraps (λ n. omega arith) (λ n. omega arith)) r.0
    by_sides hs true false false p q r = inside_high _ s (wraps (λ n. omega arith) (λ n. omega arith)) r.0 hs
    by_sides hs false true true p q r = inside_low _ s (wraps (λ n. omega arith) (λ n. omega arith)) r.0
    by_sides hs false true false p q r = inside_high _ s (wraps (λ n. omega arith) (λ n. omega arith)) r.0 hs
    by_sides hs false false true p q r = under _ (wraps (λ n. omega arith) (λ n. omega arith))
    by_sides hs false false false p q r = inside_high _ s (wraps (λ n. omega arith) (λ n. omega arith)) r.0 hs

  -- z is y with every bit turned: it says the opposite of what y says, less 1
  opposite : (y z : ℕ) → y + z + 1 ≡ 2 ^ k → turned k y + turned k z + 1 ≡ 2 ^ k
  opposite y z e =
      let d = double k some in
      either y (2 ^ (k - 1))
      (λ h. omega (arith, turned_low y h, turned_high z (omega arith) (omega arith)))
      (λ h. omega (arith, turned_high y h (omega arith), turned_low z (omega arith)))

  -- a signed number and n, which is v - 2^(k-1)
  summed : (x v : ℕ) {n : ℤ} → x < 2 ^ k → n ≡ sub_ℕ v (2 ^ (k - 1)) → signed k x +ℤ n ≡ sub_ℕ (turned k x + v) (2 ^ k)
  summed x v hx e = ap₂ ◌+ℤ◌ (signed_turned x hx) e ∙ sub_sum (turned k x) _ v _ ∙ ap (sub_ℕ (turned k x + v)) (sym (double k some))

  -- the code adds z and c: y and 0, or y with every bit turned and 1
  added : (minus : Bool) (x y : ℕ) {z c : ℕ} → x < 2 ^ k → y < 2 ^ k → z ≡ cond minus (2 ^ k - 1 - y) y → c ≡ cond minus 1 0
      → (z < 2 ^ k) × (c ≤ 1) × (exact_sum k minus x y ≡ sub_ℕ (turned k x + (turned k z + c)) (2 ^ k))
  added true x y {z} {c} hx hy ez ec =
      let d = double k some in
      let o = opposite y z (omega arith) in
      let h = 2 ^ (k - 1) in
      let v = turned k z + c in
      (omega arith, omega arith, summed x v hx (ap neg_ℤ (signed_turned y hy) ∙ sub_swap (turned k y) h ∙ sub_same h (turned k y) v h (omega arith)))
  added false x y {z} {c} hx hy ez ec =
      let o = ap (turned k) ez in
      let h = 2 ^ (k - 1) in
      let v = turned k z + c in
      (omega arith, omega arith, summed x v hx (signed_turned y hy ∙ sub_same (turned k y) h v h (omega arith)))

  -- what the code of a clamped sum has, each fact as a call promises it; `number` says what a lane holds
  pub clamped_sum : {L : Type 0} (number : L → ℕ) (minus : Bool) (x y : L) {z s limit v : L} {a b t marked : Bool}
      → number z ≡ cond minus (2 ^ k - 1 - number y) (number y) → number y < 2 ^ k
      → number s ≡ ((number x + number z) % 2 ^ k + cond minus 1 0) % 2 ^ k
      → a ≡ ltb (number x) (2 ^ (k - 1)) → number x < 2 ^ k
      → b ≡ ltb (number z) (2 ^ (k - 1))
      → t ≡ ltb (number s) (2 ^ (k - 1)) → number s < 2 ^ k
      → marked ≡ sign_lost a b t → number limit ≡ cond a (2 ^ (k - 1) - 1) (2 ^ (k - 1)) → v ≡ cond marked limit s
      → in_numbers number (record { value = v; marked = marked }) ≡ clamped_lane k (exact_sum k minus (number x) (number y))
  clamped_sum number minus x y {z} {s} {limit} {marked = marked} ez hy es ea hx eb et hs em el ev =
      let e = added minus (number x) (number y) hx hy ez refl in
      let r = by_sides (number x) (number z) (cond minus 1 0) (number s) (double k some) hx e.0 e.1 refl es hs _ _ _
      (side (number x) hx _ refl) (side (number z) e.0 _ refl) (side (number s) hs _ refl) in
      let signs : marked ≡ sign_lost (ltb (number x) (2 ^ (k - 1))) (ltb (number z) (2 ^ (k - 1))) (ltb (number s) (2 ^ (k - 1))) = rw (ea, eb, et) at em in
      let held : number limit ≡ cond (ltb (number x) (2 ^ (k - 1))) (2 ^ (k - 1) - 1) (2 ^ (k - 1)) = rw ea at el in
      let value = ap number ev ∙ taken number marked limit s ∙ ap₂ (λ (m : Bool) (n : ℕ). cond m n (number s)) signs held in
      λ i. record {
        value = (value ∙ r.value_is ∙ sym (ap (clamped k) e.2)) i;
        marked = (signs ∙ r.mark_is ∙ sym (ap (is_marked k) e.2)) i;
      }

-- ---- what std reads as a signed number is this

pub as_cast : (w : Width) (n : ℕ) → 0 < width_of w → hbits w ≡ width_of w - 1 → n < 2 ^ width_of w → signed (width_of w) n ≡ to_z w n
as_cast w n some half l =
    either n (2 ^ (width_of w - 1))
    (λ h. signed_low (width_of w) some n h ∙ sym (rw (half, lt-ltb n _ h)))
    (λ h. signed_high (width_of w) some n h ∙ sub_neg n (2 ^ width_of w) l ∙ sym (rw (half, le-ltb n _ h)))

-- a product of two numbers of the width v in the width w, in which it fits: its casts change none of the signed numbers
pub product : (v w : Width) → 0 < width_of v → hbits v ≡ width_of v - 1 → 0 < width_of w → hbits w ≡ width_of w - 1 → (a b r : ℕ) (x y : ℤ)
    → a < 2 ^ width_of v → b < 2 ^ width_of v → r < 2 ^ width_of w → x ≡ to_z v a → y ≡ to_z v b
    → SFits v x → SFits v y → SFits w x → SFits w y → SFits w (x *ℤ y)
    → r ≡ of_z w (to_z w (of_z w (to_z w (of_z w (to_z v (of_z v x))) *ℤ to_z w (of_z w (to_z v (of_z v y))))))
    → signed (width_of w) r ≡ signed (width_of v) a *ℤ signed (width_of v) b
product v w sv hv sw hw a b r x y la lb lr ex ey fx fy gx gy g e =
    let f : r ≡ of_z w (x *ℤ y) = simp to_z-of_z at e in
    as_cast w r sw hw lr ∙ ap (to_z w) f ∙ to_z-of_z w (x *ℤ y) g ∙ ap₂ ◌*ℤ◌ (ex ∙ sym (as_cast v a sv hv la)) (ey ∙ sym (as_cast v b sv hv lb))
