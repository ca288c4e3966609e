-- "Each clamping instruction is to say which lanes were clamped": what each mark says of the lanes of its value. Carried by one law over the width of a lane,
-- that a result is marked exactly where its clamp changes it, and one over the halfwords in a lane, that its mark is the bit of its lowest halfword.
-- Assumes nothing.
use Prim.Native.Nat.{ℕ, zero, suc, ◌+◌, ◌-◌, ◌*◌, ◌/◌, ◌%◌, ◌^◌, ◌<◌}
use mathlib.Core.Path.{◌≡◌, refl, sym, ap, ap₂, ◌∙◌, subst⁻¹}
use mathlib.Core.Bool.{Bool, true, false, cond, ◌||◌, true≢false}
use mathlib.Core.Logic.{◌⊎◌, inl, inr}
use native.Mathlib.Omega.{arith}
use native.Mathlib.Nat.{pow-suc, lt_of_lt_of_le, mod-lt, zero-mod, mul-mod_right, div-eq_of_lt, div-add-mod, mul-div-le, mul-div_cancel_left}
use native.Mathlib.Numerals.{one-add}
use borrow.Author.Tests.{lt-ltb, le-ltb, eqb-true, eqb-false, ne_eqb}
use lib.Dec.{eqb, lit<}
use lib.IntN.{ℤ, pos, negsuc}
use lib.Pow as pow
use lib.Signed.{mag, lt_z}
use Rattle.register.specs.declared.Register.{Register}
use Rattle.register.specs.Layout.{number, lane}
use Rattle.register.proofs.WordBounds.{Held}
use Rattle.register.proofs.Lanes.{word_lane, half_lane}
use Rattle.table.specs.Operation.{Operation, operation_of}
use Rattle.table.specs.Operation.Operation.{li, simal, simah, simsl, simsh, slmal, slmah, slmsl, slmsh}
use Rattle.table.specs.Operation.Operation.{nop, shrhi, au, cntih, ahs, or, bcw, maxws, minws, mlhu, mlhcu, and, clzw, rotw, sfwu, sfhs}
use Rattle.alu_rules.specs.Width.{signed, greatest, within, clamped, is_marked}
use Rattle.alu_rules.specs.Lane.{AHS, SFHS}
use Rattle.alu_rules.specs.Across.{words₃, halfwords₂, longs₃, lane_mark, bits_of_lanes, clamped_across, multiply_lane}
use Rattle.alu_rules.specs.Result.{result_of, outcome_of}
use Rattle.alu_rules.proofs.Integers.{either, neg_pos}
use Rattle.alu_rules.proofs.Bits.{bit, field_of_low}
use Rattle.alu_rules.proofs.Clamped.{inside_pos, above, inside_neg, beneath, signed_of_clamped, clamped_lt}
use Rattle.alu_rules.proofs.Across.{words_held, halfwords_held, longs_held}
use Rattle.alu_rules.proofs.EachLane.{Standing, lanes_of, exact_result, exact_halfword, exact_word, exact_long}

-- ---- a mark says that the clamp changed the result

-- m is `set`, and x is not z; or m is `clear`, and x is z
abbrev pub Tells : {A : Type 0} → A → A → A → ℤ → ℤ → Type 0
Tells set clear m x z = ((m ≡ set) × (x ≡ z → ⊥)) ⊎ ((m ≡ clear) × (x ≡ z))

-- integers of different magnitudes are not the same
apart : {t n : ℕ} {x y : ℤ} → t < n → mag x ≡ t → mag y ≡ n → x ≡ y → ⊥
apart h a b e =
    let same = sym a ∙ ap mag e ∙ b in
    omega arith

-- of the clamp between -(t + 1) and t
tells_within : (t : ℕ) (z : ℤ) → Tells true false (lt_z z (negsuc t) || lt_z (pos t) z) (within (negsuc t) (pos t) z) z
tells_within t (pos n) =
    either t n
    (λ h. inl (lt-ltb t n h, apart h (ap mag (above t n h)) refl))
    (λ h. inr (le-ltb t n h, inside_pos t n h))
tells_within t (negsuc n) =
    either t n
    (λ h. inl (ap (λ (b : Bool). b || false) (lt-ltb t n h), apart h (ap mag (beneath t n h)) refl))
    (λ h. inr (ap (λ (b : Bool). b || false) (le-ltb t n h), inside_neg t n h))

-- a result is marked exactly where its clamped bits, read, are not that result: "A lane that lands on the limit exactly has no mark."
pub marked_where_changed : (k : ℕ) → 0 < k → (z : ℤ) → Tells true false (is_marked k z) (signed k (clamped k z)) z
marked_where_changed k some z =
    subst⁻¹ (λ (x : ℤ). Tells true false (is_marked k z) x z) (signed_of_clamped k some z)
    (subst⁻¹ (λ (l : ℤ). Tells true false (lt_z z l || lt_z (greatest k) z) (within l (greatest k) z) z)
    (neg_pos (2 ^ (k - 1)) (pow.pow_pos (k - 1))) (tells_within (2 ^ (k - 1) - 1) z))

-- the same by a bit
as_bit : {t : Bool} {b : ℕ} {x y z : ℤ} → Tells true false t y z → b ≡ cond t 1 0 → x ≡ y → Tells 1 0 b x z
as_bit (inl told) e f = inl (e ∙ ap (λ (t : Bool). cond t 1 0) told.0, λ same. told.1 (sym f ∙ same))
as_bit (inr told) e f = inr (e ∙ ap (λ (t : Bool). cond t 1 0) told.0, f ∙ told.1)

-- ---- the bits of a number by its binary digits

-- f 0 + 2 * f 1 + .. + 2^(n-1) * f (n-1)
unfoldable binary : ℕ → (ℕ → ℕ) → ℕ
binary zero f = 0
binary (suc n) f = f 0 + 2 * binary n (λ (j : ℕ). f (suc j))

binary_lt : (n : ℕ) (f : ℕ → ℕ) → ((j : ℕ) → j < n → f j < 2) → binary n f < 2 ^ n
unfolding binary
binary_lt zero f digits = omega arith
binary_lt (suc n) f digits =
    omega (arith, digits 0 (omega arith), binary_lt n (λ (j : ℕ). f (suc j)) (λ j h. digits (suc j) (omega arith)), pow-suc 2 n)

bit_of_binary : (n : ℕ) (f : ℕ → ℕ) → ((j : ℕ) → j < n → f j < 2) → (j : ℕ) → j < n → bit j (binary n f) ≡ f j
unfolding binary
bit_of_binary zero f digits j l = absurd (omega arith)
bit_of_binary (suc n) f digits zero l = omega (arith, digits 0 l)
bit_of_binary (suc n) f digits (suc j) l =
    let rest = binary n (λ (i : ℕ). f (suc i)) in
    let moved : (f 0 + 2 * rest) / 2 ≡ rest = omega (arith, digits 0 (omega arith)) in
    ap (λ (i : ℕ). (f 0 + 2 * rest) / 2 ^ i % 2) (sym (one-add j))
    ∙ ap (λ (x : ℕ). x % 2) (sym (pow.shr-shr (f 0 + 2 * rest) 1 j))
    ∙ ap (bit j) moved
    ∙ bit_of_binary n (λ (i : ℕ). f (suc i)) (λ i h. digits (suc i) (omega arith)) j (omega arith)

-- a register's mark has the halfwords of its lane marks for digits
by_halfwords : (r : Register) → Held r → bits_of_lanes r ≡ binary 8 (λ (j : ℕ). lane 16 j r)
unfolding binary
by_halfwords r held =
    let h0 = half_lane 16 0 r (sym (word_lane 0 r held)) in
    let h1 = half_lane 16 1 r (sym (word_lane 0 r held)) in
    let h2 = half_lane 16 2 r (sym (word_lane 1 r held)) in
    let h3 = half_lane 16 3 r (sym (word_lane 1 r held)) in
    let h4 = half_lane 16 4 r (sym (word_lane 2 r held)) in
    let h5 = half_lane 16 5 r (sym (word_lane 2 r held)) in
    let h6 = half_lane 16 6 r (sym (word_lane 3 r held)) in
    let h7 = half_lane 16 7 r (sym (word_lane 3 r held)) in
    omega arith

-- ---- lanes of q halfwords, at each of which stands 0 or 1

-- halfword m of lane i of q halfwords
halfword_of_lane : (q i m : ℕ) (r : Register) → m < q → lane 16 (q * i + m) r ≡ lane (16 * q) i r / 2 ^ (16 * m) % 2 ^ 16
unfolding lane
halfword_of_lane q i m r h =
    ap (λ (n : ℕ). number r / 2 ^ n % 2 ^ 16) (omega arith)
    ∙ ap (λ (x : ℕ). x % 2 ^ 16) (sym (pow.shr-shr (number r) (16 * q * i) (16 * m)))
    ∙ sym (field_of_low (16 * q) (16 * m) 16 (number r / 2 ^ (16 * q * i)) (omega arith))

-- bit j: what stands at lane i, c i, at the bit of its lowest halfword, and 0 elsewhere
abbrev pub at_lowest : ℕ → (ℕ → ℕ) → ℕ → ℕ
at_lowest q c j = cond (eqb (j % q) 0) (c (j / q)) 0

module _ (q : ℕ) (some : 0 < q) (r : Register) (held : Held r) (c : ℕ → ℕ)
    (at : (i : ℕ) → 16 * q * i < 128 → lane (16 * q) i r ≡ c i) (digits : (i : ℕ) → 16 * q * i < 128 → c i < 2) where
  module _ (j : ℕ) (l : j < 8) where
    inside : 16 * q * (j / q) < 128
    inside = omega (arith, mul-div-le j q)

    mark_in_halfword : lane 16 j r ≡ at_lowest q c j
    mark_in_halfword =
        ap (λ (n : ℕ). lane 16 n r) (sym (div-add-mod j q))
        ∙ halfword_of_lane q (j / q) (j % q) r (mod-lt j some)
        ∙ ap (λ (x : ℕ). x / 2 ^ (16 * (j % q)) % 2 ^ 16) (at (j / q) inside)
        ∙ go (eqb (j % q) 0) refl
      where
        go : (t : Bool) → eqb (j % q) 0 ≡ t → c (j / q) / 2 ^ (16 * (j % q)) % 2 ^ 16 ≡ cond t (c (j / q)) 0
        go true e =
            ap (λ (m : ℕ). c (j / q) / 2 ^ (16 * m) % 2 ^ 16) (eqb-true (j % q) 0 e) ∙ omega (arith, digits (j / q) inside)
        go false e =
            let other = eqb-false (j % q) 0 e in
            let beyond : c (j / q) < 2 ^ (16 * (j % q)) = lt_of_lt_of_le (digits (j / q) inside) (pow.pow_mono {i = 1} (omega arith)) in
            ap (λ (x : ℕ). x % 2 ^ 16) (div-eq_of_lt beyond) ∙ zero-mod (2 ^ 16)

    lowest_lt : at_lowest q c j < 2
    lowest_lt = go (eqb (j % q) 0)
      where
        go : (t : Bool) → cond t (c (j / q)) 0 < 2
        go true = digits (j / q) inside
        go false = omega arith

  halfword_lt : (j : ℕ) → j < 8 → lane 16 j r < 2
  halfword_lt j l = subst⁻¹ (λ (x : ℕ). x < 2) (mark_in_halfword j l) (lowest_lt j l)

  -- so bit j of the mark is that of lane j / q where j is that lane's lowest halfword, and 0 elsewhere; and there are eight bits
  pub bits_of_lanes_lem : ((j : ℕ) → j < 8 → bit j (bits_of_lanes r) ≡ at_lowest q c j) × (bits_of_lanes r < 2 ^ 8)
  bits_of_lanes_lem = (
    λ j l. ap (bit j) (by_halfwords r held) ∙ bit_of_binary 8 (λ (i : ℕ). lane 16 i r) halfword_lt j l ∙ mark_in_halfword j l,
    subst⁻¹ (λ (x : ℕ). x < 2 ^ 8) (by_halfwords r held) (binary_lt 8 (λ (i : ℕ). lane 16 i r) halfword_lt),
  )

-- ---- what a mark says of its value

-- What the mark m says of a register v whose lanes of k bits have the exact results z. Lane i begins at halfword k * i / 16, and that bit is 1 where the lane,
-- read as a signed number, is not the exact result, and 0 where it is. Every bit whose halfword begins no lane is 0. And there are eight bits.
pub record Marks (k : ℕ) (z : ℕ → ℤ) (v : Register) (m : ℕ) : Type 0 where
  pub at_lanes : (i : ℕ) → k * i < 128 → Tells 1 0 (bit (k * i / 16) m) (signed k (lane k i v)) (z i)
  pub elsewhere : (j : ℕ) → j < 8 → (16 * j % k ≡ 0 → ⊥) → bit j m ≡ 0
  pub eight_bits : m < 2 ^ 8

-- by what stands at the lanes: of numbers the mark is 0, of exact results that are clamped it is as above
abbrev pub MarkOf : ℕ → Standing → Register → ℕ → Type 0
MarkOf k (Standing.stands f) v m = m ≡ 0
MarkOf k (Standing.clamps z) v m = Marks k z v m

-- what is laid over the exact results z, be it their clamp or their mark, stands at the lanes, where it has the bits of a lane
record Laid (k : ℕ) (z : ℕ → ℤ) (over : (ℤ → ℕ) → Register) : Type 0 where
  register_held : (g : ℤ → ℕ) → ((x : ℤ) → g x < 2 ^ k) → Held (over g)
  stands_at : (g : ℤ → ℕ) → ((x : ℤ) → g x < 2 ^ k) → (i : ℕ) → k * i < 128 → lane k i (over g) ≡ g (z i)

lane_mark_lt : (k : ℕ) (z : ℤ) → lane_mark k z < 2
lane_mark_lt k z = go (is_marked k z)
  where
    go : (t : Bool) → cond t 1 0 < 2
    go true = omega arith
    go false = omega arith

-- the one argument of the three widths: lanes of q halfwords
module _ (q : ℕ) (some : 0 < q) (z : ℕ → ℤ) (over : (ℤ → ℕ) → Register) (laid : Laid (16 * q) z over) where
  abbrev lane_marks : Register
  lane_marks = over (lane_mark (16 * q))

  lane_mark_fits : (x : ℤ) → lane_mark (16 * q) x < 2 ^ (16 * q)
  lane_mark_fits x = lt_of_lt_of_le (lane_mark_lt (16 * q) x) (pow.pow_mono {i = 1} (omega arith))

  in_bits : ((j : ℕ) → j < 8 → bit j (bits_of_lanes lane_marks) ≡ at_lowest q (λ (i : ℕ). lane_mark (16 * q) (z i)) j) × (bits_of_lanes lane_marks < 2 ^ 8)
  in_bits =
      bits_of_lanes_lem q some lane_marks (laid.register_held (lane_mark (16 * q)) lane_mark_fits) (λ (i : ℕ). lane_mark (16 * q) (z i))
      (laid.stands_at (lane_mark (16 * q)) lane_mark_fits) (λ i l. lane_mark_lt (16 * q) (z i))

  -- lane i begins at bit 16 * q * i of the register, so at halfword q * i
  at_lane : (i : ℕ) → 16 * q * i < 128 → bit (16 * q * i / 16) (bits_of_lanes lane_marks) ≡ lane_mark (16 * q) (z i)
  at_lane i l =
      let place : 16 * q * i / 16 ≡ q * i = omega arith in
      ap (λ (j : ℕ). bit j (bits_of_lanes lane_marks)) place
      ∙ in_bits.0 (q * i) (omega arith)
      ∙ ap₂ (λ (m n : ℕ). cond (eqb m 0) (lane_mark (16 * q) (z n)) 0) (mul-mod_right q i) (mul-div_cancel_left i some)

  lowest_of_lane : (j : ℕ) → j % q ≡ 0 → 16 * j % (16 * q) ≡ 0
  lowest_of_lane j e =
      let whole = div-add-mod j q in
      let lanes : 16 * j ≡ 16 * q * (j / q) = omega arith in
      ap (λ (n : ℕ). n % (16 * q)) lanes ∙ mul-mod_right (16 * q) (j / q)

  marks_of_lanes : Marks (16 * q) z (clamped_across (16 * q) over).value (clamped_across (16 * q) over).mark
  marks_of_lanes = record {
    at_lanes = λ i l.
        as_bit (marked_where_changed (16 * q) (omega arith) (z i)) (at_lane i l)
        (ap (signed (16 * q)) (laid.stands_at (clamped (16 * q)) (clamped_lt (16 * q) (omega arith)) i l));
    elsewhere = λ j l other.
        in_bits.0 j l ∙ ap (λ (t : Bool). cond t (lane_mark (16 * q) (z (j / q))) 0) (ne_eqb (j % q) 0 (λ e. other (lowest_of_lane j e)));
    eight_bits = in_bits.1;
  }

module _ (w : ℕ) (rs1 rs2 rs3 : Register) (h1 : Held rs1) (h2 : Held rs2) (h3 : Held rs3) where
  of_halfwords : (f : ℕ → ℕ → ℤ)
      → Laid 16 (λ (i : ℕ). f (lane 16 i rs1) (lane 16 i rs2)) (λ (g : ℤ → ℕ). halfwords₂ (λ (x y : ℕ). g (f x y)) rs1 rs2)
  of_halfwords f = record {
    register_held = λ g fits. halfwords_held (λ (x y : ℕ). g (f x y)) (λ x y hx hy. fits _) rs1 rs2 h1 h2;
    stands_at = λ g fits i l. exact_halfword w rs1 rs2 rs3 h1 h2 h3 i f g fits l;
  }

  of_words : (s h : Bool)
      → Laid 32 (λ (i : ℕ). exact_result rs1 rs2 rs3 i s h 16) (λ (g : ℤ → ℕ). words₃ (λ (x y z : ℕ). g (multiply_lane 16 s h x y z)) rs1 rs2 rs3)
  of_words s h = record {
    register_held = λ g fits. words_held (λ (x y z : ℕ). g (multiply_lane 16 s h x y z)) (λ x y z hx hy hz. fits _) rs1 rs2 rs3 h1 h2 h3;
    stands_at = λ g fits i l. exact_word w rs1 rs2 rs3 h1 h2 h3 i s h g fits l;
  }

  of_longs_lem : (s h : Bool)
      → Laid 64 (λ (i : ℕ). exact_result rs1 rs2 rs3 i s h 32) (λ (g : ℤ → ℕ). longs₃ (λ (x y z : ℕ). g (multiply_lane 32 s h x y z)) rs1 rs2 rs3)
  of_longs_lem s h = record {
    register_held = λ g fits. longs_held (λ (x y z : ℕ). g (multiply_lane 32 s h x y z)) (λ x y z hx hy hz. fits _) rs1 rs2 rs3 h1 h2 h3;
    stands_at = λ g fits i l. exact_long w rs1 rs2 rs3 h1 h2 h3 i s h g fits l;
  }

  -- every row of the table: its mark says which lanes of its value were clamped, and is 0 where the row clamps nothing
  pub marks_at_each_lane : (o : Operation)
      → (let row = lanes_of o w rs1 rs2 rs3 in let got = result_of o w rs1 rs2 rs3 in MarkOf row.width row.at got.value got.mark)
  unfolding result_of lanes_of
  marks_at_each_lane li = refl
  marks_at_each_lane simal = marks_of_lanes 2 (lit< tt) _ _ (of_words false false)
  marks_at_each_lane simah = marks_of_lanes 2 (lit< tt) _ _ (of_words false true)
  marks_at_each_lane simsl = marks_of_lanes 2 (lit< tt) _ _ (of_words true false)
  marks_at_each_lane simsh = marks_of_lanes 2 (lit< tt) _ _ (of_words true true)
  marks_at_each_lane slmal = marks_of_lanes 4 (lit< tt) _ _ (of_longs_lem false false)
  marks_at_each_lane slmah = marks_of_lanes 4 (lit< tt) _ _ (of_longs_lem false true)
  marks_at_each_lane slmsl = marks_of_lanes 4 (lit< tt) _ _ (of_longs_lem true false)
  marks_at_each_lane slmsh = marks_of_lanes 4 (lit< tt) _ _ (of_longs_lem true true)
  marks_at_each_lane nop = refl
  marks_at_each_lane shrhi = refl
  marks_at_each_lane au = refl
  marks_at_each_lane cntih = refl
  marks_at_each_lane ahs = marks_of_lanes 1 (lit< tt) _ _ (of_halfwords AHS)
  marks_at_each_lane or = refl
  marks_at_each_lane bcw = refl
  marks_at_each_lane maxws = refl
  marks_at_each_lane minws = refl
  marks_at_each_lane mlhu = refl
  marks_at_each_lane mlhcu = refl
  marks_at_each_lane and = refl
  marks_at_each_lane clzw = refl
  marks_at_each_lane rotw = refl
  marks_at_each_lane sfwu = refl
  marks_at_each_lane sfhs = marks_of_lanes 1 (lit< tt) _ _ (of_halfwords SFHS)

-- ---- "Other instructions give zero"

-- the ten that clamp: the multiply family, AHS and SFHS
abbrev pub is_clamping : Operation → Bool
is_clamping li = false
is_clamping simal = true
is_clamping simah = true
is_clamping simsl = true
is_clamping simsh = true
is_clamping slmal = true
is_clamping slmah = true
is_clamping slmsl = true
is_clamping slmsh = true
is_clamping nop = false
is_clamping shrhi = false
is_clamping au = false
is_clamping cntih = false
is_clamping ahs = true
is_clamping or = false
is_clamping bcw = false
is_clamping maxws = false
is_clamping minws = false
is_clamping mlhu = false
is_clamping mlhcu = false
is_clamping and = false
is_clamping clzw = false
is_clamping rotw = false
is_clamping sfwu = false
is_clamping sfhs = true

-- whatever numbers the operands hold
pub never_marks : (o : Operation) → is_clamping o ≡ false → (w : ℕ) (rs1 rs2 rs3 : Register) → (result_of o w rs1 rs2 rs3).mark ≡ 0
unfolding result_of
never_marks li e w rs1 rs2 rs3 = refl
never_marks simal e w rs1 rs2 rs3 = absurd (true≢false e)
never_marks simah e w rs1 rs2 rs3 = absurd (true≢false e)
never_marks simsl e w rs1 rs2 rs3 = absurd (true≢false e)
never_marks simsh e w rs1 rs2 rs3 = absurd (true≢false e)
never_marks slmal e w rs1 rs2 rs3 = absurd (true≢false e)
never_marks slmah e w rs1 rs2 rs3 = absurd (true≢false e)
never_marks slmsl e w rs1 rs2 rs3 = absurd (true≢false e)
never_marks slmsh e w rs1 rs2 rs3 = absurd (true≢false e)
never_marks nop e w rs1 rs2 rs3 = refl
never_marks shrhi e w rs1 rs2 rs3 = refl
never_marks au e w rs1 rs2 rs3 = refl
never_marks cntih e w rs1 rs2 rs3 = refl
never_marks ahs e w rs1 rs2 rs3 = absurd (true≢false e)
never_marks or e w rs1 rs2 rs3 = refl
never_marks bcw e w rs1 rs2 rs3 = refl
never_marks maxws e w rs1 rs2 rs3 = refl
never_marks minws e w rs1 rs2 rs3 = refl
never_marks mlhu e w rs1 rs2 rs3 = refl
never_marks mlhcu e w rs1 rs2 rs3 = refl
never_marks and e w rs1 rs2 rs3 = refl
never_marks clzw e w rs1 rs2 rs3 = refl
never_marks rotw e w rs1 rs2 rs3 = refl
never_marks sfwu e w rs1 rs2 rs3 = refl
never_marks sfhs e w rs1 rs2 rs3 = absurd (true≢false e)

-- the same of a word
pub word_never_marks : (w : ℕ) → is_clamping (operation_of w) ≡ false → (rs1 rs2 rs3 : Register) → (outcome_of w rs1 rs2 rs3).mark ≡ 0
unfolding outcome_of
word_never_marks w e rs1 rs2 rs3 = never_marks (operation_of w) e w rs1 rs2 rs3
