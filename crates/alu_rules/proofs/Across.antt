-- An operation across registers is that operation at every word, halfword and long, as document 01 numbers them, and what it gives is a register of 32-bit
-- words again. Carried by `word_lane`.
-- Assumes nothing.
use Prim.Native.Nat.{ℕ, zero, suc, ◌+◌, ◌/◌, ◌%◌, ◌^◌, ◌<◌}
use mathlib.Core.Path.{◌≡◌, refl, sym, ap, ap₂, ◌∙◌}
use mathlib.Core.Bool.{Bool, true, false}
use native.Mathlib.Omega.{arith}
use lib.Dec.{eqb}
use lib.ListN.{get_or}
use lib.Pow as pow
use Rattle.register.specs.Halves.{low, high, half, join, halves₂}
use Rattle.register.proofs.Joined.{join_lt}
use Rattle.register.specs.declared.Register.{Register}
use Rattle.register.specs.Layout.{lane, row_of}
use Rattle.register.proofs.WordBounds.{Held}
use Rattle.register.proofs.Lanes.{word_lane, joined_lanes, half_lane, word_by_word}
use Rattle.alu_rules.specs.Across.{words₃, halfwords₂, of_longs, longs₃}

-- what f gives of numbers of k bits has k bits again
abbrev pub Keeps : ℕ → (ℕ → ℕ → ℕ → ℕ) → Type 0
Keeps k f = (x y z : ℕ) → x < 2 ^ k → y < 2 ^ k → z < 2 ^ k → f x y z < 2 ^ k

pub words_held : (f : ℕ → ℕ → ℕ → ℕ) → Keeps 32 f → (a b c : Register) → Held a → Held b → Held c → Held (words₃ f a b c)
words_held f keeps a b c ha hb hc = record {
  w0_fits = keeps a.w0 b.w0 c.w0 ha.w0_fits hb.w0_fits hc.w0_fits;
  w1_fits = keeps a.w1 b.w1 c.w1 ha.w1_fits hb.w1_fits hc.w1_fits;
  w2_fits = keeps a.w2 b.w2 c.w2 ha.w2_fits hb.w2_fits hc.w2_fits;
  w3_fits = keeps a.w3 b.w3 c.w3 ha.w3_fits hb.w3_fits hc.w3_fits;
}

pub at_words : (f : ℕ → ℕ → ℕ → ℕ) → Keeps 32 f → (a b c : Register) → Held a → Held b → Held c
    → (i : ℕ) → i < 4 → lane 32 i (words₃ f a b c) ≡ f (lane 32 i a) (lane 32 i b) (lane 32 i c)
at_words f keeps a b c ha hb hc i l =
    word_lane i _ (words_held f keeps a b c ha hb hc) ∙ in_row ∙ sym (λ j. f (word_lane i a ha j) (word_lane i b hb j) (word_lane i c hc j))
  where
    in_row : get_or (row_of (words₃ f a b c)) i 0 ≡ f (get_or (row_of a) i 0) (get_or (row_of b) i 0) (get_or (row_of c) i 0)
    in_row = word_by_word (λ (n : ℕ). f (get_or (row_of a) n 0) (get_or (row_of b) n 0) (get_or (row_of c) n 0)) _ refl refl refl refl i l

module _ (f : ℕ → ℕ → ℕ) (keeps : (x y : ℕ) → x < 2 ^ 16 → y < 2 ^ 16 → f x y < 2 ^ 16) (a b : Register) (ha : Held a) (hb : Held b) where
  low_fits : (x y : ℕ) → f (low 16 x) (low 16 y) < 2 ^ 16
  low_fits x y = keeps (low 16 x) (low 16 y) (omega arith) (omega arith)

  word_fits : Keeps 32 (λ (x y z : ℕ). halves₂ 16 f x y)
  word_fits x y z hx hy hz = join_lt 16 (keeps (high 16 x) (high 16 y) (omega arith) (omega arith)) (low_fits x y)

  pub halfwords_held : Held (halfwords₂ f a b)
  halfwords_held = words_held (λ (x y z : ℕ). halves₂ 16 f x y) word_fits a b b ha hb hb

  pub at_halfwords : (i : ℕ) → i < 8 → lane 16 i (halfwords₂ f a b) ≡ f (lane 16 i a) (lane 16 i b)
  at_halfwords i l =
      sym (half_lane 16 i _ refl) ∙ go (eqb (i % 2) 1) ∙ ap₂ f (half_lane 16 i a refl) (half_lane 16 i b refl)
    where
      word : lane 32 (i / 2) (halfwords₂ f a b) ≡ halves₂ 16 f (lane 32 (i / 2) a) (lane 32 (i / 2) b)
      word = at_words (λ (x y z : ℕ). halves₂ 16 f x y) word_fits a b b ha hb hb (i / 2) (omega arith)

      go : (t : Bool) → half 16 t (lane 32 (i / 2) (halfwords₂ f a b)) ≡ f (half 16 t (lane 32 (i / 2) a)) (half 16 t (lane 32 (i / 2) b))
      go true = ap (high 16) word ∙ pow.high _ 16 (low_fits _ _)
      go false = ap (low 16) word ∙ pow.low _ 16 (low_fits _ _)

-- long n of a row
abbrev long : Register → ℕ → ℕ
long r n = join 32 (get_or (row_of r) (n + n + 1) 0) (get_or (row_of r) (n + n) 0)

long_lane : (i : ℕ) (r : Register) → Held r → lane 64 i r ≡ long r i
long_lane i r h = sym (joined_lanes 32 i r) ∙ ap₂ (join 32) (word_lane (i + i + 1) r h) (word_lane (i + i) r h)

long_0_fits : {r : Register} → Held r → long r 0 < 2 ^ 64
long_0_fits h = join_lt 32 h.w1_fits h.w0_fits

long_1_fits : {r : Register} → Held r → long r 1 < 2 ^ 64
long_1_fits h = join_lt 32 h.w3_fits h.w2_fits

longs_in_row : (f : ℕ → ℕ → ℕ → ℕ) (a b c : Register) (n : ℕ) → n < 2 → long (longs₃ f a b c) n ≡ f (long a n) (long b n) (long c n)
longs_in_row f a b c zero l = pow.split (f (long a 0) (long b 0) (long c 0)) 32
longs_in_row f a b c (suc zero) l = pow.split (f (long a 1) (long b 1) (long c 1)) 32
longs_in_row f a b c (suc (suc n)) l = absurd (omega arith)

of_longs_held : {l1 l0 : ℕ} → l1 < 2 ^ 64 → l0 < 2 ^ 64 → Held (of_longs l1 l0)
of_longs_held h1 h0 = record { w0_fits = omega arith; w1_fits = omega arith; w2_fits = omega arith; w3_fits = omega arith }

pub longs_held : (f : ℕ → ℕ → ℕ → ℕ) → Keeps 64 f → (a b c : Register) → Held a → Held b → Held c → Held (longs₃ f a b c)
longs_held f keeps a b c ha hb hc =
    of_longs_held
    (keeps _ _ _ (long_1_fits ha) (long_1_fits hb) (long_1_fits hc))
    (keeps _ _ _ (long_0_fits ha) (long_0_fits hb) (long_0_fits hc))

pub at_longs : (f : ℕ → ℕ → ℕ → ℕ) → Keeps 64 f → (a b c : Register) → Held a → Held b → Held c
    → (i : ℕ) → i < 2 → lane 64 i (longs₃ f a b c) ≡ f (lane 64 i a) (lane 64 i b) (lane 64 i c)
at_longs f keeps a b c ha hb hc i l =
    long_lane i _ (longs_held f keeps a b c ha hb hc)
    ∙ longs_in_row f a b c i l
    ∙ sym (λ j. f (long_lane i a ha j) (long_lane i b hb j) (long_lane i c hc j))
