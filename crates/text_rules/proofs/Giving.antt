-- The line of a word: which form gives it, and that a word has the numbers of its line. Carried by the leading bits of a word, which tell the only form of an
-- instruction that can give it, and by its fields, which tell the numbers.
-- Assumes nothing.
use Prim.Native.Nat.{ℕ, zero, suc, ◌+◌, ◌*◌, ◌/◌, ◌%◌, ◌^◌, ◌≤◌, ◌<◌}
use mathlib.Core.Path.{◌≡◌, refl, sym, ap, subst, ◌∙◌}
use mathlib.Core.Logic.{◌↔◌}
use mathlib.Core.Bool.{Bool, true, false, cond, ◌&&◌, ◌||◌, true≢false}
use mathlib.Core.List.{List, [], ◌∷◌, map}
use native.Mathlib.Omega.{arith}
use native.Mathlib.Nat.{le_refl, le_of_suc-le-suc, mod-lt}
use borrow.Author.Tests.{lt-ltb, le-ltb, leb-true, eqb-true, eq-eqb}
use lib.Dec.{ltb, leb, eqb}
use lib.ListN.{length, get_or}
use Rattle.text_rules.specs.Forms.{Operand, rd, index, immediate, every_form, form_at}
use Rattle.text_rules.specs.Number.{Notation}
use Rattle.text_rules.specs.Listing.{number_in, numbers_in, put, word_with, gives, row_giving}
use Rattle.text_rules.proofs.Written.{Below, word_of}
use Rattle.text_rules.proofs.Rows.{both, every, agree, most, has_limit, has_limit_lem, first_passes, first_is, sound}
use Rattle.text_rules.proofs.Limits.{adds_at_most}
use Rattle.text_rules.proofs.Words.{IsMultiply, IsShort, li_words, multiply_words, short_words, multiply_base, multiply_operands, short_base, short_few, in_fields, first_field, for_listed, of_three_kinds, four}

-- ---- the row

-- a word with numbers below their limits is no less than without, and no more than with the largest
put_least : (word : ℕ) (os : List Operand) (vs : List ℕ) → word ≤ put word os vs
put_least word [] vs = le_refl word
put_least word (o ∷ os) [] = le_refl word
put_least word (o ∷ os) (v ∷ vs) = omega (arith, put_least (word + v * 2 ^ o.place) os vs)

put_most : (word : ℕ) (os : List Operand) (vs : List ℕ) → Below os vs → put word os vs ≤ word + most os
put_most word [] vs b = omega arith
put_most word (o ∷ os) [] b = absurd b
put_most word (o ∷ os) (v ∷ vs) b = omega (arith, put_most (word + v * 2 ^ o.place) os vs b.1, adds_at_most o v b.0)

-- "Bit 24 = 0: li"; "Bits 24..23 = 10: multiply-add or subtract. Bit 22 long, bit 21 subtract, bit 20 high"; "Bits 24..23 = 11: bits 18..15 choose"
abbrev pub row_by_bits : ℕ → ℕ
row_by_bits w = cond (ltb w 0x1000000) 0 (cond (ltb w 0x1800000) (1 + w / 0x100000 % 8) (9 + w / 0x8000 % 16))

pub by_bits_li : (w : ℕ) → w < 0x1000000 → row_by_bits w ≡ 0
by_bits_li w h = rw (lt-ltb w 0x1000000 h)

pub by_bits_multiply : (w k : ℕ) → k < 8 → 0x1000000 + k * 0x100000 ≤ w → w ≤ 0x1000000 + k * 0x100000 + 0xFFFFF → row_by_bits w ≡ 1 + k
by_bits_multiply w k h l u = rw (le-ltb w 0x1000000 (omega arith), lt-ltb w 0x1800000 (omega arith)) (omega arith)

pub by_bits_above : (w : ℕ) → 0x1800000 ≤ w → row_by_bits w ≡ 9 + w / 0x8000 % 16
by_bits_above w l = rw (le-ltb w 0x1000000 (omega arith), le-ltb w 0x1800000 l)

by_bits_short : (w code : ℕ) → code < 16 → 0x1800000 + code * 0x8000 ≤ w → w ≤ 0x1800000 + code * 0x8000 + 0x7FFF → row_by_bits w ≡ 9 + code
by_bits_short w code h l u = by_bits_above w (omega arith) ∙ omega arith

short_most : (code : ℕ) → code < 16 → leb (most (form_at (9 + code)).operands) 0x7FFF ≡ true
short_most = agree 16 (λ (code : ℕ). leb (most (form_at (9 + code)).operands) 0x7FFF) (λ (_ : ℕ). true) refl

-- the leading bits of a line's word tell its row
pub row_told : (row : ℕ) → row < 25 → (vs : List ℕ) → Below (form_at row).operands vs → row_by_bits (word_of row vs) ≡ row
row_told =
    of_three_kinds (λ (row : ℕ). (vs : List ℕ) → Below (form_at row).operands vs → row_by_bits (word_of row vs) ≡ row)
    (λ vs b. by_bits_li (word_of 0 vs) (omega (arith, put_most 0 (form_at 0).operands vs b)))
    (λ k h vs b.
    let f = form_at (1 + k) in
    by_bits_multiply (word_of (1 + k) vs) k h (omega (arith, multiply_base k h, put_least f.word f.operands vs))
    (omega (arith, multiply_base k h, put_most f.word f.operands vs b, ap most (multiply_operands k h))))
    (λ code h vs b.
    let f = form_at (9 + code) in
    by_bits_short (word_of (9 + code) vs) code h (omega (arith, short_base code h, put_least f.word f.operands vs))
    (omega (arith, short_base code h, put_most f.word f.operands vs b, leb-true (most f.operands) 0x7FFF (short_most code h))))

pub row_small : (w : ℕ) → row_by_bits w < 25
row_small w = by (ltb w 0x1000000) (ltb w 0x1800000)
  where
    by : (s t : Bool) → cond s 0 (cond t (1 + w / 0x100000 % 8) (9 + w / 0x8000 % 16)) < 25
    by true t = omega arith
    by false true = omega arith
    by false false = omega arith

-- ---- the numbers

-- those that a word has are below their limits
below_limits : (notation : Notation) (w : ℕ) (os : List Operand) → every (has_limit notation) os ≡ true → Below os (map (number_in w) os)
below_limits notation w [] e = tt
below_limits notation w (o ∷ os) e =
    let two = both (has_limit notation o) (every (has_limit notation) os) e in
    (mod-lt (w / 2 ^ o.place) (has_limit_lem notation o two.0).0, below_limits notation w os two.1)

pub numbers_below : (w row : ℕ) → row < 26 → Below (form_at row).operands (numbers_in w (form_at row))
numbers_below w row h = let f = form_at row in below_limits f.notation w f.operands (sound row h).limits

-- a limit of 16 or of 32
abbrev is_power : Operand → Bool
is_power o = eqb o.limit 16 || eqb o.limit 32

-- a number below its limit that stands in five bits is what is left over the limit too
same_left : (o : Operand) (q v : ℕ) → is_power o ≡ true → v < o.limit → q % 32 ≡ v → q % o.limit ≡ v
same_left o q v e h s = by (eqb o.limit 16) (eqb o.limit 32) refl refl e
  where
    by : (a b : Bool) → eqb o.limit 16 ≡ a → eqb o.limit 32 ≡ b → (a || b) ≡ true → q % o.limit ≡ v
    by true b f g t = let l = eqb-true o.limit 16 f in rw l (omega arith)
    by false true f g t = rw (eqb-true o.limit 32 g) s
    by false false f g t = absurd (true≢false (sym t))

-- fields of five bits from a place on that hold the numbers
told_fields : (os : List Operand) (place w : ℕ) (vs : List ℕ) → in_fields place os ≡ true → every is_power os ≡ true → Below os vs
    → ((i : ℕ) → i < length os → w / 2 ^ (place + 5 * i) % 32 ≡ get_or vs i 0) → map (number_in w) os ≡ vs
told_fields [] place w [] f p b held = refl
told_fields [] place w (v ∷ vs) f p b held = absurd b
told_fields (o ∷ os) place w [] f p b held = absurd b
told_fields (o ∷ os) place w (v ∷ vs) f p b held =
    let s = first_field o os place f in
    let two = both (is_power o) (every is_power os) p in
    let here : place + 5 * 0 ≡ o.place = omega (arith, s.0) in
    let first : number_in w o ≡ v
    = same_left o (w / 2 ^ o.place) v two.0 b.0 (ap (λ (n : ℕ). w / 2 ^ n % 32) (sym here) ∙ held 0 (omega arith)) in
    let rest : map (number_in w) os ≡ vs
    = told_fields os (place + 5) w vs s.2 two.1 b.1 (λ i h.
    let there : place + 5 + 5 * i ≡ place + 5 * suc i = omega arith in
    ap (λ (n : ℕ). w / 2 ^ n % 32) there ∙ held (suc i) (omega arith)) in
    λ i. first i ∷ rest i

others_in_fields : (k : ℕ) → k < 24 → (in_fields 0 (form_at (suc k)).operands && every is_power (form_at (suc k)).operands) ≡ true
others_in_fields = agree 24 (λ (k : ℕ). in_fields 0 (form_at (suc k)).operands && every is_power (form_at (suc k)).operands) (λ (_ : ℕ). true) refl

-- The numbers that a line's word has are the line's.
abbrev Told : ℕ → Type 0
Told row = (vs : List ℕ) → Below (form_at row).operands vs → numbers_in (word_of row vs) (form_at row) ≡ vs

li_told : Told 0
li_told =
    for_listed (rd ∷ index ∷ immediate ∷ []) (λ (vs : List ℕ). numbers_in (word_of 0 vs) (form_at 0) ≡ vs) (λ vs b.
    let f = li_words _ _ _ b.0 b.1.0 b.1.1.0 in
    λ i. f.in_rd i ∷ f.in_index i ∷ f.in_immediate i ∷ [])

-- where the fields of a word of another row hold the numbers
by_fields : (row : ℕ) → 0 < row → row < 25 → (w : ℕ) (vs : List ℕ) → Below (form_at row).operands vs
    → ((i : ℕ) → i < length (form_at row).operands → w / 2 ^ (0 + 5 * i) % 32 ≡ get_or vs i 0) → numbers_in w (form_at row) ≡ vs
by_fields zero some h w vs b held = absurd (omega arith)
by_fields (suc k) some h w vs b held =
    let os = (form_at (suc k)).operands in
    let two = both (in_fields 0 os) (every is_power os) (others_in_fields k (le_of_suc-le-suc h)) in
    told_fields os 0 w vs two.0 two.1 b held

multiply_told : (k : ℕ) → k < 8 → Told (1 + k)
multiply_told k h vs b =
    by_fields (1 + k) (omega arith) (omega arith) (word_of (1 + k) vs) vs b (λ i j.
    for_listed four (λ (us : List ℕ). word_of (1 + k) us / 2 ^ (0 + 5 * i) % 32 ≡ get_or us i 0) (λ us c.
    four_held _ _ _ _ c.0 c.1.0 c.1.1.0 c.1.1.1.0 i (omega (arith, ap length (multiply_operands k h))))
    vs (subst (λ (os : List Operand). Below os vs) (multiply_operands k h) b))
  where
    four_held : (d s1 s2 s3 : ℕ) → d < 32 → s1 < 32 → s2 < 32 → s3 < 32 → (i : ℕ) → i < 4
        → word_of (1 + k) (d ∷ s1 ∷ s2 ∷ s3 ∷ []) / 2 ^ (0 + 5 * i) % 32 ≡ get_or (d ∷ s1 ∷ s2 ∷ s3 ∷ []) i 0
    four_held d s1 s2 s3 hd h1 h2 h3 i j =
        let e : 4 * (k / 4) + 2 * (k / 2 % 2) + k % 2 ≡ k = omega arith in
        let f = multiply_words (k / 4) (k / 2 % 2) (k % 2) d s1 s2 s3 (omega arith) (omega arith) (omega arith) hd h1 h2 h3 in
        let word : ℕ → ℕ = λ n. word_of (1 + n) (d ∷ s1 ∷ s2 ∷ s3 ∷ []) in
        ap (λ (n : ℕ). word n / 2 ^ (0 + 5 * i) % 32) (sym e) ∙ one_of f i j
      where
        one_of : {w long subtract high : ℕ} → IsMultiply w long subtract high d s1 s2 s3 → (i : ℕ) → i < 4 → w / 2 ^ (0 + 5 * i) % 32 ≡ get_or (d ∷ s1 ∷ s2 ∷ s3 ∷ []) i 0
        one_of f zero j = f.in_rd
        one_of f (suc zero) j = f.in_rs1
        one_of f (suc (suc zero)) j = f.in_rs2
        one_of f (suc (suc (suc zero))) j = f.in_rs3
        one_of f (suc (suc (suc (suc i)))) j = absurd (omega arith)

short_told : (code : ℕ) → code < 16 → Told (9 + code)
short_told code h vs b =
    let os = (form_at (9 + code)).operands in
    let few = leb-true (length os) 3 (short_few code h) in
    let f = short_words code vs h b in
    by_fields (9 + code) (omega arith) (omega arith) (word_of (9 + code) vs) vs b (λ i j. one_of f i (omega arith))
  where
    one_of : {w : ℕ} → IsShort w code (get_or vs 0 0) (get_or vs 1 0) (get_or vs 2 0) → (i : ℕ) → i < 3 → w / 2 ^ (0 + 5 * i) % 32 ≡ get_or vs i 0
    one_of f zero j = f.in_rd
    one_of f (suc zero) j = f.in_rs1
    one_of f (suc (suc zero)) j = f.in_rs2
    one_of f (suc (suc (suc i))) j = absurd (omega arith)

pub numbers_told : (row : ℕ) → row < 25 → Told row
numbers_told = of_three_kinds Told li_told multiply_told short_told

-- ---- the form that gives a word

-- a word that a form gives is the word of its line
pub given : (w row : ℕ) → gives w (form_at row) ≡ true → word_of row (numbers_in w (form_at row)) ≡ w
given w row e = eqb-true _ _ e

own_given : (row : ℕ) (vs : List ℕ) → row < 25 → Below (form_at row).operands vs → gives (word_of row vs) (form_at row) ≡ true
own_given row vs h b = eq-eqb _ _ (ap (word_with (form_at row)) (numbers_told row h vs b))

-- numbers for a row's operands, with which its line has the word
pub record HasLine (row w : ℕ) : Type 0 where
  pub numbers : List ℕ
  pub below : Below (form_at row).operands numbers
  pub word : word_of row numbers ≡ w

-- A form of an instruction gives a word exactly where it has a line with that word.
pub gives_exactly : (row w : ℕ) → row < 25 → (gives w (form_at row) ≡ true) ↔ HasLine row w
gives_exactly row w h = (
  λ e. record { numbers = numbers_in w (form_at row); below = numbers_below w row (omega arith); word = given w row e },
  λ l. subst (λ (v : ℕ). gives v (form_at row) ≡ true) l.word (own_given row l.numbers h l.below),
)

-- and of the instructions' forms only that of its leading bits can give it
only_row : (w row : ℕ) → row < 25 → gives w (form_at row) ≡ true → row_by_bits w ≡ row
only_row w row h e =
    ap row_by_bits (sym (given w row e)) ∙ row_told row h (numbers_in w (form_at row)) (numbers_below w row (omega arith))

no_other : (w row : ℕ) → row < 25 → (row_by_bits w ≡ row → ⊥) → gives w (form_at row) ≡ false
no_other w row h isnt = by (gives w (form_at row)) refl
  where
    by : (t : Bool) → gives w (form_at row) ≡ t → gives w (form_at row) ≡ false
    by true e = absurd (isnt (only_row w row h e))
    by false e = e

word_gives : (w : ℕ) → w < 2 ^ 25 → gives w (form_at 25) ≡ true
word_gives w h = let same : word_of 25 (numbers_in w (form_at 25)) ≡ w = omega arith in eq-eqb _ _ same

-- The row of a word's line: that of its leading bits where that form gives it, and otherwise `.word`.
pub row_giving_lem : (w : ℕ) → w < 2 ^ 25 → row_giving w ≡ cond (gives w (form_at (row_by_bits w))) (row_by_bits w) 25
row_giving_lem w h = by (gives w (form_at (row_by_bits w))) refl
  where
    by : (t : Bool) → gives w (form_at (row_by_bits w)) ≡ t → row_giving w ≡ cond t (row_by_bits w) 25
    by true e =
        let small = row_small w in
        first_is (gives w) every_form (form_at 26) (row_by_bits w) (omega arith) e (λ k less. no_other w k (omega arith) (λ z. omega arith))
    by false e =
        first_is (gives w) every_form (form_at 26) 25 (omega arith) (word_gives w h)
        (λ k less. by_row k less (gives w (form_at k)) refl)
      where
        by_row : (k : ℕ) → k < 25 → (t : Bool) → gives w (form_at k) ≡ t → gives w (form_at k) ≡ false
        by_row k less true f = absurd (true≢false (sym f ∙ ap (λ (row : ℕ). gives w (form_at row)) (sym (only_row w k less f)) ∙ e))
        by_row k less false f = f

-- every word below 2^25 has a row that gives it
pub row_there : (w : ℕ) → w < 2 ^ 25 → row_giving w < 26
row_there w h = rw (row_giving_lem w h) (by (gives w (form_at (row_by_bits w))))
  where
    by : (t : Bool) → cond t (row_by_bits w) 25 < 26
    by true = let small = row_small w in omega arith
    by false = omega arith

pub given_there : (w : ℕ) → w < 2 ^ 25 → word_of (row_giving w) (numbers_in w (form_at (row_giving w))) ≡ w
given_there w h = given w (row_giving w) (first_passes (gives w) every_form (form_at 26) (row_there w h))

-- The line of an instruction's word is that line: its row, and its numbers.
pub own_line : (row : ℕ) (vs : List ℕ) → row < 25 → Below (form_at row).operands vs
    → (row_giving (word_of row vs) ≡ row) × (numbers_in (word_of row vs) (form_at row) ≡ vs)
own_line row vs h b =
    let w = word_of row vs in
    let small : w < 2 ^ 25 = omega (arith, put_most (form_at row).word (form_at row).operands vs b, (sound row (omega arith)).room) in
    let there : row_by_bits w ≡ row = row_told row h vs b in
    let gives-it : gives w (form_at (row_by_bits w)) ≡ true = ap (λ (r : ℕ). gives w (form_at r)) there ∙ own_given row vs h b in
    (row_giving_lem w small ∙ rw gives-it there, numbers_told row h vs b)
