-- The limits of what reading a text answers: at most 64 words, each below 2^25, and zeros beyond; so the writer of job files takes them. Carried by the most that the
-- operands of a row can add to its word, and by induction on the lines.
-- Assumes nothing.
use Prim.Native.Nat.{ℕ, zero, suc, ◌+◌, ◌-◌, ◌*◌, ◌^◌, ◌≤◌, ◌<◌}
use mathlib.Core.Path.{◌≡◌, refl, sym, ap, subst, ◌∙◌}
use mathlib.Core.Bool.{Bool, true, false, cond}
use mathlib.Core.List.{List, [], ◌∷◌, ◌++◌}
use native.Mathlib.Omega.{arith}
use native.Mathlib.Nat.{mul-le-mul_right}
use borrow.Author.Tests.{ltb-true, lt-ltb, eqb-true, not-false}
use lib.Dec.{ltb, lit≤}
use lib.ListN.{length, take, drop, replicate, length-append}
use lib.Seq.{take-append_seam}
use Rattle.table.specs.Refusal.{COUNT, WORD, LINES, first_bad}
use Rattle.table.proofs.Decided.{apart, ends}
use Rattle.table.specs.declared.Edition.{Edition}
use Rattle.job_rules.specs.Write.{Written, size_or_refusal, write_of}
use Rattle.text_rules.specs.Forms.{Operand, form_at, row_named}
use Rattle.text_rules.specs.Number.{Notation, base_of, is_numeral, digits_in, number_of, says_below}
use Rattle.text_rules.specs.Line.{Line, Operands, name_in, operands_in, line_of}
use Rattle.text_rules.specs.Text.{ReadText, accepted_text, refused_text, read_from, most_lines, read_text_of}
use Rattle.text_rules.proofs.Fronts.{all_append}
use Rattle.text_rules.proofs.Positional.{AllBelow}
use Rattle.text_rules.proofs.Rows.{both, most, sound}
use Rattle.text_rules.proofs.Fits.{last_stated, first_stated, taken}

-- ---- a line

pub says_below_lem : (notation : Notation) (limit : ℕ) (digits : List ℕ) → says_below notation limit digits ≡ true → number_of (base_of notation) digits < limit
unfolding says_below
says_below_lem notation limit digits e = ltb-true _ _ (both (is_numeral notation digits) (ltb (number_of (base_of notation) digits) limit) e).1

-- a number below its operand's limit adds no more than the largest one
pub adds_at_most : (o : Operand) (v : ℕ) → v < o.limit → v * 2 ^ o.place ≤ (o.limit - 1) * 2 ^ o.place
adds_at_most o v h = mul-le-mul_right (2 ^ o.place) (omega arith)

operands_add : (notation : Notation) (os : List Operand) (word size : ℕ) (l : List ℕ) → (operands_in notation os word size l).stated ≡ true
    → (operands_in notation os word size l).word ≤ word + most os
operands_add notation [] word size l e =
    let end : (operands_in notation [] word size l).word ≡ word = ap (λ (o : Operands). o.word) (last_stated notation word size l e).1 in
    omega arith
operands_add notation (o ∷ os) word size l e =
    let s = first_stated notation o os word size l e in
    let base : ℕ = base_of notation in
    let digits : List ℕ = digits_in base (drop 1 l) in
    let rest = operands_add notation os (word + number_of base digits * 2 ^ o.place) (size + 1 + length digits) (drop (1 + length digits) l)
    (sym (ap (λ (o : Operands). o.stated) s.others) ∙ e) in
    omega (arith, rest, ap (λ (o : Operands). o.word) s.others, adds_at_most o (number_of base digits) (says_below_lem notation o.limit digits s.says))

-- The word of a line that is accepted is below 2^25.
pub line_word : (l : List ℕ) → (line_of l).refusal ≡ 0 → (line_of l).word < 2 ^ 25
line_word l e =
    let t = taken l e in
    let f = form_at (row_named (name_in l)) in
    let added = operands_add f.notation f.operands f.word (length (name_in l)) (drop (length (name_in l)) l) t.stated in
    omega (arith, added, ap (λ (x : Line). x.word) t.answer, (sound (row_named (name_in l)) t.named).room)

-- ---- a text

-- what reading answers is a refusal behind at most 64 good lines, or at most 64 words below 2^25
module _ (P : ReadText → Type 0) (refused : (number good : ℕ) → good ≤ 64 → P (refused_text number good))
    (accepted : (words : List ℕ) → length words ≤ 64 → AllBelow (2 ^ 25) words → P (accepted_text words)) where
  from_here : (left : ℕ) (words l : List ℕ) → length words + left ≤ 64 → AllBelow (2 ^ 25) words → P (read_from left words l)
  unfolding read_from
  from_here zero words l h b =
      apart _ _ P _ _ (λ _. accepted words (omega arith) b) (λ _. subst P ends (refused LINES (length words) (omega arith)))
  from_here (suc left) words l h b =
      apart _ _ P _ _ (λ _. accepted words (omega arith) b) (λ _.
      apart _ _ P _ _ (λ _. refused (line_of l).refusal (length words) (omega arith)) (λ good.
      let zero-refusal : (line_of l).refusal ≡ 0 = eqb-true _ _ (not-false _ good) in
      subst P ends (from_here left (words ++ (line_of l).word ∷ []) (drop (line_of l).size l) (simp length-append (omega arith))
      (all_append _ words ((line_of l).word ∷ []) b (line_word l zero-refusal, tt)))))

  pub every_answer : (l : List ℕ) → P (read_text_of l)
  every_answer l = from_here most_lines [] l (lit≤ tt) tt

-- the words that a text is read as
abbrev pub words_read : ReadText → List ℕ
words_read t = take t.n.0 t.words

-- "at most 64 instructions": there are at most 64 words.
pub few_words : (l : List ℕ) → (read_text_of l).n.0 ≤ 64
few_words = every_answer (λ (t : ReadText). t.n.0 ≤ 64) (λ _ _ _. lit≤ tt) (λ _ few _. few)

-- They stand within the 64 that are answered.
pub words_within : (l : List ℕ) {r : ReadText} → r ≡ read_text_of l → r.n.0 ≤ length r.words
words_within l e =
    rw e (every_answer (λ (t : ReadText). t.n.0 ≤ length t.words) (λ _ _ _. lit≤ tt)
    (λ words _ _. omega (arith, length-append words (replicate (64 - length words) 0))) l)

-- Each of them is below 2^25.
pub words_below : (l : List ℕ) → AllBelow (2 ^ 25) (words_read (read_text_of l))
words_below =
    every_answer (λ (t : ReadText). AllBelow (2 ^ 25) (words_read t)) (λ _ _ _. tt)
    (λ words _ below. rw (take-append_seam words (replicate (64 - length words) 0)) below)

-- "The answer is the words and how many, by value": 64 places, and zeros beyond n.
pub zeros_beyond : (l : List ℕ) → (read_text_of l).words ≡ words_read (read_text_of l) ++ replicate (64 - (read_text_of l).n.0) 0
zeros_beyond =
    every_answer (λ (t : ReadText). t.words ≡ words_read t ++ replicate (64 - t.n.0) 0) (λ _ _ _. refl)
    (λ words _ _. rw (take-append_seam words (replicate (64 - length words) 0)))

-- A text that is refused has no words, and its faulty line is one of the first 65.
pub refused_zeros : (l : List ℕ) → ((read_text_of l).refusal ≡ 0 → ⊥)
    → ((read_text_of l).n.0 ≡ 0) × ((read_text_of l).words ≡ replicate 64 0) × (0 < (read_text_of l).line) × ((read_text_of l).line ≤ 65)
refused_zeros =
    every_answer (λ (t : ReadText). (t.refusal ≡ 0 → ⊥) → (t.n.0 ≡ 0) × (t.words ≡ replicate 64 0) × (0 < t.line) × (t.line ≤ 65))
    (λ _ good few _. (refl, refl, omega arith, omega arith)) (λ _ _ _ no. absurd (no refl))

-- ---- the writer of job files

pub below_is_good : (ws : List ℕ) → AllBelow (2 ^ 25) ws → first_bad ws ≡ length ws
unfolding first_bad
below_is_good [] h = refl
below_is_good (w ∷ ws) h = rw (lt-ltb w (2 ^ 25) h.0) (ap suc (below_is_good ws h.1))

-- and the other way round
pub good_is_below : (ws : List ℕ) → length ws ≤ first_bad ws → AllBelow (2 ^ 25) ws
unfolding first_bad
good_is_below [] e = tt
good_is_below (w ∷ ws) e = by (ltb w (2 ^ 25)) refl e (λ rest. good_is_below ws rest)
  where
    by : (t : Bool) → ltb w (2 ^ 25) ≡ t → suc (length ws) ≤ cond t (suc (first_bad ws)) 0 → (length ws ≤ first_bad ws → AllBelow (2 ^ 25) ws)
        → AllBelow (2 ^ 25) (w ∷ ws)
    by true f g rest = (ltb-true w (2 ^ 25) f, rest (omega arith))
    by false f g rest = absurd (omega arith)

pub words_count : (l : List ℕ) → length (words_read (read_text_of l)) ≡ (read_text_of l).n.0
words_count =
    every_answer (λ (t : ReadText). length (words_read t) ≡ t.n.0) (λ _ _ _. refl)
    (λ words _ _. ap length (take-append_seam words (replicate (64 - length words) 0)))

-- No word is one of 2^25 or more.
pub no_bad_word : (l : List ℕ) → first_bad (words_read (read_text_of l)) ≡ (read_text_of l).n.0
no_bad_word l = below_is_good (words_read (read_text_of l)) (words_below l) ∙ words_count l

abbrev pub NotForWords : Written → Type 0
NotForWords w = (w.refusal ≡ COUNT → ⊥) × (w.refusal ≡ WORD → ⊥)

takes_them : (edition : Edition) (words bytes out : List ℕ) → length words ≤ 64 → AllBelow (2 ^ 25) words → NotForWords (write_of edition words bytes out).0
unfolding write_of size_or_refusal
takes_them edition words bytes out few below =
    apart _ _ NotForWords _ _ (λ many. let h = ltb-true 64 (length words) many in absurd (omega arith)) (λ _.
    apart _ _ NotForWords _ _ (λ _. (λ e. omega arith, λ e. omega arith)) (λ _.
    apart _ _ NotForWords _ _ (λ bad. let h = ltb-true (first_bad words) (length words) bad in absurd (omega (arith, below_is_good words below))) (λ _.
    apart _ _ NotForWords _ _ (λ _. (λ e. omega arith, λ e. omega arith)) (λ _.
    apart _ _ NotForWords _ _ (λ _. (λ e. omega arith, λ e. omega arith)) (λ _.
    subst NotForWords ends (λ e. omega arith, λ e. omega arith))))))

-- Whatever the edition, whatever registers go with them and whatever the buffer, the writer refuses the words of a text neither with 2 nor with 6.
pub writer_takes_words : (edition : Edition) (l bytes out : List ℕ) → NotForWords (write_of edition (words_read (read_text_of l)) bytes out).0
writer_takes_words edition l bytes out = takes_them edition (words_read (read_text_of l)) bytes out (omega (arith, few_words l, words_count l)) (words_below l)
