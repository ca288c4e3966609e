-- What the rows of the table give. Carried by computation: each law is one line for each row, or one test over all sixteen short codes.
-- Assumes nothing.
use Prim.Native.Nat.{ℕ}
use mathlib.Core.Path.{◌≡◌, refl, sym, ap, ◌∙◌}
use mathlib.Core.Bool.{Bool, true, false, cond}
use mathlib.Core.List.{map}
use lib.ListN.{get_or, set, get_or-map}
use lib.Seq.{get_or-set_other}
use Rattle.register.specs.declared.Register.{Register}
use Rattle.register.specs.Layout.{zero_register, with_halfword}
use Rattle.alu_rules.specs.Across.{unmarked, multiplied}
use Rattle.table.specs.Fields.{is_li, is_multiply, is_long, is_subtract, is_high, code_of, index_of, immediate_of}
use Rattle.table.specs.Operation.{Operation, operation_of, multiply_row, short_rows, reads_of, takes_first, takes_second, takes_third}
use Rattle.table.specs.Operation.Operation.{li, simal, simah, simsl, simsh, slmal, slmah, slmsl, slmsh}
use Rattle.table.specs.Operation.Operation.{nop, shrhi, au, cntih, ahs, or, bcw, maxws, minws, mlhu, mlhcu, and, clzw, rotw, sfwu, sfhs}
use Rattle.table.proofs.Rows.{each_choice, all_alike, li_word_lem, multiply_word_lem, short_word_lem}
use Rattle.alu_rules.specs.declared.Outcome.{Outcome}
use Rattle.alu_rules.specs.Result.{result_of, outcome_of}

-- ---- the rows

-- the three bits choose the row that they name
row_multiplies : (w : ℕ) (a b c : Register) (long subtract high : Bool) → result_of (multiply_row long subtract high) w a b c ≡ multiplied long subtract high a b c
unfolding result_of
row_multiplies w a b c =
    each_choice (λ x y z. result_of (multiply_row x y z) w a b c ≡ multiplied x y z a b c) refl refl refl refl refl refl refl refl

-- zero in place of what is not read
abbrev pub gate : Bool → Register → Register
gate reads r = cond reads r zero_register

gated : (o : Operation) (w : ℕ) (a b c : Register)
    → result_of o w a b c ≡ result_of o w (gate (takes_first (reads_of o)) a) (gate (takes_second (reads_of o)) b) (gate (takes_third (reads_of o)) c)
unfolding result_of
gated li w a b c = refl
gated simal w a b c = refl
gated simah w a b c = refl
gated simsl w a b c = refl
gated simsh w a b c = refl
gated slmal w a b c = refl
gated slmah w a b c = refl
gated slmsl w a b c = refl
gated slmsh w a b c = refl
gated nop w a b c = refl
gated shrhi w a b c = refl
gated au w a b c = refl
gated cntih w a b c = refl
gated ahs w a b c = refl
gated or w a b c = refl
gated bcw w a b c = refl
gated maxws w a b c = refl
gated minws w a b c = refl
gated mlhu w a b c = refl
gated mlhcu w a b c = refl
gated and w a b c = refl
gated clzw w a b c = refl
gated rotw w a b c = refl
gated sfwu w a b c = refl
gated sfhs w a b c = refl

-- an operand that the table says is not read has no effect on the outcome
pub outcome_gated : (w : ℕ) (a b c : Register)
    → (let r = reads_of (operation_of w) in outcome_of w a b c ≡ outcome_of w (gate (takes_first r) a) (gate (takes_second r) b) (gate (takes_third r) c))
unfolding outcome_of
outcome_gated w a b c = gated (operation_of w) w a b c

-- no short code reads a third operand: one test over the sixteen
no_third : (k : ℕ) → takes_third (reads_of (get_or short_rows k nop)) ≡ false
no_third k = sym (get_or-map (λ (o : Operation). takes_third (reads_of o)) short_rows k nop) ∙ all_alike false 16 k

short_third : (k w : ℕ) (a b c d : Register) → result_of (get_or short_rows k nop) w a b c ≡ result_of (get_or short_rows k nop) w a b d
short_third k w a b c d = with_zero c ∙ sym (with_zero d)
  where
    o : Operation
    o = get_or short_rows k nop

    with_zero : (x : Register) → result_of o w a b x ≡ result_of o w (gate (takes_first (reads_of o)) a) (gate (takes_second (reads_of o)) b) zero_register
    with_zero x =
        gated o w a b x
        ∙ ap (λ (t : Bool). result_of o w (gate (takes_first (reads_of o)) a) (gate (takes_second (reads_of o)) b) (gate t x)) (no_third k)

-- of the short codes only AHS, 4, and SFHS, 15, mark: with 0 for their marks, one test over the sixteen
no_mark : (k w : ℕ) (a b : Register) → (k ≡ 4 → ⊥) → (k ≡ 15 → ⊥) → (result_of (get_or short_rows k nop) w a b zero_register).mark ≡ 0
unfolding result_of
no_mark k w a b not-ahs not-sfhs =
    let mark : Operation → ℕ = λ o. (result_of o w a b zero_register).mark in
    let marks = map mark short_rows in
    sym (get_or-set_other (set marks 4 0) 15 k 0 0 not-sfhs ∙ get_or-set_other marks 4 k 0 0 not-ahs ∙ get_or-map mark short_rows k nop) ∙ all_alike 0 16 k

-- ---- what a word gives, by the tests that the code makes: l and m are their answers, r is what the code answers

-- what row k gives is what a word of code k gives: g takes of it what the code has, its outcome or its value alone
pub short_row : {A : Type 0} (g : Outcome → A) (w k : ℕ) (a b : Register) {c : ℕ} {r : A} → c ≡ code_of w → c ≡ k
    → r ≡ g (result_of (get_or short_rows k nop) w a b zero_register) → r ≡ g (result_of (get_or short_rows (code_of w) nop) w a b zero_register)
short_row g w k a b e f h = h ∙ ap (λ (n : ℕ). g (result_of (get_or short_rows n nop) w a b zero_register)) (sym f ∙ e)

-- and of any other code than the two, the value says all
pub unmarked_row : (w : ℕ) (a b : Register) {c : ℕ} {v : Register} {r : Outcome} → c ≡ code_of w → (c ≡ 4 → ⊥) → (c ≡ 15 → ⊥)
    → v ≡ (result_of (get_or short_rows (code_of w) nop) w a b zero_register).value → r ≡ unmarked v → r ≡ result_of (get_or short_rows (code_of w) nop) w a b zero_register
unmarked_row w a b e not-ahs not-sfhs f g =
    let none = no_mark (code_of w) w a b (λ h. not-ahs (e ∙ h)) (λ h. not-sfhs (e ∙ h)) in
    g ∙ (λ i. record { value = f i; mark = sym none i })

module _ (w : ℕ) {l : Bool} (is-li : l ≡ is_li w) where
  module _ (yes : l ≡ true) where
    pub li_result : (a b c : Register) {r : Outcome} → r ≡ unmarked (with_halfword (index_of w) (immediate_of w) a) → r ≡ outcome_of w a b c
    unfolding outcome_of result_of
    li_result a b c e = e ∙ sym (ap (λ (o : Operation). result_of o w a b c) (li_word_lem w is-li yes))

  module _ {m : Bool} (other : l ≡ false) (is-multiply : m ≡ is_multiply w) where
    module _ (yes : m ≡ true) where
      pub multiply_result : (a b c : Register) {r : Outcome} → r ≡ multiplied (is_long w) (is_subtract w) (is_high w) a b c → r ≡ outcome_of w a b c
      unfolding outcome_of
      multiply_result a b c e =
          e
          ∙ sym (ap (λ (o : Operation). result_of o w a b c) (multiply_word_lem w is-li other is-multiply yes)
          ∙ row_multiplies w a b c (is_long w) (is_subtract w) (is_high w))

    module _ (no : m ≡ false) where
      pub short_result : (a b c : Register) {r : Outcome} → r ≡ result_of (get_or short_rows (code_of w) nop) w a b zero_register → r ≡ outcome_of w a b c
      unfolding outcome_of
      short_result a b c e =
          e
          ∙ short_third (code_of w) w a b zero_register c
          ∙ sym (ap (λ (o : Operation). result_of o w a b c) (short_word_lem w is-li other is-multiply no))
