-- The loop over lines: what the code leaves of a word of each kind is what the plain machine leaves, registers and marks. Carried by `one_more` and `one_more_mark`.
-- Assumes nothing.
use Prim.Native.Nat.{ℕ, zero, suc, ◌+◌, ◌<◌, ◌≤◌}
use mathlib.Core.Path.{◌≡◌, refl, sym, ap, subst, ◌∙◌}
use mathlib.Core.Bool.{Bool, true, false, cond, not, ◌||◌}
use mathlib.Core.List.{List, [], ◌∷◌}
use native.Mathlib.Numerals.{add-one}
use native.Mathlib.Omega.{arith}
use borrow.Author.Tests.{not-false, ltb-false}
use lib.Dec.{ltb, eqb}
use lib.ListN.{get_or, set, take, length}
use lib.Seq.{take_all}
use Rattle.register.specs.declared.Register.{Register}
use Rattle.register.specs.Layout.{zero_register, with_halfword}
use Rattle.table.specs.declared.Edition.{Edition}
use Rattle.table.specs.declared.Edition.TheVariants.{One, Two}
use Rattle.table.specs.declared.Pointer.{Pointer}
use Rattle.table.specs.Fields.{is_li, is_multiply, is_long, is_subtract, is_high, index_of, immediate_of, code_of, first_of, rs1_of, rs2_of, rs3_of, rd_of}
use Rattle.table.specs.Operation.{short_rows, is_nop, is_wired, target_of}
use Rattle.table.specs.Operation.Operation.{nop}
use Rattle.table.proofs.Decided.{the_first, the_second}
use Rattle.alu_rules.specs.declared.Outcome.{Outcome}
use Rattle.alu_rules.specs.Across.{unmarked, multiplied}
use Rattle.alu_rules.specs.Result.{result_of, outcome_of}
use Rattle.alu_rules.proofs.Rows.{li_result, multiply_result, short_result}
use Rattle.plain_rules.specs.Machine.{outcome_on, step_on, plain_on, marks_on, step, plain, marks, executed_registers}
use Rattle.plain_rules.proofs.Theorems.{one_more}
use Rattle.plain_rules.proofs.Marks.{one_more_mark}

-- what a word gives from registers
abbrev given : ℕ → List Register → Outcome
given = outcome_on (λ r. r) (λ r. r) zero_register

-- a word that writes stores what it gives, and any other leaves all as it is
stores : (edition : Edition) (w : ℕ) (f : List Register) {v : Register} → is_nop w ≡ false → is_wired edition (rd_of w) ≡ false → v ≡ (given w f).value
    → set f (rd_of w).0 v ≡ step edition w f
unfolding step_on target_of
stores edition w f writes free e = rw (writes, free, e)

skips : (edition : Edition) (w : ℕ) (f : List Register) → (is_nop w || is_wired edition (rd_of w)) ≡ true → f ≡ step edition w f
unfolding step_on target_of
skips edition w f nothing = rw nothing

-- ---- whether a register takes a write, by what is asked of register 0

-- the edition, by whether register 0 is free to be written
abbrev pub edition_by : Bool → Edition
edition_by free = cond free One Two

pub its_edition : (edition : Edition) {r : Bool} → r ≡ is_wired edition (record { 0 = 0 }) → edition_by (not r) ≡ edition
its_edition One e = rw e
its_edition Two e = rw e

-- nothing is stored where a list has no place
set_beyond : {A : Type 0} (l : List A) (i : ℕ) (x : A) → length l ≤ i → l ≡ set l i x
set_beyond [] i x h = refl
set_beyond (y ∷ l) zero x h = absurd (omega arith)
set_beyond (y ∷ l) (suc i) x h = ap (λ (q : List _). y ∷ q) (set_beyond l i x (omega arith))

-- what the code has for the mark of a line, where it is asked for; where it is not, there is no place for it
asked_mark : (m : List ℕ) (i x y : ℕ) (asked : Bool) → asked ≡ ltb i (length m) → x ≡ cond asked y 0 → set m i x ≡ set m i y
asked_mark m i x y true e f = ap (set m i) f
asked_mark m i x y false e f = sym (set_beyond m i x (ltb-false i (length m) (sym e))) ∙ set_beyond m i y (ltb-false i (length m) (sym e))

-- the registers g and the marks n after the first i lines of p, begun on the registers f and laid over the marks m
pub record Done (edition : Edition) (p : List ℕ) (i : ℕ) (f : List Register) (m : List ℕ) (g : List Register) (n : List ℕ) : Type 0 where
  pub registers_left : g ≡ plain edition (take i p) f
  pub marks_laid : n ≡ marks edition (take i p) f m

-- line i of p, up to its store. The code reads the pointer d off its word, has its outcome o, and s has its mark
pub record Given (edition : Edition) (p : List ℕ) (i : ℕ) (f : List Register) (m : List ℕ) (g : List Register) (n : List ℕ) (d : Pointer) (o : Outcome) (s : List ℕ) : Type 0 where
  pub here : i < length p
  pub so_far : Done edition p i f m g n
  pub at : d ≡ rd_of (get_or p i 0)
  pub its_value : o.value ≡ (given (get_or p i 0) g).value
  pub its_mark : s ≡ set n i (given (get_or p i 0) g).mark

module _ {edition : Edition} {p : List ℕ} {i : ℕ} {f : List Register} {m : List ℕ} {g : List Register} {n : List ℕ} {d : Pointer} {o : Outcome} {s : List ℕ}
    (line : Given edition p i f m g n d o s) where
  after : {h : List Register} → h ≡ step edition (get_or p i 0) g → Done edition p (i + 1) f m h s
  after e = record {
    registers_left = e
        ∙ ap (step edition (get_or p i 0)) line.so_far.registers_left
        ∙ sym (one_more edition p i f line.here)
        ∙ ap (λ (k : ℕ). plain edition (take k p) f) (sym (add-one i));
    marks_laid = line.its_mark
        ∙ (λ j. set (line.so_far.marks_laid j) i (given (get_or p i 0) (line.so_far.registers_left j)).mark)
        ∙ sym (one_more_mark (λ r. r) (λ r. r) zero_register edition p i f m line.here)
        ∙ ap (λ (k : ℕ). marks edition (take k p) f m) (sym (add-one i));
  }

  stored : is_nop (get_or p i 0) ≡ false → is_wired edition d ≡ false → Done edition p (i + 1) f m (set g d.0 o.value) s
  stored writes unwired =
      after (ap (λ (q : Pointer). set g q.0 o.value) line.at
      ∙ stores edition (get_or p i 0) g writes (sym (ap (is_wired edition) line.at) ∙ unwired) line.its_value)

  dropped : is_wired edition d ≡ true → Done edition p (i + 1) f m g s
  dropped wired = after (skips edition (get_or p i 0) g (the_second (is_nop (get_or p i 0)) (sym (ap (is_wired edition) line.at) ∙ wired)))

  pub nothing_written : {t : Bool} → t ≡ is_nop (get_or p i 0) → not t ≡ false → {h : List Register} → h ≡ g → Done edition p (i + 1) f m h s
  nothing_written {t} is-nop nothing same = after (same ∙ skips edition (get_or p i 0) g (the_first (is_wired edition (rd_of (get_or p i 0))) (sym is-nop ∙ not-false t nothing)))

-- the registers after its store, by whether register 0 is free
module _ {p : List ℕ} {i : ℕ} {f : List Register} {m : List ℕ} {g : List Register} {n : List ℕ} {d : Pointer} {o : Outcome} {s : List ℕ} where
  wired_or_not : Given Two p i f m g n d o s → is_nop (get_or p i 0) ≡ false → (t : Bool) → eqb d.0 0 ≡ t → Done Two p (i + 1) f m (cond t g (set g d.0 o.value)) s
  wired_or_not line writes true e = dropped line e
  wired_or_not line writes false e = stored line writes e

  stored_in : (free : Bool) → Given (edition_by free) p i f m g n d o s → is_nop (get_or p i 0) ≡ false
      → Done (edition_by free) p (i + 1) f m (cond free (set g d.0 o.value) (cond (eqb d.0 0) g (set g d.0 o.value))) s
  stored_in true line writes = stored line writes refl
  stored_in false line writes = wired_or_not line writes (eqb d.0 0) refl

  pub line_stored : (free : Bool) → Given (edition_by free) p i f m g n d o s → is_nop (get_or p i 0) ≡ false → {h : List Register}
      → h ≡ cond free (set g d.0 o.value) (cond (eqb d.0 0) g (set g d.0 o.value)) → Done (edition_by free) p (i + 1) f m h s
  line_stored free line writes e = subst (λ (h : List Register). Done (edition_by free) p (i + 1) f m h s) (sym e) (stored_in free line writes)

-- each kind of word: l, k and t are what the code's tests answer, and a, b and c the other pointers
module _ (edition : Edition) (p : List ℕ) (i : ℕ) (f : List Register) (m : List ℕ) {g : List Register} {n : List ℕ} (here : i < length p) (so_far : Done edition p i f m g n) where
  abbrev w : ℕ
  w = get_or p i 0

  module _ {d : Pointer} (at : d ≡ rd_of w) {l : Bool} (is-li : l ≡ is_li w) where
    pub li_given : l ≡ true → {o : Outcome} → o ≡ unmarked (with_halfword (index_of w) (immediate_of w) (get_or g d.0 zero_register))
        → {s : List ℕ} → s ≡ set n i 0 → Given edition p i f m g n d o s × (is_nop w ≡ false)
    unfolding first_of
    li_given li {o} e laid =
        let own : first_of w ≡ rd_of w = rw (← is-li, li) in
        let gives : o ≡ given w g = li_result w is-li li _ _ _ (e ∙ rw (at, own)) in (
          record {
            here = here;
            so_far = so_far;
            at = at;
            its_value = ap (λ (x : Outcome). x.value) gives;
            its_mark = laid ∙ ap (λ (x : Outcome). set n i x.mark) (sym e ∙ gives);
          },
          rw (← is-li, li),
        )

    module _ (other : l ≡ false) {a b : Pointer} (first : a ≡ rs1_of w) (second : b ≡ rs2_of w) {k : Bool} (is-multiply : k ≡ is_multiply w) where
      -- the operands that the code reads are the ones that the word names
      named : (r : Register) → outcome_of w (get_or g a.0 zero_register) (get_or g b.0 zero_register) r
          ≡ outcome_of w (get_or g (first_of w).0 zero_register) (get_or g (rs2_of w).0 zero_register) r
      unfolding first_of
      named r = rw (← is-li, other, first, second)

      pub multiply_given : k ≡ true → {c : Pointer} → c ≡ rs3_of w → {o : Outcome}
          → o ≡ multiplied (is_long w) (is_subtract w) (is_high w) (get_or g a.0 zero_register) (get_or g b.0 zero_register) (get_or g c.0 zero_register)
          → {s : List ℕ} → s ≡ set n i o.mark → Given edition p i f m g n d o s × (is_nop w ≡ false)
      multiply_given multiplies third {o} e laid =
          let gives : o ≡ given w g = multiply_result w is-li other is-multiply multiplies _ _ _ e ∙ named _ ∙ rw third in (
            record {
              here = here;
              so_far = so_far;
              at = at;
              its_value = ap (λ (x : Outcome). x.value) gives;
              its_mark = laid ∙ ap (λ (x : Outcome). set n i x.mark) gives;
            },
            rw (← is-li, other, ← is-multiply, multiplies),
          )

      -- a short code, with its mark or without
      pub short_given : k ≡ false → {asked : Bool} → asked ≡ ltb i (length n) → {o : Outcome}
          → (let row = result_of (get_or short_rows (code_of w) nop) w (get_or g a.0 zero_register) (get_or g b.0 zero_register) zero_register in o ≡ cond asked row (unmarked row.value))
          → {s : List ℕ} → s ≡ set n i o.mark → Given edition p i f m g n d o s
      short_given short {asked} asks {o} e laid = record {
        here = here;
        so_far = so_far;
        at = at;
        its_value = ap (λ (x : Outcome). x.value) e ∙ value asked ∙ ap (λ (x : Outcome). x.value) gives;
        its_mark = laid ∙ asked_mark n i o.mark (given w g).mark asked asks (ap (λ (x : Outcome). x.mark) e ∙ mark asked);
      }
        where
          row : Outcome
          row = result_of (get_or short_rows (code_of w) nop) w (get_or g a.0 zero_register) (get_or g b.0 zero_register) zero_register

          gives : row ≡ given w g
          gives = short_result w is-li other is-multiply short _ _ _ refl ∙ named _

          value : (t : Bool) → (cond t row (unmarked row.value)).value ≡ row.value
          value true = refl
          value false = refl

          mark : (t : Bool) → (cond t row (unmarked row.value)).mark ≡ cond t (given w g).mark 0
          mark true = ap (λ (x : Outcome). x.mark) gives
          mark false = refl

-- before the first line nothing is done, and after the last one all of it
pub no_line : (edition : Edition) (p : List ℕ) (f : List Register) (m : List ℕ) → Done edition p 0 f m f m
unfolding plain_on marks_on
no_line edition p f m = record { registers_left = refl; marks_laid = refl }

pub all_lines : (edition : Edition) (p : List ℕ) (i : ℕ) (f : List Register) (m : List ℕ) {g : List Register} {n : List ℕ} → length p ≤ i → Done edition p i f m g n
    → (g, n) ≡ executed_registers edition p f m
all_lines edition p i f m h done =
    let all = take_all i p h in
    λ j. ((done.registers_left ∙ ap (λ (q : List ℕ). plain edition q f) all) j, (done.marks_laid ∙ ap (λ (q : List ℕ). marks edition q f m) all) j)
