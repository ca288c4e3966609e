-- For the reader of specs/: the "reads" column as it is printed, row by row; the words that write nothing are exactly those whose operation is NOP, and every other
-- word writes its rd, but register 0 in the second edition; the refusal numbers.
-- Assumes nothing.
use Rattle.table.specs.declared.Pointer.{Pointer}
use Prim.Native.Nat.{ℕ, zero, suc, ◌<◌}
use mathlib.Core.Path.{◌≡◌, refl, sym, ap, ◌∙◌}
use mathlib.Core.Bool.{Bool, true, false, cond, ◌||◌, or-false}
use mathlib.Core.List.{List, [], ◌∷◌, map}
use native.Mathlib.Omega.{arith}
use lib.Dec.{eqb, eqb-suc-zero}
use borrow.Author.Tests.{eq-eqb, ne_eqb}
use lib.ListN.{get_or, get_or-replicate, get_or-map}
use Rattle.table.specs.declared.Edition.{Edition}
use Rattle.table.specs.declared.Edition.TheVariants.{One, Two}
use Rattle.std.specs.declared.option.Option.{Option}
use Rattle.std.specs.declared.option.Option.TheVariants.{None, Some}
use Rattle.table.specs.Fields.{is_li, is_multiply, is_long, is_subtract, is_high, code_of, rd_of}
use Rattle.table.specs.Operation.{Operation, multiply_row, short_rows, operation_of, reads_of, takes_first, takes_second, takes_third, is_nop, is_wired, target_of}
use Rattle.table.specs.Operation.Operation.{li, simal, simah, simsl, simsh, slmal, slmah, slmsl, slmsh}
use Rattle.table.specs.Refusal.{SHORT, COUNT, REGS, PLACE, LENGTH, WORD, POINTER, DRAINED, ROOM, STATE, NAME, OPERANDS, LINES, EDITION, NONZERO, BUSY}
use Rattle.table.proofs.Decided.{the_second, neither_held}
use Rattle.table.proofs.Rows.{each_choice}
use Rattle.table.specs.Operation.Operation.{nop, shrhi, au, cntih, ahs, or, bcw, maxws, minws, mlhu, mlhcu, and, clzw, rotw, sfwu, sfhs}

-- ---- what is read

-- which of the three operands a row takes; li's first is its rd
abbrev taken : Operation → Bool × Bool × Bool
taken o = (takes_first (reads_of o), takes_second (reads_of o), takes_third (reads_of o))

abbrev none : Bool × Bool × Bool
none = (false, false, false)

abbrev one : Bool × Bool × Bool
one = (true, false, false)

abbrev two : Bool × Bool × Bool
two = (true, true, false)

abbrev three : Bool × Bool × Bool
three = (true, true, true)

-- "li reads rd"; "Multiply-add and multiply-subtract read rs1, rs2 and rs3"; the column of the rows 0 to 15
pub columns : (taken li ≡ one)
    × ((long subtract high : Bool) → taken (multiply_row long subtract high) ≡ three)
    × (map taken short_rows ≡ (none ∷ one ∷ two ∷ one ∷ two ∷ two ∷ one ∷ two ∷ two ∷ two ∷ one ∷ two ∷ one ∷ two ∷ two ∷ two ∷ []))
columns = (refl, each_choice (λ x y z. taken (multiply_row x y z) ≡ three) refl refl refl refl refl refl refl refl, refl)

-- ---- what is written

abbrev pub nop? : Operation → Bool
nop? li = false
nop? simal = false
nop? simah = false
nop? simsl = false
nop? simsh = false
nop? slmal = false
nop? slmah = false
nop? slmsl = false
nop? slmsh = false
nop? nop = true
nop? shrhi = false
nop? au = false
nop? cntih = false
nop? ahs = false
nop? or = false
nop? bcw = false
nop? maxws = false
nop? minws = false
nop? mlhu = false
nop? mlhcu = false
nop? and = false
nop? clzw = false
nop? rotw = false
nop? sfwu = false
nop? sfhs = false

multiply_is_none : (x y z : Bool) → nop? (multiply_row x y z) ≡ false
multiply_is_none = each_choice (λ x y z. nop? (multiply_row x y z) ≡ false) refl refl refl refl refl refl refl refl

-- of the short codes only 0 is: one test over the other fifteen
short_is_zero : (k : ℕ) → k < 16 → nop? (get_or short_rows k nop) ≡ eqb k 0
short_is_zero zero h = refl
short_is_zero (suc k) h = sym (get_or-map nop? others k nop) ∙ get_or-replicate 15 k false true (omega arith) ∙ sym (eqb-suc-zero k)
  where
    others : List Operation
    others = shrhi ∷ au ∷ cntih ∷ ahs ∷ or ∷ bcw ∷ maxws ∷ minws ∷ mlhu ∷ mlhcu ∷ and ∷ clzw ∷ rotw ∷ sfwu ∷ sfhs ∷ []

by_tests : (l m x y z : Bool) (k : ℕ) → k < 16
    → nop? (cond l li (cond m (multiply_row x y z) (get_or short_rows k nop))) ≡ cond l false (cond m false (eqb k 0))
by_tests true m x y z k h = refl
by_tests false true x y z k h = multiply_is_none x y z
by_tests false false x y z k h = short_is_zero k h

pub nop_by_its_code : (w : ℕ) → nop? (operation_of w) ≡ is_nop w
unfolding operation_of
nop_by_its_code w = by_tests (is_li w) (is_multiply w) (is_long w) (is_subtract w) (is_high w) (code_of w) (omega arith)

pub writes_by_operation : (edition : Edition) (w : ℕ) → target_of edition w ≡ cond (nop? (operation_of w) || is_wired edition (rd_of w)) None (Some (rd_of w))
unfolding target_of
writes_by_operation edition w = ap (λ (t : Bool). cond (t || is_wired edition (rd_of w)) None (Some (rd_of w))) (sym (nop_by_its_code w))

-- ---- in each edition

-- "Edition 1 .. is untouched": rd, or none for a NOP
pub written_in_edition_1 : (w : ℕ) → target_of One w ≡ cond (is_nop w) None (Some (rd_of w))
unfolding target_of
written_in_edition_1 w = ap (λ (t : Bool). cond t None (Some (rd_of w))) (or-false (is_nop w))

-- In the second a word whose rd is 0 writes none, and every other word what it writes in the first
pub dropped_in_edition_2 : (w : ℕ) → (rd_of w).0 ≡ 0 → target_of Two w ≡ None
unfolding target_of
dropped_in_edition_2 w e = ap (λ (t : Bool). cond t None (Some (rd_of w))) (the_second (is_nop w) (eq-eqb (rd_of w).0 0 e))

pub others_in_edition_2 : (w : ℕ) → ((rd_of w).0 ≡ 0 → ⊥) → target_of Two w ≡ target_of One w
unfolding target_of
others_in_edition_2 w h = rw (ne_eqb (rd_of w).0 0 h)

-- in either: what holds of none, and of rd where it is not wired, holds of what a word writes
pub each_target : (P : Option Pointer → Type 0) (edition : Edition) (w : ℕ) → P None → (is_wired edition (rd_of w) ≡ false → P (Some (rd_of w))) → P (target_of edition w)
unfolding target_of
each_target P edition w none some = go (is_nop w || is_wired edition (rd_of w)) refl
  where
    go : (t : Bool) → (is_nop w || is_wired edition (rd_of w)) ≡ t → P (cond t None (Some (rd_of w)))
    go true q = none
    go false q = some (neither_held (is_nop w) (is_wired edition (rd_of w)) q).1

-- ---- refusal numbers

-- in the order of their numbers they are 1 to 10, then 11 to 13, 14 and 15, then 18
pub refusal_numbers : (SHORT ∷ COUNT ∷ REGS ∷ PLACE ∷ LENGTH ∷ WORD ∷ POINTER ∷ DRAINED ∷ ROOM ∷ STATE ∷ NAME ∷ OPERANDS ∷ LINES ∷ EDITION ∷ NONZERO ∷ BUSY ∷ [])
    ≡ (1 ∷ 2 ∷ 3 ∷ 4 ∷ 5 ∷ 6 ∷ 7 ∷ 8 ∷ 9 ∷ 10 ∷ 11 ∷ 12 ∷ 13 ∷ 14 ∷ 15 ∷ 18 ∷ [])
refusal_numbers = refl
