-- A refusal is told by its number and its place: no two have the same.
-- Assumes nothing.
use Prim.Native.Nat.{ℕ}
use mathlib.Core.Path.{◌≡◌, ◌∙◌, refl, sym, ap}
use mathlib.Core.List.{[], ◌∷◌}
use lib.ListN.{get_or}
use native.Mathlib.Omega.{arith}
use Rattle.std.specs.declared.result.Result.{Result}
use Rattle.std.specs.declared.result.Result.TheVariants.{Ok, Err}
use Rattle.table.specs.declared.refusal.Refusal.{Refusal}
use Rattle.table.specs.declared.refusal.Refusal.TheVariants.{Short, Count, Regs, Place, Length, Word, Pointer, Drained, Room, State, Name, Operands, Lines, Edition, Nonzero, Busy}
use Rattle.table.specs.Refusal.{WORD, number_of, place_of, number_in, place_in, value_in}

-- the refusal of a number and a place: in the order of the numbers from 0 on, of which 0 and those over 15 stand for the last one
abbrev pub refusal_by : ℕ → ℕ → Refusal
refusal_by number place = get_or (Busy ∷ Short ∷ Count ∷ Regs ∷ Place ∷ Length ∷ Word place ∷ Pointer ∷ Drained ∷ Room ∷ State ∷ Name ∷ Operands ∷ Lines ∷ Edition ∷ Nonzero ∷ []) number Busy

pub refusal_by_number : (r : Refusal) → refusal_by (number_of r) (place_of r) ≡ r
refusal_by_number Short = refl
refusal_by_number Count = refl
refusal_by_number Regs = refl
refusal_by_number Place = refl
refusal_by_number Length = refl
refusal_by_number (Word place) = refl
refusal_by_number Pointer = refl
refusal_by_number Drained = refl
refusal_by_number Room = refl
refusal_by_number State = refl
refusal_by_number Name = refl
refusal_by_number Operands = refl
refusal_by_number Lines = refl
refusal_by_number Edition = refl
refusal_by_number Nonzero = refl
refusal_by_number Busy = refl

pub told_apart : {r q : Refusal} → number_of r ≡ number_of q → place_of r ≡ place_of q → r ≡ q
told_apart {r} {q} same_number same_place = sym (refusal_by_number r) ∙ (λ i. refusal_by (same_number i) (same_place i)) ∙ refusal_by_number q

-- no refusal has the number of success
pub never_0 : (why : Refusal) → number_of why ≡ 0 → ⊥
never_0 why e =
    let same : number_of why ≡ number_of (refusal_by (number_of why) (place_of why)) = sym (ap number_of (refusal_by_number why)) in
    let last : number_of (refusal_by (number_of why) (place_of why)) ≡ 18 = ap (λ (number : ℕ). number_of (refusal_by number (place_of why))) e in
    omega arith

-- two answers that have number, place and value in common are one answer
pub one_answer : {A : Type 0} (none : A) (x y : Result A Refusal) → number_in x ≡ number_in y → place_in x ≡ place_in y → value_in none x ≡ value_in none y → x ≡ y
one_answer none (Ok a) (Ok b) n p v = ap Ok v
one_answer none (Ok a) (Err why) n p v = absurd (never_0 why (sym n))
one_answer none (Err why) (Ok b) n p v = absurd (never_0 why n)
one_answer none (Err why) (Err other) n p v = ap Err (told_apart n p)

-- none but 6 has a place
pub placeless : (why : Refusal) → (number_of why ≡ WORD → ⊥) → place_of why ≡ 0
placeless Short h = refl
placeless Count h = refl
placeless Regs h = refl
placeless Place h = refl
placeless Length h = refl
placeless (Word place) h = absurd (h refl)
placeless Pointer h = refl
placeless Drained h = refl
placeless Room h = refl
placeless State h = refl
placeless Name h = refl
placeless Operands h = refl
placeless Lines h = refl
placeless Edition h = refl
placeless Nonzero h = refl
placeless Busy h = refl

no_place : {A : Type 0} (x : Result A Refusal) → (number_in x ≡ WORD → ⊥) → place_in x ≡ 0
no_place (Ok x) h = refl
no_place (Err why) h = placeless why h

-- so where that is not the number, two answers need no place in common
pub one_without_place : {A : Type 0} (none : A) (x y : Result A Refusal) {n : ℕ} → number_in x ≡ n → number_in y ≡ n → (n ≡ WORD → ⊥) → value_in none x ≡ value_in none y → x ≡ y
one_without_place none x y p q h v =
    one_answer none x y (p ∙ sym q) (no_place x (λ e. h (sym p ∙ e)) ∙ sym (no_place y (λ e. h (sym q ∙ e)))) v
