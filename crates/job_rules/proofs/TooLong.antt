-- A file of more than 780 bytes is refused by what its first twelve bytes say, or for its size; so any file that is so long and begins alike is refused alike.
-- Carried by the tests in their order: no size of counts within the limits is over 780.
-- Assumes nothing.
use Rattle.job_rules.proofs.Shared.{ℕ, suc, ◌+◌, ◌≤◌, ◌<◌, arith, ◌≡◌, refl, sym, ap, ◌∙◌, Bool, true, false, cond, not, ◌&&◌, List, [], ◌∷◌}
use Rattle.job_rules.proofs.Shared.{ltb-true, ltb-false, eqb-true, not-false, ltb, eqb, length, take, get_or-take, length-take-le, Edition, One, Two}
use Rattle.job_rules.proofs.Shared.{Err, Refusal, Header, number_of, place_of, instructions_at, registers_at, size_of, LARGEST, two_at}
use Rattle.job_rules.proofs.Shared.{edition_in, says_edition, refused_of, tested_of, header_of, answer_for, read_as, read_of}
use lib.Seq.{take_all}
use Rattle.table.specs.Decided.{decided}
use Rattle.table.proofs.Decided.{apart, deciding}
use Rattle.job_rules.specs.Layout.{bytes_to_read}

-- why a file that is too long is refused, by its counts, offsets and the edition's own bytes
abbrev why_for : Edition → ℕ → ℕ → ℕ → Bool → ℕ → Refusal
why_for edition n r first says second =
    decided
    ((ltb 64 n, Refusal.Count)
    ∷ (ltb 32 r, Refusal.Regs)
    ∷ (not (eqb first (instructions_at edition)), Refusal.Place)
    ∷ (not says, Refusal.Edition)
    ∷ (not (eqb second (registers_at edition n)), Refusal.Place)
    ∷ [])
    Refusal.Length

abbrev why_by : Edition → List ℕ → Refusal
why_by edition l = why_for edition (two_at l 0) (two_at l 2) (two_at l 4) (says_edition edition l) (two_at l 6)

-- no counts within the limits fill so much
largest : (edition : Edition) (n r : ℕ) → n ≤ 64 → r ≤ 32 → size_of edition n r ≤ LARGEST
largest One n r few fewer = omega arith
largest Two n r few fewer = omega arith

header_too_long : (edition : Edition) (l : List ℕ) → LARGEST < length l → header_of edition l ≡ Err (why_by edition l)
unfolding header_of tested_of
header_too_long edition l long =
    let header : instructions_at edition ≤ LARGEST = omega (arith, largest edition 0 0 (omega arith) (omega arith)) in
    apart _ _ P _ _ (λ short. let h : length l < 8 = ltb-true (length l) 8 short in absurd (omega arith)) (λ _.
    apart _ _ P _ _ (λ a. ap Err (search deciding depth 8)) (λ a.
    apart _ _ P _ _ (λ b. ap Err (search deciding depth 8)) (λ b.
    apart _ _ P _ _ (λ d. ap Err (search deciding depth 8)) (λ d.
    apart _ _ P _ _ (λ short. let h = ltb-true (length l) (instructions_at edition) short in absurd (omega arith)) (λ _.
    apart _ _ P _ _ (λ f. ap Err (search deciding depth 8)) (λ f.
    apart _ _ P _ _ (λ g. ap Err (search deciding depth 8)) (λ g.
    apart _ _ P _ _ (λ _. ap Err (search deciding depth 8)) (λ h.
    let few = ltb-false 64 (two_at l 0) a in
    let fewer = ltb-false 32 (two_at l 2) b in
    let size = eqb-true (length l) (size_of edition (two_at l 0) (two_at l 2)) (not-false _ h) in
    absurd (omega (arith, largest edition (two_at l 0) (two_at l 2) few fewer))))))))))
  where
    P : Header → Type 0
    P h = h ≡ Err (why_by edition l)

read_too_long : (edition : Edition) (l : List ℕ) → LARGEST < length l → read_as edition l ≡ refused_of (number_of (why_by edition l)) (place_of (why_by edition l))
read_too_long edition l long = ap (answer_for l) (header_too_long edition l long)

-- what the first bytes say is the same of the file that is cut behind them
module _ (l : List ℕ) where
  abbrev cut : List ℕ
  cut = take (suc LARGEST) l

  two : (k : ℕ) → k < 11 → two_at l k ≡ two_at cut k
  two k h = rw (get_or-take (suc LARGEST) l k 0 (omega arith), get_or-take (suc LARGEST) l (k + 1) 0 (omega arith))

  says : (edition : Edition) → says_edition edition l ≡ says_edition edition cut
  says One = refl
  says Two = λ i. eqb (two 8 (omega arith) i) 2 && eqb (two 10 (omega arith) i) 0

  why_cut : (edition : Edition) → why_by edition l ≡ why_by edition cut
  why_cut edition =
      λ i. why_for edition (two 0 (omega arith) i) (two 2 (omega arith) i) (two 4 (omega arith) i) (says edition i) (two 6 (omega arith) i)

  edition_cut : edition_in l ≡ edition_in cut
  edition_cut = λ i. cond (eqb (two 4 (omega arith) i) (instructions_at Two)) Two One

  -- a file over 780 bytes is answered as its first 781 bytes are
  first_bytes_decide : LARGEST < length l → read_of l ≡ read_of cut
  first_bytes_decide long =
      read_too_long (edition_in l) l long
      ∙ ap (λ (why : Refusal). refused_of (number_of why) (place_of why)) (why_cut (edition_in l))
      ∙ sym (read_too_long (edition_in l) cut (omega (arith, length-take-le (suc LARGEST) l long)))
      ∙ ap (λ (edition : Edition). read_as edition cut) edition_cut

-- so the first 781 bytes of any file decide what is read of it
pub first_781_bytes : (l : List ℕ) → read_of (take bytes_to_read l) ≡ read_of l
first_781_bytes l = by (ltb LARGEST (length l)) refl
  where
    by : (t : Bool) → ltb LARGEST (length l) ≡ t → read_of (take bytes_to_read l) ≡ read_of l
    by true e = sym (first_bytes_decide l (ltb-true LARGEST (length l) e))
    by false e = ap read_of (take_all bytes_to_read l (omega (arith, ltb-false LARGEST (length l) e)))
