-- For the reader of specs/: where each field of a row stands, that digits tell their number, what of the buffer changes, exactly when there is no room, three
-- rows computed, and that a row's text tells its mark.
-- Assumes nothing.
use Prim.Native.Nat.{ℕ, zero, suc, ◌+◌, ◌-◌, ◌*◌, ◌/◌, ◌%◌, ◌^◌, ◌≤◌, ◌<◌}
use mathlib.Core.Path.{◌≡◌, refl, sym, ap, subst, ◌∙◌}
use mathlib.Core.Logic.{◌↔◌}
use mathlib.Core.Bool.{Bool, true, false, cond}
use mathlib.Core.List.{List, [], ◌∷◌, ◌++◌, append_assoc}
use native.Mathlib.Nat.{le_of_suc-le-suc, zero-add, pow-succ', one-le-pow}
use native.Mathlib.Omega.{arith}
use borrow.Author.Tests.{ltb-true, lt-ltb, le-ltb}
use lib.Arith.{mod-mul}
use lib.Dec.{eqb, ltb, lit<}
use lib.ListN.{length, get_or, take, drop, replicate, length-drop, get_or-append, get_or-map}
use lib.Seq.{take_at, drop_at, drop-drop, get_or-append-add, length-take-le}
use Rattle.buffer.specs.Front.{from_start}
use Rattle.table.specs.Refusal.{ROOM}
use Rattle.table.proofs.Decided.{stops, passes, ends, apart, each}
use Rattle.std.specs.declared.option.Option.TheVariants.{None, Some}
use Rattle.row_rules.specs.Shown.{Change}
use Rattle.row_rules.specs.declared.Flags.{Flags}
use Rattle.row_rules.specs.declared.Row.{Row}
use Rattle.row_rules.specs.Text.{digit, hex_digits, two_digits, stage_text, flag_text, flags_text, number_text, register_text, value_text, mark_text, newline, row_text, row_size, row_at}
use Rattle.row_rules.proofs.Lengths.{two_long, stage_long, flags_long, number_long, value_long, mark_long}

-- ---- the text

-- fields behind a space each, then the newline
unfoldable spaced : List (List ℕ) → List ℕ
spaced [] = newline
spaced (q ∷ qs) = 32 ∷ (q ++ spaced qs)

all_spaced : spaced [] ≡ newline
unfolding spaced
all_spaced = refl

nested : (a b c d e f g h i j : List ℕ) → a ++ b ++ c ++ d ++ e ++ f ++ g ++ h ++ i ++ j ≡ a ++ (b ++ (c ++ (d ++ (e ++ (f ++ (g ++ (h ++ (i ++ j))))))))
nested a b c d e f g h i j = simp append_assoc

row_spaced : (r : Row) → row_text r ≡ two_digits r.cycle ++ spaced (
    stage_text r.fetch ∷ stage_text r.decode ∷ stage_text r.execute ∷ stage_text r.write
    ∷ flags_text r.flags ∷ number_text r.change ∷ value_text r.change ∷ mark_text r.change ∷ [])
unfolding row_text spaced
row_spaced r = nested (two_digits r.cycle) _ _ _ _ _ _ _ _ _

-- the next field, of k bytes, and what stands behind it
there : (a k : ℕ) (l q : List ℕ) (qs : List (List ℕ)) → length q ≡ k → drop a l ≡ spaced (q ∷ qs)
    → (take k (drop (a + 1) l) ≡ q) × (drop (a + 1 + k) l ≡ spaced qs)
unfolding spaced
there a k l q qs n e =
    let text : drop (a + 1) l ≡ q ++ spaced qs = sym (drop-drop 1 a l) ∙ ap (drop 1) e in (
      ap (take k) text ∙ take_at q (spaced qs) k n,
      sym (drop-drop k (a + 1) l) ∙ ap (drop k) text ∙ drop_at q (spaced qs) k n,
    )

-- each field at its place
pub row_places : (r : Row)
    → (take 2 (row_text r) ≡ two_digits r.cycle)
    × (take 7 (drop 3 (row_text r)) ≡ stage_text r.fetch)
    × (take 7 (drop 11 (row_text r)) ≡ stage_text r.decode)
    × (take 7 (drop 19 (row_text r)) ≡ stage_text r.execute)
    × (take 7 (drop 27 (row_text r)) ≡ stage_text r.write)
    × (take 3 (drop 35 (row_text r)) ≡ flags_text r.flags)
    × (take 2 (drop 39 (row_text r)) ≡ number_text r.change)
    × (take 32 (drop 42 (row_text r)) ≡ value_text r.change)
    × (take 2 (drop 75 (row_text r)) ≡ mark_text r.change)
    × (drop 77 (row_text r) ≡ newline)
row_places r =
    let l = row_text r in
    let two = two_long r.cycle in
    let f = there 2 7 l _ _ (stage_long r.fetch) (ap (drop 2) (row_spaced r) ∙ drop_at (two_digits r.cycle) _ 2 two) in
    let d = there 10 7 l _ _ (stage_long r.decode) f.1 in
    let e = there 18 7 l _ _ (stage_long r.execute) d.1 in
    let w = there 26 7 l _ _ (stage_long r.write) e.1 in
    let x = there 34 3 l _ _ (flags_long r.flags) w.1 in
    let n = there 38 2 l _ _ (number_long r.change) x.1 in
    let v = there 41 32 l _ _ (value_long r.change) n.1 in
    let m = there 74 2 l _ _ (mark_long r.change) v.1 in
    (ap (take 2) (row_spaced r) ∙ take_at (two_digits r.cycle) _ 2 two, f.0, d.0, e.0, w.0, x.0, n.0, v.0, m.0, m.1 ∙ all_spaced)

-- "a row is 78 bytes"
pub row_size_lem : (r : Row) → length (row_text r) ≡ row_size
row_size_lem r = let end = (row_places r).9 in omega (arith, length-drop 77 (row_text r), ap length end)

-- ---- the digits tell the number

-- the digit that a code stands for, and 16, which is none, for the hyphen
abbrev meant : ℕ → ℕ
meant x = cond (eqb x 45) 16 (cond (ltb x 65) (x - 48) (x - 55))

-- n numbers from a on
abbrev counted : ℕ → ℕ → List ℕ
counted zero a = []
counted (suc n) a = a ∷ counted n (suc a)

counted_at : (n a i z : ℕ) → i < n → get_or (counted n a) i z ≡ a + i
counted_at zero a i z h = absurd (omega arith)
counted_at (suc n) a zero z h = omega arith
counted_at (suc n) a (suc i) z h = counted_at n (suc a) i z (le_of_suc-le-suc h) ∙ omega arith

digit_meant : (d : ℕ) → d < 16 → meant (digit d) ≡ d
digit_meant d h =
    let same : get_or (counted 16 0) d 0 ≡ d = counted_at 16 0 d 0 h ∙ zero-add d in
    sym (ap (λ (x : ℕ). meant (digit x)) same) ∙ sym (get_or-map (λ (x : ℕ). meant (digit x)) (counted 16 0) d 0) ∙ same

same_digit : (c d : ℕ) → c < 16 → d < 16 → digit c ≡ digit d → c ≡ d
same_digit c d h g e = sym (digit_meant c h) ∙ ap meant e ∙ digit_meant d g

-- 0 to 9 are the codes from 48 on and A to F those from 65 on: the definition's table is these two runs, by computation
pub decimal_code : (d : ℕ) → d < 10 → d + 48 ≡ digit d
decimal_code d h = sym (get_or-append (counted 10 48) (counted 6 65) 0 d h ∙ counted_at 10 48 d 0 h ∙ omega arith)

pub letter_code : (d : ℕ) → 10 ≤ d → d < 16 → d + 55 ≡ digit d
letter_code d h g =
    let place : 10 + (d - 10) ≡ d = omega arith in
    sym (ap digit (sym place) ∙ get_or-append-add (counted 10 48) (counted 6 65) (d - 10) 0 ∙ counted_at 6 65 (d - 10) 0 (omega arith) ∙ omega arith)

-- two numbers with the same last k hex digits agree modulo 16 ^ k, and with the same last two decimal digits modulo 100
pub same_hex : (k v w : ℕ) → hex_digits k v ≡ hex_digits k w → v % 16 ^ k ≡ w % 16 ^ k
same_hex zero v w e = omega arith
same_hex (suc k) v w e =
    let split : (x : ℕ) → x % 16 ^ suc k ≡ x / 16 ^ k % 16 * 16 ^ k + x % 16 ^ k
    = λ x. rw (pow-succ' 16 k) (mod-mul x {m = 16} {c = 16 ^ k} (lit< tt) (one-le-pow k 16 (lit< tt))) in
    let top = same_digit (v / 16 ^ k % 16) (w / 16 ^ k % 16) (omega arith) (omega arith) (ap (λ (l : List ℕ). get_or l 0 0) e) in
    let others = same_hex k v w (ap (drop 1) e) in
    split v ∙ rw (top, others) (sym (split w))

pub same_two : (m n : ℕ) → two_digits m ≡ two_digits n → m % 100 ≡ n % 100
unfolding two_digits
same_two m n e =
    let tens = same_digit (m / 10 % 10) (n / 10 % 10) (omega arith) (omega arith) (ap (λ (l : List ℕ). get_or l 0 0) e) in
    let ones = same_digit (m % 10) (n % 10) (omega arith) (omega arith) (ap (λ (l : List ℕ). get_or l 1 0) e) in
    omega arith

-- "three flags for rs1, rs2, rs3", each the digit 1 exactly where it is raised
flag_told : (raised : Bool) → eqb (flag_text raised) 49 ≡ raised
flag_told true = refl
flag_told false = refl

pub flags_told : (f : Flags)
    → (eqb (get_or (flags_text f) 0 0) 49 ≡ f.rs1) × (eqb (get_or (flags_text f) 1 0) 49 ≡ f.rs2) × (eqb (get_or (flags_text f) 2 0) 49 ≡ f.rs3)
unfolding flags_text
flags_told f = (flag_told f.rs1, flag_told f.rs2, flag_told f.rs3)

-- ---- the answer

around : (a k : ℕ) (p xs : List ℕ) → length p ≡ k → a + k ≤ length xs
    → (take a (from_start a p xs) ≡ take a xs) × (take k (drop a (from_start a p xs)) ≡ p) × (drop (a + k) (from_start a p xs) ≡ drop (a + k) xs)
around a k p xs n h =
    let front : length (take a xs) ≡ a = length-take-le a xs (omega arith) in
    let rest = drop (length p) (drop a xs) in
    let behind : drop a (from_start a p xs) ≡ p ++ rest = drop_at (take a xs) (p ++ rest) a front in (
      take_at (take a xs) (p ++ rest) a front,
      ap (take k) behind ∙ take_at p rest k n,
      sym (drop-drop k a (from_start a p xs)) ∙ ap (drop k) behind ∙ drop_at p rest k n ∙ ap (λ (j : ℕ). drop j (drop a xs)) n ∙ drop-drop k a xs,
    )

module _ (r : Row) (start : ℕ) (buffer : List ℕ) where
  pub no_room : length buffer < start + row_size → (ROOM, buffer) ≡ row_at r start buffer
  unfolding row_at
  no_room h = stops _ _ (lt-ltb _ _ h)

  pub row_fits : start + row_size ≤ length buffer → (0, from_start start (row_text r) buffer) ≡ row_at r start buffer
  unfolding row_at
  row_fits h = passes _ _ _ (le-ltb _ _ h) ends

  -- "A row is written into the lent buffer from a stated start"
  pub row_there : start + row_size ≤ length buffer → ((row_at r start buffer).0 ≡ 0) × (take row_size (drop start (row_at r start buffer).1) ≡ row_text r)
  row_there h = rw (← (row_fits h)) (refl, (around start row_size (row_text r) buffer (row_size_lem r) h).1)

  -- "bytes before and after untouched"
  pub before_and_after : start + row_size ≤ length buffer
      → (take start (row_at r start buffer).1 ≡ take start buffer)
      × (drop (start + row_size) (row_at r start buffer).1 ≡ drop (start + row_size) buffer)
  before_and_after h = let a = around start row_size (row_text r) buffer (row_size_lem r) h in rw (← (row_fits h)) (a.0, a.2)

  -- "too few bytes from the stated start in a lent buffer, or a start beyond its end"
  pub room_exactly : ((row_at r start buffer).0 ≡ ROOM) ↔ (length buffer < start + row_size)
  unfolding row_at
  room_exactly = (
    apart _ _ (λ (z : ℕ × List ℕ). z.0 ≡ ROOM → length buffer < start + row_size) _ _ (λ h e. ltb-true _ _ h)
        (λ _. subst (λ (z : ℕ × List ℕ). z.0 ≡ ROOM → length buffer < start + row_size) ends (λ e. absurd (omega arith))),
    λ h. sym (ap (λ (z : ℕ × List ℕ). z.0) (no_room h)),
  )

  -- "buffers stay unaltered"
  pub refused_unaltered : ((row_at r start buffer).0 ≡ 0 → ⊥) → (row_at r start buffer).1 ≡ buffer
  unfolding row_at
  refused_unaltered = each (λ (z : ℕ × List ℕ). (z.0 ≡ 0 → ⊥) → z.1 ≡ buffer) _ _ (λ h. refl, tt) (λ h. absurd (h refl))

-- ---- three rows, computed

-- the largest numbers: 67 0ABCDEF 1FFFFFF ------- 1234567 101 31 89ABCDEF0123456776543210FEDCBA98 A5
pub row_sixty_seven : row_text (record {
  cycle = 67;
  fetch = Some 0xABCDEF;
  decode = Some 0x1FFFFFF;
  execute = None;
  write = Some 0x1234567;
  flags = record { rs1 = true; rs2 = false; rs3 = true };
  change = Some ((record { 0 = 31 }), (record { value = record { w0 = 0xFEDCBA98; w1 = 0x76543210; w2 = 0x1234567; w3 = 0x89ABCDEF }; mark = 0xA5 }));
})
    ≡ 54 ∷ 55
    ∷ 32 ∷ 48 ∷ 65 ∷ 66 ∷ 67 ∷ 68 ∷ 69 ∷ 70
    ∷ 32 ∷ 49 ∷ 70 ∷ 70 ∷ 70 ∷ 70 ∷ 70 ∷ 70
    ∷ 32 ∷ 45 ∷ 45 ∷ 45 ∷ 45 ∷ 45 ∷ 45 ∷ 45
    ∷ 32 ∷ 49 ∷ 50 ∷ 51 ∷ 52 ∷ 53 ∷ 54 ∷ 55
    ∷ 32 ∷ 49 ∷ 48 ∷ 49
    ∷ 32 ∷ 51 ∷ 49
    ∷ 32 ∷ 56 ∷ 57 ∷ 65 ∷ 66 ∷ 67 ∷ 68 ∷ 69 ∷ 70 ∷ 48 ∷ 49 ∷ 50 ∷ 51 ∷ 52 ∷ 53 ∷ 54 ∷ 55
    ∷ 55 ∷ 54 ∷ 53 ∷ 52 ∷ 51 ∷ 50 ∷ 49 ∷ 48 ∷ 70 ∷ 69 ∷ 68 ∷ 67 ∷ 66 ∷ 65 ∷ 57 ∷ 56
    ∷ 32 ∷ 65 ∷ 53
    ∷ 10 ∷ []
unfolding two_digits stage_text flags_text number_text register_text value_text mark_text row_text
row_sixty_seven = refl

-- two rows of the document's example, with their marks: where nothing is written, and li's, which is zero
-- 03 ------- 1810422 00000A1 ------- 000 -- -------------------------------- --
pub row_three : row_text (record {
  cycle = 3;
  fetch = None;
  decode = Some 0x1810422;
  execute = Some 0xA1;
  write = None;
  flags = record { rs1 = false; rs2 = false; rs3 = false };
  change = None;
})
    ≡ 48 ∷ 51
    ∷ 32 ∷ 45 ∷ 45 ∷ 45 ∷ 45 ∷ 45 ∷ 45 ∷ 45
    ∷ 32 ∷ 49 ∷ 56 ∷ 49 ∷ 48 ∷ 52 ∷ 50 ∷ 50
    ∷ 32 ∷ 48 ∷ 48 ∷ 48 ∷ 48 ∷ 48 ∷ 65 ∷ 49
    ∷ 32 ∷ 45 ∷ 45 ∷ 45 ∷ 45 ∷ 45 ∷ 45 ∷ 45
    ∷ 32 ∷ 48 ∷ 48 ∷ 48
    ∷ 32 ∷ 45 ∷ 45
    ∷ 32 ∷ (replicate 32 45 ++ (32 ∷ 45 ∷ 45 ∷ 10 ∷ []))
unfolding two_digits stage_text flags_text number_text register_text value_text mark_text row_text
row_three = refl

-- 04 ------- ------- 1810422 00000A1 110 01 00000000000000000000000000000005 00
pub row_four : row_text (record {
  cycle = 4;
  fetch = None;
  decode = None;
  execute = Some 0x1810422;
  write = Some 0xA1;
  flags = record { rs1 = true; rs2 = true; rs3 = false };
  change = Some ((record { 0 = 1 }), (record { value = record { w0 = 5; w1 = 0; w2 = 0; w3 = 0 }; mark = 0 }));
})
    ≡ 48 ∷ 52
    ∷ 32 ∷ 45 ∷ 45 ∷ 45 ∷ 45 ∷ 45 ∷ 45 ∷ 45
    ∷ 32 ∷ 45 ∷ 45 ∷ 45 ∷ 45 ∷ 45 ∷ 45 ∷ 45
    ∷ 32 ∷ 49 ∷ 56 ∷ 49 ∷ 48 ∷ 52 ∷ 50 ∷ 50
    ∷ 32 ∷ 48 ∷ 48 ∷ 48 ∷ 48 ∷ 48 ∷ 65 ∷ 49
    ∷ 32 ∷ 49 ∷ 49 ∷ 48
    ∷ 32 ∷ 48 ∷ 49
    ∷ 32 ∷ (replicate 31 48 ++ (53 ∷ 32 ∷ 48 ∷ 48 ∷ 10 ∷ []))
unfolding two_digits stage_text flags_text number_text register_text value_text mark_text row_text
row_four = refl

-- ---- the text tells the mark

-- no digit is a hyphen
no_hyphen : (d : ℕ) → d < 16 → digit d ≡ 45 → ⊥
no_hyphen d h e = let none : d ≡ 16 = sym (digit_meant d h) ∙ ap meant e in omega arith

-- both write and their marks agree as bytes, or neither writes
abbrev pub SameMark : Change → Change → Type 0
SameMark None None = Unit
SameMark None (Some (q, u)) = ⊥
SameMark (Some (p, o)) None = ⊥
SameMark (Some (p, o)) (Some (q, u)) = o.mark % 2 ^ 8 ≡ u.mark % 2 ^ 8

mark_told : (c d : Change) → mark_text c ≡ mark_text d → SameMark c d
unfolding mark_text
mark_told None None e = tt
mark_told None (Some (q, u)) e = no_hyphen (u.mark / 16 % 16) (omega arith) (sym (ap (λ (l : List ℕ). get_or l 0 0) e))
mark_told (Some (p, o)) None e = no_hyphen (o.mark / 16 % 16) (omega arith) (ap (λ (l : List ℕ). get_or l 0 0) e)
mark_told (Some (p, o)) (Some (q, u)) e = same_hex 2 o.mark u.mark e

-- two rows with the same text
pub same_mark : (r s : Row) → row_text r ≡ row_text s → SameMark r.change s.change
same_mark r s e = mark_told r.change s.change (sym (row_places r).8 ∙ ap (λ (l : List ℕ). take 2 (drop 75 l)) e ∙ (row_places s).8)
