-- What a load and a go make of a unit: how each test came out, the registers that a load sets, and that the records are well made. Carried by the laws of decisions, and by
-- what the reader's tests leave known of an accepted file.
-- Assumes nothing.
use Rattle.unit_rules.proofs.Shared.{ℕ, zero, suc, ◌-◌, ◌≤◌, ◌<◌, ◌≡◌, refl, sym, ap, subst, ◌∙◌, Bool, true, false, cond, false≢true, List, [], ◌∷◌}
use Rattle.unit_rules.proofs.Shared.{arith, not-false, length-take, ◌^◌, eq-eqb, ne_eqb, eqb-true, eqb-false, eqb, ltb, get_or, set, drop, length, length-set, length-append}
use Rattle.unit_rules.proofs.Shared.{length-replicate, take-append_seam, get_or-set_same, get_or-set_other, Register, zero_register, word_at, of_bytes}
use Rattle.unit_rules.proofs.Shared.{STATE, BUSY, target_of, first_bad, step_on, plain_on, step, plain, take, Job, ReadJob, instructions_at, two_at, registers_at, words_in, registers_of, filled, job_of}
use Rattle.unit_rules.proofs.Shared.{read_of, lines_of, Unit, cycles_of, drained_of, well_made_of, registers_set, loaded_of, loaded_by, load_of, gone_of, go_of}
use Rattle.unit_rules.proofs.Shared.{unit_with, Whole, Edition, One, Two, is_wired, cleared_for, registers_loaded, edition_in}
use Rattle.table.proofs.Decided.{stops, passes, ends, each, none_refused, denied, not_denied}
use Rattle.job_rules.proofs.Pieces.{length_pieces}
use Rattle.job_rules.proofs.Refusals.{accepted, read}
use Rattle.unit_rules.specs.Answers.{Loaded}
use Rattle.unit_rules.specs.Settled.{settled_flight}
use Rattle.unit_rules.proofs.WellMade.{WellMade, well_made_begun}
use Rattle.unit_rules.proofs.Wired.{cleared_held}
use Rattle.unit_rules.proofs.AsPipeline.{stored_whole}
use Rattle.unit_rules.proofs.Settled.{unit_after_lem}

-- ---- a job that was read

-- what a load relies on
pub record Sound (j : Job) : Type 0 where
  pub few : j.program.n.0 ≤ 64
  pub lines : length j.program.words ≡ 64
  pub good : j.program.n.0 ≤ first_bad (lines_of j.program)
  pub fewer : j.r ≤ 32
  pub rows : length j.registers ≡ 32

length_filled : {A : Type 0} (size : ℕ) (none : A) (l : List A) → length l ≤ size → length (filled size none l) ≡ size
length_filled size none l h = length-append l _ ∙ omega (arith, length-replicate (size - length l) none)

sound_job : (edition : Edition) (words : List ℕ) (registers : List Register) → length words ≤ 64 → length words ≤ first_bad words → length registers ≤ 32 → Sound (job_of edition words registers)
sound_job edition words registers few good fewer = record {
  few = few;
  lines = length_filled 64 0 words few;
  good = subst (λ (ws : List ℕ). length words ≤ first_bad ws) (sym (take-append_seam words _)) good;
  fewer = fewer;
  rows = length_filled 32 zero_register registers fewer;
}

pub sound_read : (file : List ℕ) → (read_of file).refusal ≡ 0 → Sound (read_of file).job
sound_read file e =
    let edition = edition_in file in
    let a = accepted edition file e in
    let t = a.header in
    let at = registers_at edition (two_at file 0) in
    let words = length_pieces (λ (m : List ℕ). word_at m 0) 4 (two_at file 0) (drop (instructions_at edition) file) in
    let registers = length_pieces of_bytes 16 (two_at file 2) (drop at file) in
    subst Sound (sym (ap (λ (r : ReadJob). r.job) (read edition file a)))
    (sound_job edition (words_in (two_at file 0) (drop (instructions_at edition) file)) (registers_of (two_at file 2) (drop at file))
    (omega (arith, words, t.few)) (omega (arith, words, a.good)) (omega (arith, registers, t.fewer)))

-- ---- the tests of a load and of a go

module _ (file : List ℕ) (u : Unit) where
  pub load_ill_made : well_made_of u ≡ false → load_of file u ≡ record { refusal = STATE; place = 0; unit = u }
  unfolding load_of
  load_ill_made h = sym (stops _ _ (denied h))

  pub load_busy : well_made_of u ≡ true → drained_of u ≡ false → load_of file u ≡ record { refusal = BUSY; place = 0; unit = u }
  unfolding load_of
  load_busy made runs = sym (passes _ _ _ (not_denied made) (stops _ _ (denied runs)))

  pub load_reads : well_made_of u ≡ true → drained_of u ≡ true → load_of file u ≡ loaded_by (read_of file) u
  unfolding load_of
  load_reads made done = sym (passes _ _ _ (not_denied made) (passes _ _ _ (not_denied done) ends))

  -- what is known where it is accepted
  pub record Taken : Type 0 where
    pub made : well_made_of u ≡ true
    pub done : drained_of u ≡ true
    pub good : (read_of file).refusal ≡ 0

  pub load_taken : (load_of file u).refusal ≡ 0 → Taken
  unfolding load_of
  load_taken e =
      let passed = none_refused _ _ (λ (a : Loaded). a.refusal) refl e in
      let made = not-false _ passed.0 in
      let done = not-false _ passed.1.0 in
      record { made = made; done = done; good = sym (ap (λ (a : Loaded). a.refusal) (load_reads made done)) ∙ e }

  pub load_sets : Taken → load_of file u ≡ record { refusal = 0; place = 0; unit = loaded_of (read_of file).job u }
  load_sets t =
      let is_read = read (edition_in file) file (accepted (edition_in file) file t.good) in
      load_reads t.made t.done
      ∙ rw (eq-eqb (read_of file).refusal 0 t.good)
      (λ i. record {
        refusal = t.good i;
        place = (is_read i).place;
        unit = loaded_of (read_of file).job u;
      })

  -- refused, it changes nothing
  pub load_refused : ((load_of file u).refusal ≡ 0 → ⊥) → (load_of file u).unit ≡ u
  unfolding load_of
  load_refused = each Kept _ _ (λ h. refl, (λ h. refl, tt)) (λ h. rw (ne_eqb _ _ h))
    where
      Kept : Loaded → Type 0
      Kept a = (a.refusal ≡ 0 → ⊥) → a.unit ≡ u

pub go_begins : (u : Unit) → well_made_of u ≡ true → go_of u ≡ record { refusal = 0; unit = gone_of u }
unfolding go_of
go_begins u made = sym (passes _ _ _ (not_denied made) ends)

pub go_ill_made : (u : Unit) → well_made_of u ≡ false → go_of u ≡ record { refusal = STATE; unit = u }
unfolding go_of
go_ill_made u h = sym (stops _ _ (denied h))

-- ---- the registers that a load sets, and those that it leaves

pub left_as_they_were : (r : ℕ) (file f : List Register) (i : ℕ) → r ≤ i → get_or (registers_set r file f) i zero_register ≡ get_or f i zero_register
left_as_they_were zero file f i h = refl
left_as_they_were (suc r) file f i h =
    get_or-set_other (registers_set r file f) r i (get_or file r zero_register) zero_register (λ e. omega arith)
    ∙ left_as_they_were r file f i (omega arith)

set_whole : (r : ℕ) (file f : List Register) → Whole f → Whole (registers_set r file f)
set_whole zero file f k = k
set_whole (suc r) file f k = length-set (registers_set r file f) r (get_or file r zero_register) ∙ set_whole r file f k

pub set_from_file : (r : ℕ) (file f : List Register) → Whole f → r ≤ 32 → (i : ℕ) → i < r
    → get_or (registers_set r file f) i zero_register ≡ get_or file i zero_register
set_from_file zero file f k few i h = absurd (omega arith)
set_from_file (suc r) file f k few i h = go (eqb i r) refl (set_from_file r file f k (omega arith) i)
  where
    go : (t : Bool) → eqb i r ≡ t → (i < r → get_or (registers_set r file f) i zero_register ≡ get_or file i zero_register)
        → get_or (set (registers_set r file f) r (get_or file r zero_register)) i zero_register ≡ get_or file i zero_register
    go true q before =
        rw (eqb-true i r q) (get_or-set_same (registers_set r file f) r (get_or file r zero_register) zero_register (omega (arith, set_whole r file f k)))
    go false q before =
        let other = eqb-false i r q in
        get_or-set_other (registers_set r file f) r i (get_or file r zero_register) zero_register other ∙ before (omega arith)

-- and then clears where the edition wires register 0: no other register, and that one has zero
cleared_whole : (edition : Edition) (f : List Register) → Whole f → Whole (cleared_for edition zero_register f)
cleared_whole One f k = k
cleared_whole Two f k = length-set f 0 zero_register ∙ k

pub loaded_whole : (j : Job) (f : List Register) → Whole f → Whole (registers_loaded j f)
loaded_whole j f k = cleared_whole j.program.edition (registers_set j.r j.registers f) (set_whole j.r j.registers f k)

pub cleared_others : (edition : Edition) (f : List Register) (i : ℕ) → is_wired edition (record { 0 = i }) ≡ false
    → get_or (cleared_for edition zero_register f) i zero_register ≡ get_or f i zero_register
cleared_others One f i h = refl
cleared_others Two f i h = get_or-set_other f 0 i zero_register zero_register (eqb-false i 0 h)

pub cleared_zero : (edition : Edition) (f : List Register) (i : ℕ) → is_wired edition (record { 0 = i }) ≡ true
    → get_or (cleared_for edition zero_register f) i zero_register ≡ zero_register
cleared_zero One f i h = absurd (false≢true h)
cleared_zero Two f i h = rw (eqb-true i 0 h) (first f)
  where
    first : (g : List Register) → get_or (set g 0 zero_register) 0 zero_register ≡ zero_register
    first [] = refl
    first (x ∷ g) = refl

-- ---- well made, and what follows a go

pub loaded_made : (j : Job) (u : Unit) → Sound j → WellMade (loaded_of j u)
loaded_made j u s =
    well_made_begun false j.program (registers_loaded j u.registers) s.few s.good (cleared_held j.program.edition (registers_set j.r j.registers u.registers))

pub well_made_gone : (u : Unit) → WellMade u → WellMade (gone_of u)
well_made_gone u w = well_made_begun true u.program u.registers w.few w.good w.held

-- plain execution leaves a whole file
pub plain_whole : (edition : Edition) (p : List ℕ) (f : List Register) → Whole f → Whole (plain edition p f)
unfolding plain_on step_on
plain_whole edition [] f k = k
plain_whole edition (w ∷ p) f k = plain_whole edition p (step edition w f) (stored_whole (target_of edition w) _ f k)

-- a program's n lines are there
pub bad_at_most : (ws : List ℕ) → first_bad ws ≤ length ws
unfolding first_bad
bad_at_most [] = omega arith
bad_at_most (w ∷ ws) = go (ltb w (2 ^ 25)) (bad_at_most ws)
  where
    go : (t : Bool) → first_bad ws ≤ length ws → cond t (suc (first_bad ws)) 0 ≤ suc (length ws)
    go true h = omega arith
    go false h = omega arith

pub enough_words : (u : Unit) → WellMade u → u.program.n.0 ≤ length u.program.words
enough_words u w =
    omega (arith, w.good, bad_at_most (lines_of u.program), length-take u.program.n.0 u.program.words)

-- after c cycles from a go the registers are the plain machine's, and they tell what is in flight
pub unit_gone : (u : Unit) → Whole u.registers → WellMade u → (c : ℕ)
    → (let g = plain u.program.edition (take (c - 3) (lines_of u.program)) u.registers in cycles_of c (gone_of u) ≡ unit_with (gone_of u) c g (settled_flight u.program c g))
unit_gone u whole w c = unit_after_lem u whole (enough_words u w) c
