-- What is answered for a text, with room for it and without; and which text it is, by how the load came out. Carried by the laws of decisions.
-- Assumes nothing.
use Rattle.trace_rules.proofs.Shared.{mid_of, put_mid, at_front, then_front, row_size, Unit, well_made_says, well_made_after, fresh_drained, go_begins}
use Rattle.trace_rules.proofs.Shared.{TextAnswer, rows_of, end_text, refused_text, trace_text, job_text, put_of, write_text_of}
use Rattle.unit_rules.proofs.Shared.{ℕ, ◌+◌, ◌-◌, ◌*◌, ◌≤◌, ◌<◌, ◌≡◌, sym, ap, ◌∙◌, Bool, true, false, List, arith, lt-ltb, le-ltb}
use Rattle.unit_rules.proofs.Shared.{eq-eqb, ne_eqb, leb-true, leb-false, leb, length, ROOM}
use Rattle.unit_rules.proofs.Shared.{last_of, well_made_of, fresh_of, load_of, go_of}
use Rattle.table.proofs.Decided.{stops, passes, ends}
use Rattle.unit_rules.specs.Sequence.Call.{load, go}
use Rattle.unit_rules.specs.Answers.{Loaded, Gone}
use Rattle.trace_rules.proofs.TextLengths.{rows_long, trace_is, trace_long}

module _ (text buffer : List ℕ) where
  pub no_room_for : {r : TextAnswer} → r ≡ record { refusal = ROOM; size = 0 } → length buffer < length text → (r, buffer) ≡ put_of text buffer
  unfolding put_of
  no_room_for e h = rw e (stops _ _ (lt-ltb (length buffer) (length text) h))

  pub text_put : {new : List ℕ} {size : ℕ} → length text ≤ length buffer → new ≡ at_front text buffer → size ≡ length text
      → ◌≡◌ {A = TextAnswer × List ℕ} (record { refusal = 0; size = size }, new) (put_of text buffer)
  unfolding put_of
  text_put h e g = rw (e, g) (passes _ _ _ (le-ltb (length buffer) (length text) h) ends)

  -- by the test of the room as it came out
  module _ {size : ℕ} (counted : size ≡ length text) {t : Bool} (test : t ≡ leb (0 + size) (length buffer)) where
    pub room_for : t ≡ true → length text ≤ length buffer
    room_for h = omega (arith, leb-true (0 + size) (length buffer) (sym test ∙ h))

    pub put_with_room : t ≡ true → {new : List ℕ} → new ≡ at_front text buffer
        → ◌≡◌ {A = TextAnswer × List ℕ} (record { refusal = 0; size = size }, new) (put_of text buffer)
    put_with_room h e = text_put (room_for h) e counted

    pub not_put : t ≡ false → {r : TextAnswer} → r ≡ record { refusal = ROOM; size = 0 } → (r, buffer) ≡ put_of text buffer
    not_put h e = no_room_for e (omega (arith, leb-false (0 + size) (length buffer) (sym test ∙ h)))

-- a trace: its rows, and END at the front of the part behind them
module _ (u : Unit) (made : well_made_of u ≡ true) (went : u.gone ≡ true) {last : ℕ} (end : last ≡ last_of u.program.n.0) where
  pub not_past : u.cycle ≤ last
  not_past = let reached = (well_made_says u made).reached in omega arith

  pub all_left : u.cycle + (last - u.cycle) ≤ last_of u.program.n.0
  all_left = omega (arith, not_past)

  module _ (buffer : List ℕ) {t : Bool} (test : t ≡ leb (row_size * (last - u.cycle) + 7) (length buffer)) where
    pub rows_fit : t ≡ true → row_size * (last - u.cycle) ≤ length buffer
    rows_fit h = omega (arith, leb-true (row_size * (last - u.cycle) + 7) (length buffer) (sym test ∙ h))

    pub trace_put : t ≡ true → {rows part : List ℕ} → rows ≡ at_front (rows_of (last - u.cycle) u) buffer
        → part ≡ at_front (end_text (last - u.cycle)) (mid_of (row_size * (last - u.cycle)) (length rows - row_size * (last - u.cycle)) rows)
        → ◌≡◌ {A = TextAnswer × List ℕ} (
          record { refusal = 0; size = row_size * (last - u.cycle) + 7 },
          put_mid (row_size * (last - u.cycle)) (length rows - row_size * (last - u.cycle)) rows part,
        )
        (put_of (trace_text u) buffer)
    trace_put h {rows = rows} {part = part} e f =
        let k = last - u.cycle in
        let size = trace_long u made went end in
        text_put (trace_text u) buffer (omega (arith, leb-true (row_size * k + 7) (length buffer) (sym test ∙ h)))
        (then_front (row_size * k) (rows_of k u) (end_text k) buffer rows part (rows_long k u) e f ∙ rw (trace_is u made went end)) (sym size)

    pub trace_not_put : t ≡ false → {r : TextAnswer} → r ≡ record { refusal = ROOM; size = 0 } → (r, buffer) ≡ put_of (trace_text u) buffer
    trace_not_put h e =
        let size = trace_long u made went end in
        no_room_for (trace_text u) buffer e (omega (arith, leb-false (row_size * (last - u.cycle) + 7) (length buffer) (sym test ∙ h)))

module _ (file : List ℕ) {u : Unit} {s : Loaded} (fresh : u ≡ fresh_of) (load-it : s ≡ load_of file u) where
  loaded : load_of file fresh_of ≡ s
  loaded = sym (load-it ∙ ap (load_of file) fresh)

  pub text_refused : (s.refusal ≡ 0 → ⊥) → refused_text s.refusal ≡ job_text file
  unfolding job_text
  text_refused h = rw (loaded, ne_eqb s.refusal 0 h)

  pub refused_put : (buffer : List ℕ) {x : TextAnswer × List ℕ} → (s.refusal ≡ 0 → ⊥) → x ≡ put_of (refused_text s.refusal) buffer
      → x ≡ write_text_of file buffer
  refused_put buffer h e = rw (text_refused h) at e

  loaded_made : well_made_of s.unit ≡ true
  loaded_made = ap (λ (a : Loaded). well_made_of a.unit) (sym loaded) ∙ well_made_after fresh_of fresh_drained.1 (load file)

  -- once it goes
  module _ {g : Gone} (go_on : g ≡ go_of s.unit) where
    pub went_on : g.unit.gone ≡ true
    went_on = ap (λ (a : Gone). a.unit.gone) (go_on ∙ go_begins s.unit loaded_made)

    pub gone_made : well_made_of g.unit ≡ true
    gone_made = ap (λ (a : Gone). well_made_of a.unit) go_on ∙ well_made_after s.unit loaded_made go

    pub none_made : g.unit.cycle ≡ 0
    none_made = ap (λ (a : Gone). a.unit.cycle) (go_on ∙ go_begins s.unit loaded_made)

    module _ (accepted : s.refusal ≡ 0) where
      pub text_accepted : trace_text g.unit ≡ job_text file
      unfolding job_text
      text_accepted = rw (loaded, eq-eqb s.refusal 0 accepted, go_on)

      pub accepted_put : (buffer : List ℕ) {x : TextAnswer × List ℕ} → x ≡ put_of (trace_text g.unit) buffer → x ≡ write_text_of file buffer
      accepted_put buffer e = rw text_accepted at e
