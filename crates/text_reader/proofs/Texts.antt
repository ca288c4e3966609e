-- A text, a line at a time. Carried by the laws of `Reading`, and by `line_fits`: a line that is accepted is some of the text.
-- Assumes nothing.
use Prim.Native.Nat.{ℕ, suc, ◌+◌, ◌-◌, ◌≤◌, ◌<◌}
use mathlib.Core.Path.{◌≡◌, refl, sym, ap, ◌∙◌}
use mathlib.Core.List.{List, [], ◌∷◌, ◌++◌}
use native.Mathlib.Omega.{arith}
use lib.ListN.{length, take, drop, set, replicate, drop_of_length-le, length-append, length-drop}
use lib.Seq.{take_all, drop-drop}
use Rattle.std.specs.Prelude.{Ok}
use Rattle.table.specs.Refusal.{LINES}
use Rattle.job_rules.specs.Read.{filled}
use Rattle.job_rules.proofs.Pieces.{one_filled}
use Rattle.text_rules.specs.Line.{Line, line_of}
use Rattle.text_rules.specs.Text.{said_text, refused_text, read_from, read_text_of}
use Rattle.text_rules.proofs.Fits.{line_fits}
use Rattle.text_rules.proofs.Reading.{at_end, one_too_many, refused_there, goes_on_lem}

-- lines that are passed: with what is left of the text behind them they answer as the whole text does
pub record TextSoFar (text words : List ℕ) (n at : ℕ) : Type 0 where
  pub said : List ℕ
  pub count : n ≡ length said
  pub few : n ≤ 64
  pub stored : words ≡ filled 64 0 said
  pub within : at ≤ length text
  pub same : read_from (64 - n) said (drop at text) ≡ read_text_of text

-- before the first line
pub no_line : (text : List ℕ) → TextSoFar text (replicate 64 0) 0 0
no_line text = record {
  said = [];
  count = refl;
  few = omega arith;
  stored = refl;
  within = omega arith;
  same = refl;
}

module _ {text words : List ℕ} {n at : ℕ} (so_far : TextSoFar text words n at) where
  -- nothing is left: the text is accepted
  pub text_ended : length text ≤ at → said_text (Ok (record { words = words; n = record { 0 = n } })) ≡ read_text_of text
  text_ended h =
      rw (so_far.stored, so_far.count)
      (sym (at_end (64 - n) so_far.said) ∙ ap (read_from (64 - n) so_far.said) (sym (drop_of_length-le text h)) ∙ so_far.same)

  module _ (more : at < length text) where
    some_left : 0 < length (drop at text)
    some_left = omega (arith, length-drop at text)

    with_left : (left : ℕ) → 64 - n ≡ left → read_from left so_far.said (drop at text) ≡ read_text_of text
    with_left left e = ap (λ (k : ℕ). read_from k so_far.said (drop at text)) (sym e) ∙ so_far.same

    -- a 65th line
    pub line_65 : n ≡ 64 → refused_text LINES n ≡ read_text_of text
    line_65 full =
        ap (refused_text LINES) so_far.count ∙ sym (one_too_many so_far.said (drop at text) some_left) ∙ with_left 0 (omega arith)

    module _ (room : n ≡ 64 → ⊥) {line : Line} (read : line ≡ line_of (take (length text - at) (drop at text))) where
      below : n < 64
      below = omega (arith, so_far.few)

      one_less : 64 - n ≡ suc (64 - (n + 1))
      one_less = omega (arith, below)

      line_is : line ≡ line_of (drop at text)
      line_is = read ∙ ap line_of (take_all (length text - at) (drop at text) (omega (arith, length-drop at text)))

      -- a faulty line
      pub line_refused : (line.refusal ≡ 0 → ⊥) → refused_text line.refusal n ≡ read_text_of text
      line_refused bad =
          let number : line.refusal ≡ (line_of (drop at text)).refusal = ap (λ (x : Line). x.refusal) line_is in
          ap (λ (k : ℕ). refused_text k n) number
          ∙ ap (refused_text (line_of (drop at text)).refusal) so_far.count
          ∙ sym (refused_there (64 - (n + 1)) so_far.said (drop at text) some_left (λ z. bad (number ∙ z)))
          ∙ with_left (suc (64 - (n + 1))) one_less

      -- a line that is accepted: one line more
      pub line_more : line.refusal ≡ 0 → TextSoFar text (set words n line.word) (n + 1) (at + line.size)
      line_more good =
          let said = so_far.said in
          let fits : line.size ≤ length (drop at text) = rw line_is (line_fits (drop at text) (rw line_is at good)).1 in
          record {
            said = said ++ line.word ∷ [];
            count = omega (arith, so_far.count, length-append said (line.word ∷ []));
            few = omega (arith, below);
            stored = rw (so_far.stored, so_far.count) (one_filled 64 0 line.word said (omega (arith, below, so_far.count)));
            within = omega (arith, fits, length-drop at text, so_far.within);
            same = rw (line_is, ← drop-drop (line_of (drop at text)).size at text)
                (sym (goes_on_lem (64 - (n + 1)) said (drop at text) (rw line_is at good)) ∙ with_left (suc (64 - (n + 1))) one_less);
          }
