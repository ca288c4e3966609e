-- For every public function: it asks nothing and no second answer and no second buffer fits, since its contract is one equation of both and has
-- no `requires`.
-- Assumes nothing.
use Prim.Native.Nat.{ℕ}
use mathlib.Core.Path.{◌≡◌, refl, sym, ap, ◌∙◌}
use mathlib.Core.List.{List}
use native.Mathlib.Omega.{arith}
use Rattle.table.specs.Refusal.{WORD}
use Rattle.table.proofs.Decided.{each}
use Rattle.table.proofs.Told.{one_without_place}
use Rattle.row_rules.specs.declared.Row.{Row}
use Rattle.row_rules.specs.Text.{row_at}
use Rattle.determined.specs.Determined.{Determined}
use Rattle.determined.proofs.OneEquation.{by_value, no_requires}
use Rattle.row.proofs.digits.tens.Kinds as tens_kinds
use Rattle.row.proofs.digits.tens.Reads as tens_reads
use Rattle.row.proofs.digits.hex.Kinds as hex_kinds
use Rattle.row.proofs.digits.hex.Reads as hex_reads
use Rattle.row.proofs.digits.units.Kinds as units_kinds
use Rattle.row.proofs.digits.units.Reads as units_reads
use Rattle.row.proofs.values.word_text.Kinds as word_text_kinds
use Rattle.row.proofs.values.word_text.Reads as word_text_reads
use Rattle.row.proofs.values.register_word_text.Kinds as register_word_text_kinds
use Rattle.row.proofs.values.register_word_text.Reads as register_word_text_reads
use Rattle.row.proofs.values.register_text.Kinds as register_text_kinds
use Rattle.row.proofs.values.register_text.Reads as register_text_reads
use Rattle.row.proofs.write_row.Kinds as write_row_kinds
use Rattle.row.proofs.write_row.Reads as write_row_reads

-- a row is refused with 9 only
never_word : (r : Row) (start : ℕ) (buffer : List ℕ) → (row_at r start buffer).0 ≡ WORD → ⊥
unfolding row_at
never_word r start buffer = each (λ (z : ℕ × List ℕ). z.0 ≡ WORD → ⊥) _ _ (λ e. omega (arith, e), tt) (λ e. omega (arith, e))

pub write_row_unique : Determined 1 write_row_kinds.ps write_row_kinds.r write_row_reads.requires write_row_reads.Post
write_row_unique = record {
  asks_nothing = λ κs a. no_requires;
  one_answer = λ κs a x y v w p q.
      let number : (ℕ × List ℕ) → ℕ = λ z. z.0 in
      (one_without_place tt x y (ap number p) (ap number q) (never_word a.1.1.0 a.1.0 a.0.now) refl, λ i. (ap (λ (z : ℕ × List ℕ). z.1) (p ∙ sym q) i, v.1));
}

pub tens_unique : Determined 0 tens_kinds.ps tens_kinds.r tens_reads.requires tens_reads.Post
tens_unique = by_value (λ κs a. no_requires) (λ κs a v w. refl)

pub hex_unique : Determined 0 hex_kinds.ps hex_kinds.r hex_reads.requires hex_reads.Post
hex_unique = by_value (λ κs a. no_requires) (λ κs a v w. refl)

pub units_unique : Determined 0 units_kinds.ps units_kinds.r units_reads.requires units_reads.Post
units_unique = by_value (λ κs a. no_requires) (λ κs a v w. refl)

pub word_text_unique : Determined 0 word_text_kinds.ps word_text_kinds.r word_text_reads.requires word_text_reads.Post
word_text_unique = by_value (λ κs a. no_requires) (λ κs a v w. refl)

pub register_word_text_unique :
    Determined 0 register_word_text_kinds.ps register_word_text_kinds.r register_word_text_reads.requires register_word_text_reads.Post
register_word_text_unique = by_value (λ κs a. no_requires) (λ κs a v w. refl)

pub register_text_unique : Determined 0 register_text_kinds.ps register_text_kinds.r register_text_reads.requires register_text_reads.Post
register_text_unique = by_value (λ κs a. no_requires) (λ κs a v w. refl)
