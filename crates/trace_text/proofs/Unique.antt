-- For every public function: it asks nothing and no second answer and no second buffer fits, since its contract is one equation of both and has
-- no `requires`.
-- Assumes nothing.
use Prim.Native.Nat.{ℕ}
use native.Mathlib.Omega.{arith}
use Rattle.table.specs.Refusal.{WORD}
use Rattle.table.proofs.Decided.{each}
use Rattle.table.proofs.Told.{one_without_place}
use mathlib.Core.Path.{◌≡◌, refl, sym, ap, ◌∙◌}
use mathlib.Core.List.{List}
use Rattle.determined.specs.Determined.{Determined}
use Rattle.determined.proofs.OneEquation.{by_value, no_requires}
use Rattle.trace_rules.specs.JobText.{TextAnswer, put_of, job_text}
use Rattle.trace_text.proofs.whole_text.Kinds as whole_text_kinds
use Rattle.trace_text.proofs.whole_text.Reads as whole_text_reads
use Rattle.trace_text.proofs.write_text.Kinds as write_text_kinds
use Rattle.trace_text.proofs.write_text.Reads as write_text_reads

pub whole_text_unique : Determined 1 whole_text_kinds.ps whole_text_kinds.r whole_text_reads.requires whole_text_reads.Post
whole_text_unique = by_value (λ κs a. no_requires) (λ κs a v w. refl)

abbrev number : (TextAnswer × List ℕ) → ℕ
number z = z.0.refusal

-- a text is refused with 9 only
never_word : (text buffer : List ℕ) → number (put_of text buffer) ≡ WORD → ⊥
unfolding put_of
never_word text buffer = each (λ (z : TextAnswer × List ℕ). z.0.refusal ≡ WORD → ⊥) _ _ (λ e. omega (arith, e), tt) (λ e. omega (arith, e))

pub write_text_unique : Determined 2 write_text_kinds.ps write_text_kinds.r write_text_reads.requires write_text_reads.Post
write_text_unique = record {
  asks_nothing = λ κs a. no_requires;
  one_answer = λ κs a x y v w p q.
      let size : (TextAnswer × List ℕ) → ℕ = λ z. z.0.size in (
        one_without_place 0 x y (ap number p) (ap number q) (never_word (job_text a.0.now) a.1.0.now) (ap size (p ∙ sym q)),
        λ i. (v.0, (ap (λ (z : TextAnswer × List ℕ). z.1) (p ∙ sym q) i, v.1.1)),
      );
}
