-- For every public function: it asks nothing and no second answer fits, since its contract is one equation and has no `requires`.
-- Assumes nothing.
use Prim.Native.Nat.{ℕ}
use mathlib.Core.Path.{◌≡◌, ◌∙◌, refl, sym}
use mathlib.Core.List.{List}
use contract.Lifetimes.{Lfts}
use borrow.Fn.Kinds.{ParamKind, ResultKind, Out, Dens, ended_of}
use borrow.Fn.World.{World, Pr}
use denote.Triple.Clauses.{Lasts, at_exit}
use denote.Triple.Entry.{Args, Res}
use Rattle.std.specs.Prelude.{Option, option_map}
use Rattle.determined.specs.Determined.{AsksNothing, Determined}
use Rattle.determined.proofs.OneEquation.{by_value, no_requires}
use Rattle.script.proofs.words.line_end.Kinds as line_end_kinds
use Rattle.script.proofs.words.line_end.Reads as line_end_reads
use Rattle.script.proofs.words.word_end.Kinds as word_end_kinds
use Rattle.script.proofs.words.word_end.Reads as word_end_reads
use Rattle.script.proofs.words.first_line.Kinds as first_line_kinds
use Rattle.script.proofs.words.first_line.Reads as first_line_reads
use Rattle.script.proofs.words.first_word.Kinds as first_word_kinds
use Rattle.script.proofs.words.first_word.Reads as first_word_reads
use Rattle.script.proofs.numbers.decimal.Kinds as decimal_kinds
use Rattle.script.proofs.numbers.decimal.Reads as decimal_reads
use Rattle.script.proofs.numbers.hex.Kinds as hex_kinds
use Rattle.script.proofs.numbers.hex.Reads as hex_reads

-- Of an answer that holds references no second one holds anything else; where they point, a contract leaves open.
pub record DeterminedIn
    {A : Type 0}
    (n : ℕ)
    (ps : List (ParamKind n))
    (r : ResultKind n)
    (requires : (κs : Lfts n) → Dens κs ps → Unit {0} → (w : World) → Pr w)
    (Post : Out n ps r)
    (held : (κs : Lfts n) → Res (ended_of n ps r).signature κs → A) : Type 2 where
  pub asks_nothing : (κs : Lfts n) (a : Dens κs ps) (w : World) → AsksNothing w.𝓤 (requires κs a tt w)
  pub one_held : (κs : Lfts n) (a : Args (ended_of n ps r).signature κs) (x y : Res (ended_of n ps r).signature κs) (v w : Lasts (ended_of n ps r) κs a)
      → Post κs a x (at_exit (ended_of n ps r) κs a v) → Post κs a y (at_exit (ended_of n ps r) κs a w) → (held κs x ≡ held κs y) × (v ≡ w)

pub line_end_unique : Determined 1 line_end_kinds.ps line_end_kinds.r line_end_reads.requires line_end_reads.Post
line_end_unique = by_value (λ κs a. no_requires) (λ κs a v w. refl)

pub word_end_unique : Determined 1 word_end_kinds.ps word_end_kinds.r word_end_reads.requires word_end_reads.Post
word_end_unique = by_value (λ κs a. no_requires) (λ κs a v w. refl)

-- what stands in front, and what stands behind, if anything
abbrev first_line_held : (κs : Lfts 1) → Res (ended_of 1 first_line_kinds.ps first_line_kinds.r).signature κs → List ℕ × Option (List ℕ)
first_line_held κs x = (x.0.now, option_map (λ rest. rest.now) x.1)

abbrev first_word_held : (κs : Lfts 1) → Res (ended_of 1 first_word_kinds.ps first_word_kinds.r).signature κs → List ℕ × Option (List ℕ)
first_word_held κs x = (x.0.now, option_map (λ rest. rest.now) x.1)

pub first_line_unique : DeterminedIn 1 first_line_kinds.ps first_line_kinds.r first_line_reads.requires first_line_reads.Post first_line_held
first_line_unique = record { asks_nothing = λ κs a. no_requires; one_held = λ κs a x y v w p q. (p ∙ sym q, refl) }

pub first_word_unique : DeterminedIn 1 first_word_kinds.ps first_word_kinds.r first_word_reads.requires first_word_reads.Post first_word_held
first_word_unique = record { asks_nothing = λ κs a. no_requires; one_held = λ κs a x y v w p q. (p ∙ sym q, refl) }

pub decimal_unique : Determined 1 decimal_kinds.ps decimal_kinds.r decimal_reads.requires decimal_reads.Post
decimal_unique = by_value (λ κs a. no_requires) (λ κs a v w. refl)

pub hex_unique : Determined 1 hex_kinds.ps hex_kinds.r hex_reads.requires hex_reads.Post
hex_unique = by_value (λ κs a. no_requires) (λ κs a v w. refl)
