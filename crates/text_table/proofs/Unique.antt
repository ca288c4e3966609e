-- For every public function: it asks nothing and no second answer fits, since its contract is one equation and has no `requires`.
-- Assumes nothing.
use mathlib.Core.Path.{◌≡◌, refl, sym, ap, ◌∙◌, Cosingl, contract'}
use Rattle.determined.specs.Determined.{Determined}
use Rattle.determined.proofs.OneEquation.{by_value, no_requires}
use Rattle.text_table.specs.declared.forms.Forms.{Forms}
use Rattle.text_table.specs.Table.{form_table}
use Rattle.text_table.proofs.digits.digit.Kinds as digit_kinds
use Rattle.text_table.proofs.digits.digit.Reads as digit_reads
use Rattle.text_table.proofs.forms.Forms.table.Kinds as table_kinds
use Rattle.text_table.proofs.forms.Forms.table.Reads as table_reads

pub digit_unique : Determined 0 digit_kinds.ps digit_kinds.r digit_reads.requires digit_reads.Post
digit_unique = by_value (λ κs a. no_requires) (λ κs a v w. refl)

-- the invariant alone leaves one table
the_one : (x y : Forms) → x ≡ y
the_one x y =
    let made : Cosingl form_table → Forms = λ s. record { rows = s.0; as_stated = s.1 } in
    sym (ap made (contract' x.as_stated)) ∙ ap made (contract' y.as_stated)

pub table_unique : Determined 0 table_kinds.ps table_kinds.r table_reads.requires table_reads.Post
table_unique = record { asks_nothing = λ κs a. no_requires; one_answer = λ κs a x y v w p q. (the_one x y, refl) }
