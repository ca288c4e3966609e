-- A record that has fewer words than lines is not well made; the edition has no part in it.
-- Assumes nothing.
use Rattle.unit_rules.proofs.Shared.{ℕ, ◌<◌, ◌≡◌, false, List, arith, length, take, lt-leb, leb, first_bad, program_made, length-take}
use Rattle.unit_rules.proofs.Loading.{bad_at_most}
use Rattle.table.specs.declared.Count.{Count}
use Rattle.table.specs.declared.Edition.TheVariants.{One}
use mathlib.Core.Bool.{and-false}

pub too_few_words : (words : List ℕ) (n : Count) → length words < n.0 → false ≡ program_made (record { words = words; n = n; edition = One })
too_few_words words n h =
    let none = lt-leb n.0 (first_bad (take n.0 words)) (omega (arith, bad_at_most (take n.0 words), length-take n.0 words)) in
    rw (none, and-false (leb n.0 64))
