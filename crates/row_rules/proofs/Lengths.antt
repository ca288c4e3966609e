-- How long each field of a row is. Carried by computing, and by the cases of a stage and a change.
-- Assumes nothing.
use Prim.Native.Nat.{ℕ}
use mathlib.Core.Path.{◌≡◌, refl}
use lib.ListN.{length}
use Rattle.row_rules.specs.Shown.{Stage}
use Rattle.std.specs.declared.option.Option.TheVariants.{None, Some}
use Rattle.row_rules.specs.declared.Flags.{Flags}
use Rattle.row_rules.specs.Shown.{Change}
use Rattle.row_rules.specs.Text.{two_digits, stage_text, flags_text, number_text, register_text, value_text, mark_text}

pub two_long : (n : ℕ) → length (two_digits n) ≡ 2
unfolding two_digits
two_long n = refl

pub stage_long : (s : Stage) → length (stage_text s) ≡ 7
unfolding stage_text
stage_long None = refl
stage_long (Some w) = refl

pub flags_long : (f : Flags) → length (flags_text f) ≡ 3
unfolding flags_text
flags_long f = refl

pub number_long : (x : Change) → length (number_text x) ≡ 2
unfolding number_text two_digits
number_long None = refl
number_long (Some (p, o)) = refl

pub value_long : (x : Change) → length (value_text x) ≡ 32
unfolding value_text register_text
value_long None = refl
value_long (Some (p, o)) = refl

pub mark_long : (x : Change) → length (mark_text x) ≡ 2
unfolding mark_text
mark_long None = refl
mark_long (Some (p, o)) = refl
