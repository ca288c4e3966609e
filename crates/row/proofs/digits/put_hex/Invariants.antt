-- Carried by `digit_more`. The invariant: the last k - i digits stand from place i on, and the rest of the number is what is left before them.
use Prim.Native.Nat.{◌-◌, ◌/◌, ◌^◌}
use mathlib.Core.Path.{◌≡◌}
use lib.ListN.{length}
use Rattle.buffer.specs.Front.{from_start}
use Rattle.row_rules.specs.Text.{hex_digits}
use Rattle.row.proofs.digits.put_hex.Given as goal

abbrev pub invariant-loop-i : goal.invariant-loop-i
invariant-loop-i l =
    (length l.out ≡ length l.initial.out) × (l.rest ≡ l.w / 16 ^ (l.k - l.i)) × (l.out ≡ from_start l.i (hex_digits (l.k - l.i) l.w) l.initial.out)
