-- Carried by `byte_back`. The invariant: the bytes of the name from place i on stand there, and the rest of the key is that of the bytes before them.
use Prim.Native.Nat.{◌≤◌}
use mathlib.Core.Path.{◌≡◌}
use lib.ListN.{length, take, drop}
use Rattle.buffer.specs.Front.{from_start}
use Rattle.text_rules.specs.Forms.{form_at}
use Rattle.text_table.specs.Table.{key_of}
use Rattle.text_writer.proofs.name.put_name.Given as goal

abbrev pub invariant-loop-i : goal.invariant-loop-i
invariant-loop-i l =
    (l.i ≤ length (form_at l.row).name) × (length l.out ≡ length l.initial.out) × (l.rest ≡ key_of (take l.i (form_at l.row).name)) × (l.out ≡ from_start l.i (drop l.i (form_at l.row).name) l.initial.out)
