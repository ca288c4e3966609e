-- Carried by `next_copied`. The invariant: the bytes of the registers before i stand at the front.
use mathlib.Core.List.{flat_map}
use mathlib.Core.Path.{◌≡◌}
use lib.ListN.{take}
use Rattle.buffer.specs.Front.{at_front}
use Rattle.register.specs.Layout.{bytes_of}
use Rattle.job_writer.proofs.registers.put_registers.Given as goal

abbrev pub invariant-loop-i : goal.invariant-loop-i
invariant-loop-i l = l.out ≡ at_front (flat_map bytes_of (take l.i l.register-items)) l.initial.out
