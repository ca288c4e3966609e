-- Carried by `next_written`. The invariant: the words before i stand at the front.
use mathlib.Core.List.{flat_map}
use mathlib.Core.Path.{◌≡◌}
use lib.ListN.{take}
use Rattle.buffer.specs.Front.{at_front}
use Rattle.job_rules.specs.Layout.{four_bytes}
use Rattle.job_writer.proofs.put_words.Given as goal

abbrev pub invariant-loop-i : goal.invariant-loop-i
invariant-loop-i l = l.out ≡ at_front (flat_map four_bytes (take l.i l.words)) l.initial.out
