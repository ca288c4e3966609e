-- Carried by the laws of `Texts`. The invariant: behind the lines so far the rest of the text answers as the whole text does.
use Prim.Native.Nat.{◌-◌}
use Rattle.text_reader.proofs.Texts.{TextSoFar}
use Rattle.text_reader.proofs.read_text.Given as goal

abbrev pub invariant-loop-at : goal.invariant-loop-at
invariant-loop-at l = TextSoFar l.text l.words l.n l.at

abbrev pub decreases-loop-at : goal.decreases-loop-at
decreases-loop-at l = 64 - l.n
