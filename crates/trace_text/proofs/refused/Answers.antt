-- Carried by the laws of `TextPut`: the test of the room as it came out.
use mathlib.Core.Path.{refl, ap, ◌∙◌}
use Prim.Native.Nat.{ℕ}
use lib.ListN.{length}
use Rattle.table.specs.Refusal.{number_of}
use Rattle.buffer.specs.Front.{at_front}
use Rattle.trace_rules.specs.JobText.{refused_text}
use Rattle.trace_rules.proofs.TextPut.{put_with_room, not_put}
use Rattle.trace_text.proofs.refused.Goals as goal

pub returns-then-not-has_room : goal.returns-then-not-has_room
returns-then-not-has_room c =
    not_put (refused_text (number_of c.args.why)) c.args.out.now (c.refused_size-size.ensures ∙ ap (λ (k : ℕ). length (refused_text k)) c.number-number.ensures)
    c.has_room.ensures c.if-not-has_room.true refl

pub returns : goal.returns
returns c =
    put_with_room (refused_text (number_of c.args.why)) c.args.out.now (c.refused_size-size.ensures ∙ ap (λ (k : ℕ). length (refused_text k)) c.number-number.ensures)
    c.has_room.ensures c.if-not-has_room.false (c.put_refused.ensures ∙ ap (λ (k : ℕ). at_front (refused_text k) c.args.out.now) c.number-number.ensures)
