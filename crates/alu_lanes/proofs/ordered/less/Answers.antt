-- Carried by `as_cast`: what the code compares are the signed numbers.
use Rattle.std.proofs.Common.{refl, sym, ap₂, ◌∙◌, lit<, rules}
use Rattle.std.proofs.lemmas.Int.{to_z-of_z}
use lib.Signed.{lt_z}
use mir.Syntax.{w32}
use Rattle.alu_lanes.proofs.Signed.{as_cast}
use Rattle.alu_lanes.proofs.ordered.less.Goals as goal

pub returns : goal.returns
returns c =
    ap₂ lt_z
    (to_z-of_z w32 c.cast_signed.result (search rules) ∙ c.cast_signed.ensures ∙ sym (as_cast w32 c.args.a (lit< tt) refl (search rules)))
    (to_z-of_z w32 c.cast_signed-2.result (search rules) ∙ c.cast_signed-2.ensures ∙ sym (as_cast w32 c.args.b (lit< tt) refl (search rules)))
