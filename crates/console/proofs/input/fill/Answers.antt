use Rattle.std.proofs.Common.{rules, subst}
use Rattle.std.specs.Io.KnownBytes.{Consumes}
use Rattle.std.proofs.KnownBytes.{Consumes-trans}
use Rattle.console.proofs.Pieces.{front_grown}
use Rattle.console.proofs.input.fill.Goals as goal

pub loop-size-preserved : goal.loop-size-preserved
loop-size-preserved g c =
    let came = c.in-Ok.ensures in
    let so_far = c.loop-size.invariant in
    (search rules, search rules, subst (Consumes _ _) (front_grown _ _ _ _ _ so_far.0 came.bound.0) (Consumes-trans _ _ _ _ _ so_far.2 came.bytes))
