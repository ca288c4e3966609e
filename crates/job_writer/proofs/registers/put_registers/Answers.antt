-- Carried by `next_copied`. The invariant: the bytes of the registers before i stand at the front.
use Prim.Native.Nat.{◌*◌}
use mathlib.Core.List.{flat_map}
use mathlib.Core.Path.{refl, ap}
use native.Mathlib.Omega.{arith}
use borrow.Author.Rules.{rules}
use lib.ListN.{length}
use Rattle.buffer.proofs.Parts.{all_fit_from}
use Rattle.register.specs.declared.Register.{Register}
use Rattle.register.specs.Layout.{bytes_of}
use Rattle.job_rules.proofs.Pieces.{next_copied}
use Rattle.job_writer.proofs.registers.put_registers.Goals as goal

pub loop-i-init : goal.loop-i-init
unfolding flat_map
loop-i-init c = refl

pub loop-i-preserved : goal.loop-i-preserved
loop-i-preserved c =
    let a = c.args in
    let i = c.loop-i.i in
    next_copied bytes_of 16 (λ (r : Register). refl) _ a.registers a.out.now c.loop-i.out _ c.to_bytes.result i (search rules)
    c.loop-i.invariant c.to_bytes.ensures
    (all_fit_from (16 * i) c.to_bytes.result c.loop-i.out c.put_front.ensures (omega (arith, ap length c.to_bytes.ensures)))
