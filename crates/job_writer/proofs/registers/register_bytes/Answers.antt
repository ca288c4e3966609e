-- Carried by `pieces_fill`: 32 registers of 16 bytes fill the array.
use mathlib.Core.Path.{refl}
use borrow.Author.Rules.{rules}
use lib.ListN.{replicate}
use Rattle.register.specs.declared.Register.{Register}
use Rattle.register.specs.Layout.{bytes_of}
use Rattle.job_rules.proofs.Pieces.{pieces_fill}
use Rattle.job_writer.proofs.registers.register_bytes.Goals as goal

pub returns : goal.returns
returns c =
    let a = c.args in
    pieces_fill bytes_of 16 (λ (r : Register). refl) a.registers (replicate 512 0) _ (search rules) c.put_registers.ensures
