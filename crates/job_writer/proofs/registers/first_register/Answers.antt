-- Carried by `first_sixteen`.
use Rattle.job_rules.proofs.Pieces.{first_sixteen}
use Rattle.job_writer.proofs.registers.first_register.Goals as goal

pub returns-in-Some : goal.returns-in-Some
returns-in-Some c =
    let first = c.in-Some.ensures.cases in
    first_sixteen c.args.registers.now first.enough first.same c.from_bytes.ensures
