-- A job that is read has at most 32 registers.
use mathlib.Core.Path.{◌∙◌, ap, sym}
use Rattle.job_rules.specs.Read.{said_read}
use Rattle.unit.proofs.Loading.{few_registers}
use Rattle.unit.proofs.begin.load_file.Goals as goal

pub loaded-requires : goal.loaded-requires
loaded-requires c = few_registers c.args.file.now c.args.u c.in-Ok.job (ap said_read (sym c.in-Ok.is) ∙ c.read_job.ensures)
