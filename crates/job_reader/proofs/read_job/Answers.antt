-- Carried by `counts_fit`: the counts of an accepted header.
use mathlib.Core.Path.{sym, ◌∙◌}
use Rattle.job_rules.proofs.Refusals.{counts_fit}
use Rattle.job_reader.proofs.read_job.Goals as goal

pub read_body-requires : goal.read_body-requires
read_body-requires c = counts_fit _ _ _ (sym c.read_header-header.ensures ∙ c.in-Ok.is)
