-- Carried by the laws of `Jobs`: by what was read of the file.
use Rattle.std.proofs.Common.{◌≡◌, sym, refl}
use Rattle.std.proofs.lemmas.Result.{err_from_is_err_and}
use Rattle.std.proofs.Math.Seq.{length-take-le}
use Rattle.table.proofs.Told.{never_0}
use Rattle.text_writer.proofs.Jobs.{file_refused, lines_within, file_listed}
use Rattle.text_writer.proofs.list_job.Goals as goal

pub returns-in_err-job : goal.returns-in_err-job
returns-in_err-job c =
    let told = err_from_is_err_and c.from_residual.result c.from_residual.ensures.1 in
    let same : told.0 ≡ c.in_err-job.field-0.0 = told.2 in
    rw (told.1, same) (file_refused c.args.file.now c.in_err-job.ensures c.args.buffer.now (never_0 c.in_err-job.field-0.0))

pub slice_bounds-words-end : goal.slice_bounds-words-end
slice_bounds-words-end c = lines_within c.args.file.now c.in_ok-job.ensures refl

pub slice_bounds-list_program-end : goal.slice_bounds-list_program-end
slice_bounds-list_program-end c = sym (length-take-le _ _ (lines_within c.args.file.now c.in_ok-job.ensures refl))

pub returns : goal.returns
returns c = file_listed _ c.in_ok-job.ensures refl _ c.list_program.ensures
