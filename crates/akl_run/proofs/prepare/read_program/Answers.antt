use Rattle.std.proofs.Common.{ap, Err, ◌∙◌}
use Rattle.akl_run.proofs.Loading.{from_error}
use Rattle.akl_run.proofs.Reading.{read_stops}
use Rattle.akl_run.proofs.prepare.read_program.Goals as goal

pub returns-in_err-read_up_to-clause-stop : goal.returns-in_err-read_up_to-clause-stop
returns-in_err-read_up_to-clause-stop g c =
    from_error c.from_residual.result c.from_residual.ensures.1 (λ stop p. read_stops _ _ c.in_err-read_up_to.field-0.0 stop p
    (λ e. c.read_up_to.ensures.failed (c.in_err-read_up_to.was ∙ ap Err e))
    (λ e. c.read_up_to.ensures.failed_early (c.in_err-read_up_to.was ∙ ap Err e))
    c.in_err-read_up_to.ensures.err)
