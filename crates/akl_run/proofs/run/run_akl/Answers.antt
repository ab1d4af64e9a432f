use Rattle.std.proofs.Common.{refl}
use Rattle.akl_run.proofs.Explained.{stopped, ran}
use Rattle.akl_run.proofs.Reported.{reported}
use Rattle.akl_run.proofs.run.run_akl.Goals as goal

pub report_of-requires : goal.report_of-requires
report_of-requires g c = c.in-Ok.ensures.run.run.ended

pub returns-in-Err : goal.returns-in-Err
returns-in-Err g c = reported _ (stopped c.in-Err.stop c.in-Err.ensures.stop c.stopped.ensures refl)

pub returns-in-Ok : goal.returns-in-Ok
returns-in-Ok g c = reported _ (ran c.in-Ok.evaluated c.in-Ok.ensures.run c.report_of.ensures)
