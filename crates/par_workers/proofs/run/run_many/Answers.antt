use Rattle.std.proofs.lemmas.Result.{IfOk-weaker}
use Rattle.par_workers.specs.Runs.{HasRunMany, HasGoneOn}
use Rattle.par_workers.proofs.run.run_many.Goals as goal

pub returns : goal.returns
returns g c =
    IfOk-weaker c.finish.result (HasGoneOn c.in_ok-scheduler.scheduler.core c.in_ok-scheduler.receipts.items) (HasRunMany c.args.core) (λ f gone. gone c.args.core c.in_ok-scheduler.ensures) c.finish.ensures
