use Rattle.std.proofs.Common.{subst}
use Rattle.scheduler.specs.Settled.{IsNotSettled}
use Rattle.seq_engine.proofs.Plans.{seen_enough}
use Rattle.seq_engine.proofs.attending.settle.Goals as goal

pub unreachable-requires-in-Err-LookInside : goal.unreachable-requires-in-Err-LookInside
unreachable-requires-in-Err-LookInside c =
    absurd ((subst (IsNotSettled c.args.scheduler.now c.args.idle.now) c.in-Err-LookInside.field-0-is c.in-Err-LookInside.ensures.refused).1 (seen_enough c.args.scheduler.now c.args.idle.now c.requires))
