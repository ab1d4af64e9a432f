use Rattle.std.proofs.Common.{subst}
use Rattle.seq_engine.specs.Attending.{IsNextNow}
use Rattle.seq_engine.proofs.attending.follow.Goals as goal

pub settle-requires : goal.settle-requires
settle-requires c = subst (IsNextNow c.args.scheduler.now) c.in-Idle.is c.requires
