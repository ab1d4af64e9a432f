use Rattle.std.proofs.Common.{subst}
use Rattle.par_workers.specs.Shared.{SharedValue, IsShared}
use Rattle.par_workers.proofs.Cores.{may_settle}
use Rattle.par_workers.proofs.shared.SharedRun.settle.Goals as goal

pub settle-requires : goal.settle-requires
settle-requires c = may_settle c.args.self.now c.self.inside.scheduler.core c.args.worker c.args.idle
    (subst (λ (s : SharedValue). IsShared s c.self.inside.scheduler.core) c.self.view_is c.self.invariant.shared) c.requires.idle
