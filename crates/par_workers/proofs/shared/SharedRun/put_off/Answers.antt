use Rattle.std.proofs.Common.{sym, subst}
use Rattle.step_commit.specs.Cores.{CoreValue}
use Rattle.par_workers.specs.Shared.{IsShared}
use Rattle.par_workers.proofs.Holding.{untimed_held, going_before}
use Rattle.par_workers.proofs.shared.SharedRun.put_off.Goals as goal

pub invariant_of-self : goal.invariant_of-self
invariant_of-self c =
    let v = c.self.inside in
    let put = c.wait_for-postponed in
    record {
      shared = subst (λ (d : CoreValue). IsShared (record { begun = v.begun.value; past = v.past.items }) d) (sym put.ensures.core) c.self.invariant.shared;
      held = λ going. untimed_held v.scheduler.openings put.new.self.openings v.tokens.held put.ensures.places (c.self.invariant.held (going_before put.result v.stops c.stop_unless.new.stops c.stop_unless.ensures going));
    }
