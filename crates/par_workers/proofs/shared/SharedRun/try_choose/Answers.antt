use Rattle.std.proofs.Common.{sym, subst}
use Rattle.std.proofs.lemmas.Result.{IfOk-weaker}
use Rattle.step_commit.specs.Cores.{CoreValue}
use Rattle.par_workers.specs.Shared.{SharedValue, IsShared}
use Rattle.par_workers.proofs.SharedLooks.{seen_in}
use Rattle.par_workers.proofs.shared.SharedRun.try_choose.Goals as goal

pub invariant_of-self : goal.invariant_of-self
invariant_of-self c =
    let v = c.self.inside in
    record {
      shared = subst (λ (d : CoreValue). IsShared (record { begun = v.begun.value; past = v.past.items }) d) (sym c.find_next.ensures.core) c.self.invariant.shared;
      held = λ going. c.find_next.ensures.held (c.self.invariant.held going);
    }

pub returns-clause-look : goal.returns-clause-look
returns-clause-look c =
    let core = c.self.inside.scheduler.core in
    IfOk-weaker c.find_next.result _ _
    (λ found sight. seen_in c.args.self.now core c.args.worker found (subst (λ (s : SharedValue). IsShared s core) c.self.view_is c.self.invariant.shared) sight) c.find_next.ensures.look
