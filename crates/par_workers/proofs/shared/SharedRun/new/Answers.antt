use Rattle.std.proofs.Common.{false, List, [], sym, subst}
use Rattle.step_commit.specs.Cores.{CoreValue}
use Rattle.par_workers.specs.declared.made.Made.{Made}
use Rattle.par_workers.specs.Shared.{IsShared}
use Rattle.par_workers.proofs.Cores.{shared_start}
use Rattle.par_workers.proofs.Holding.{first_held, had_memory}
use Rattle.par_workers.proofs.shared.SharedRun.new.Goals as goal

pub invariant_of-result : goal.invariant_of-result
invariant_of-result c =
    let s = c.in_ok-scheduler.scheduler in
    let dealt = c.deal-dealt in
    record {
      shared = subst (λ (d : CoreValue). IsShared (record { begun = d; past = c.new-2.result.items }) s.core) (sym c.of-begun.ensures)
          (subst (λ (ms : List Made). IsShared (record { begun = c.args.core; past = ms }) s.core) (sym c.new-2.ensures.items)
          (subst (IsShared (record { begun = c.args.core; past = [] })) (sym c.in_ok-scheduler.ensures.core) (shared_start c.args.core c.requires.begins)));
      held = λ going. first_held s dealt.new.self.held c.open_count.result c.in_ok-scheduler.ensures.open c.open_count.ensures (had_memory dealt.result false c.is_err.result c.is_err.ensures.value going dealt.ensures.held);
    }
