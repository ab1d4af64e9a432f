use Rattle.std.proofs.Common.{Some, None, sym, ap, subst, ◌∙◌}
use Rattle.box_tree.specs.Tables.{TableValue, table_of}
use Rattle.box_tree.specs.Insides.{candidate_at}
use Rattle.wake_lists.specs.Open.{is_busy}
use Rattle.scheduler.specs.Schedulers.{SchedulerValue}
use Rattle.scheduler.specs.Splits.{IsOldestIn, IsOldestCandidate}
use Rattle.scheduler.proofs.SplitsKept.{quiet_splits}
use Rattle.scheduler.proofs.scheduler.Scheduler.candidate_in.Goals as goal

pub returns-in-Some : goal.returns-in-Some
returns-in-Some c =
    let s : SchedulerValue = record { core = c.self.inside.core; openings = c.self.inside.open; waits = c.self.inside.waits } in
    let oldest : IsOldestIn s.core.table c.args.name c.self.inside.splits (Some c.in-Some.goal) =
    subst (λ (v : TableValue). IsOldestIn v c.args.name c.self.inside.splits (Some c.in-Some.goal)) c.table.ensures.table
    (subst (IsOldestIn c.table.result.now c.args.name c.self.inside.splits) c.in-Some.is c.oldest_in.ensures) in
    subst (λ (x : SchedulerValue). IsOldestCandidate x.core.table c.args.name c.candidate_at.result) c.self.view_is
    (subst (IsOldestCandidate s.core.table c.args.name)
    (sym (c.candidate_at.ensures ∙ ap (λ (v : TableValue). candidate_at (table_of v) ((table_of v).goal_of c.in-Some.goal)) c.table-in-Some.ensures.table))
    (quiet_splits s c.self.inside.splits c.self.invariant c.args.name (ap (λ (x : SchedulerValue). is_busy c.args.name x.openings) c.self.view_is ∙ c.requires) (Some c.in-Some.goal) oldest))

pub returns-in-None : goal.returns-in-None
returns-in-None c =
    let s : SchedulerValue = record { core = c.self.inside.core; openings = c.self.inside.open; waits = c.self.inside.waits } in
    let oldest : IsOldestIn s.core.table c.args.name c.self.inside.splits None =
    subst (λ (v : TableValue). IsOldestIn v c.args.name c.self.inside.splits None) c.table.ensures.table
    (subst (IsOldestIn c.table.result.now c.args.name c.self.inside.splits) c.in-None.is c.oldest_in.ensures) in
    subst (λ (x : SchedulerValue). IsOldestCandidate x.core.table c.args.name None) c.self.view_is
    (quiet_splits s c.self.inside.splits c.self.invariant c.args.name (ap (λ (x : SchedulerValue). is_busy c.args.name x.openings) c.self.view_is ∙ c.requires) None oldest)
