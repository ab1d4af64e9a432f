use Rattle.std.proofs.Common.{Bool, None, sym, ap, subst, ◌∙◌}
use Rattle.std.specs.Prelude.{cond}
use Rattle.wake_lists.specs.Open.{Openings, opening_at}
use Rattle.wake_lists.proofs.Keys.{token_here}
use Rattle.scheduler.specs.Schedulers.{SchedulerValue, HasGone}
use Rattle.scheduler.specs.Splits.{KeepsSplits}
use Rattle.scheduler.proofs.OpeningLists.{out_at}
use Rattle.scheduler.proofs.Starting.{forgotten}
use Rattle.scheduler.proofs.SplitsKept.{forgotten_splits}
use Rattle.scheduler.proofs.scheduler.Scheduler.forget.Goals as goal

pub invariant_of-self : goal.invariant_of-self
invariant_of-self c =
    let s : SchedulerValue = record { core = c.self.inside.core; openings = c.self.inside.open; waits = c.self.inside.waits } in
    let gone : HasGone s c.args.token = subst (λ (x : SchedulerValue). HasGone x c.args.token) (sym c.self.view_is) c.requires in
    subst (λ (os : Openings). KeepsSplits (record s { openings = os }) c.self.inside.splits) (sym c.close.ensures) (record {
      scheduler = forgotten s c.self.invariant.scheduler c.args.token gone;
      splits = forgotten_splits s c.self.invariant.scheduler c.args.token gone c.self.inside.splits c.self.invariant.splits;
    })

pub returns-clause-gone : goal.returns-clause-gone
returns-clause-gone c =
    let t = c.args.token in
    let os = c.self.inside.open in
    ap (opening_at t) c.close.ensures ∙ out_at t os c.self.invariant.scheduler.apart t ∙ ap (λ (b : Bool). cond b None (opening_at t os)) (token_here t)
