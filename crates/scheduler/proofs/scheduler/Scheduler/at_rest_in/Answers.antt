use Rattle.std.proofs.Common.{◌≡◌, Some, None, ◌∙◌, ap, subst}
use Rattle.std.specs.Prelude.{option_map}
use Rattle.wake_lists.specs.Open.{Opening, opening_at}
use Rattle.scheduler.specs.Schedulers.{SchedulerValue, IsScheduler}
use Rattle.scheduler.proofs.AtRest.{inner_token, rests, has_token}
use Rattle.scheduler.proofs.scheduler.Scheduler.at_rest_in.Goals as goal

pub loop-next-smaller : goal.loop-next-smaller
loop-next-smaller c = (inner_token c.args.self.now (subst IsScheduler c.self.view_is c.self.invariant.scheduler) c.loop-next.inner c.in-Some.next c.inside.result c.loop-next.invariant c.inside.ensures c.in-Some.is).1

pub loop-next-preserved : goal.loop-next-preserved
loop-next-preserved c = (inner_token c.args.self.now (subst IsScheduler c.self.view_is c.self.invariant.scheduler) c.loop-next.inner c.in-Some.next c.inside.result c.loop-next.invariant c.inside.ensures c.in-Some.is).0

pub loop-next-init : goal.loop-next-init
loop-next-init c =
    let e : Some c.in_ok-place_of.field-0 ≡ c.place_of.result = search in
    has_token c.args.self.now.openings c.args.token c.in_ok-place_of.field-0
    (e ∙ c.place_of.ensures ∙ ap (λ (s : SchedulerValue). option_map (λ (o : Opening). o.place) (opening_at c.args.token s.openings)) c.self.view_is)

pub returns-clause-rest : goal.returns-clause-rest
returns-clause-rest c =
    let e : Some c.in_ok-place.place ≡ c.place_of-2.result = search in
    let f : c.inside.result ≡ None = search in
    rests c.args.self.now.openings c.loop-next.inner c.in_ok-place.place c.inside.result c.loop-next.invariant c.inside.ensures f
    (e ∙ c.place_of-2.ensures ∙ ap (λ (s : SchedulerValue). option_map (λ (o : Opening). o.place) (opening_at c.loop-next.inner s.openings)) c.self.view_is)
