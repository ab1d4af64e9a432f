use Rattle.std.proofs.Common.{◌≡◌, ℕ, Option, Some, None, sym, subst}
use Rattle.std.specs.Prelude.{IfNone}
use Rattle.akl_terms.specs.declared.name.Place.{Place}
use Rattle.wake_lists.specs.Open.{IsFirst}
use Rattle.scheduler.specs.Schedulers.{SchedulerValue, IsScheduler, IsQuiet}
use Rattle.scheduler.proofs.Starting.{quiet_first}
use Rattle.scheduler.proofs.AtRest.{first_token, found_at_rest}
use Rattle.scheduler.proofs.scheduler.Scheduler.first_at_rest.Goals as goal

pub returns-in_err-token-clause-quiet : goal.returns-in_err-token-clause-quiet
returns-in_err-token-clause-quiet c =
    let e : c.first.result ≡ None = search in
    let f : c.from_residual.result ≡ None = search in
    let quiet : IsQuiet c.args.self.now = subst (λ (r : Option ℕ). IfNone r (IsQuiet c.args.self.now)) e
    (quiet_first c.args.self.now (subst IsScheduler c.self.view_is c.self.invariant.scheduler) c.first.result (subst (λ (s : SchedulerValue). IsFirst s.openings c.first.result) c.self.view_is c.first.ensures)) in
    subst (λ (r : Option (ℕ × Place)). IfNone r (IsQuiet c.args.self.now)) (sym f) quiet

pub returns-clause-quiet : goal.returns-clause-quiet
returns-clause-quiet c =
    let e : c.first.result ≡ Some c.in_ok-token.token = search in
    found_at_rest c.args.self.now.openings c.in_ok-token.token (IsQuiet c.args.self.now)
    (first_token c.args.self.now.openings c.first.result c.in_ok-token.token (subst (λ (s : SchedulerValue). IsFirst s.openings c.first.result) c.self.view_is c.first.ensures) e) c.at_rest_in.result c.at_rest_in.ensures.none
