use Rattle.std.proofs.Common.{Bool, sym, ap, ◌∙◌}
use Rattle.std.specs.Prelude.{◌||◌}
use Rattle.akl_terms.specs.declared.name.Place.{Place}
use Rattle.scheduler.specs.Attending.{is_open, has_open}
use Rattle.scheduler.specs.Schedulers.{SchedulerValue}
use Rattle.scheduler.proofs.HasOpen.{token_open}
use Rattle.scheduler.proofs.scheduler.Scheduler.has_open_at.Goals as goal

pub returns-else-busy : goal.returns-else-busy
returns-else-busy c =
    let s : SchedulerValue = record { core = c.self.inside.core; openings = c.self.inside.open; waits = c.self.inside.waits } in
    c.is_some.ensures
    ∙ token_open s.openings c.self.invariant.scheduler.apart (Place.Box c.args.name) c.token_of.result c.token_of.ensures
    ∙ sym (ap (λ (b : Bool). b || is_open s.openings (Place.Box c.args.name)) (sym c.busy.ensures ∙ c.if-busy.false))
    ∙ ap (λ (x : SchedulerValue). has_open x.openings c.args.name) c.self.view_is
