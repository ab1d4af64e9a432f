use Rattle.std.proofs.Common.{◌≡◌, false, sym, subst, ◌∙◌}
use Rattle.akl_terms.specs.declared.name.Place.{Place}
use Rattle.box_tree.specs.Paths.{sight_in}
use Rattle.box_tree.specs.Tables.{TableValue}
use Rattle.wake_lists.specs.declared.turn.Urgency.{Urgency}
use Rattle.wake_lists.specs.Open.{is_busy}
use Rattle.scheduler.specs.Schedulers.{SchedulerValue}
use Rattle.scheduler.specs.Settled.{HasNoReasonNow}
use Rattle.scheduler.specs.Turns.{urgency_seen}
use Rattle.scheduler.proofs.CommitFacts.{not_both}
use Rattle.scheduler.proofs.Reasons.{open_reason, failing_reason, split_reason, no_reason}
use Rattle.scheduler.proofs.scheduler.Scheduler.has_reason.Goals as goal

pub returns-then-busy-clause-some : goal.returns-then-busy-clause-some
returns-then-busy-clause-some c = λ _.
    let s : SchedulerValue = record { core = c.self.inside.core; openings = c.self.inside.open; waits = c.self.inside.waits } in
    subst (λ (x : SchedulerValue). HasNoReasonNow x c.args.name → ⊥) c.self.view_is (open_reason s c.args.name (sym c.busy.ensures ∙ c.if-busy.true))

pub returns-then-is_failing-clause-some : goal.returns-then-is_failing-clause-some
returns-then-is_failing-clause-some c = λ _.
    let s : SchedulerValue = record { core = c.self.inside.core; openings = c.self.inside.open; waits = c.self.inside.waits } in
    subst (λ (x : SchedulerValue). HasNoReasonNow x c.args.name → ⊥) c.self.view_is
    (failing_reason s c.args.name c.self.inside.splits c.self.invariant
    (subst (λ (v : TableValue). urgency_seen (sight_in v (Place.Box c.args.name)) ≡ Urgency.Urgent) c.table.ensures.table (c.is_failing.ensures.only c.if-is_failing.true)))

pub returns-else-is_failing-clause-none : goal.returns-else-is_failing-clause-none
returns-else-is_failing-clause-none c = λ e.
    let s : SchedulerValue = record { core = c.self.inside.core; openings = c.self.inside.open; waits = c.self.inside.waits } in
    let quiet : is_busy c.args.name s.openings ≡ false = sym c.busy.ensures ∙ c.if-busy.false in
    subst (λ (x : SchedulerValue). HasNoReasonNow x c.args.name) c.self.view_is
    (no_reason s c.args.name c.self.inside.splits c.self.invariant quiet
    (λ u. not_both (c.is_failing.ensures.failing (subst (λ (v : TableValue). urgency_seen (sight_in v (Place.Box c.args.name)) ≡ Urgency.Urgent) (sym c.table.ensures.table) u)) c.if-is_failing.false)
    (sym c.has_box.ensures ∙ e))

pub returns-else-is_failing-clause-some : goal.returns-else-is_failing-clause-some
returns-else-is_failing-clause-some c = λ e.
    let s : SchedulerValue = record { core = c.self.inside.core; openings = c.self.inside.open; waits = c.self.inside.waits } in
    let quiet : is_busy c.args.name s.openings ≡ false = sym c.busy.ensures ∙ c.if-busy.false in
    subst (λ (x : SchedulerValue). HasNoReasonNow x c.args.name → ⊥) c.self.view_is (split_reason s c.args.name c.self.inside.splits c.self.invariant quiet (sym c.has_box.ensures ∙ e))
