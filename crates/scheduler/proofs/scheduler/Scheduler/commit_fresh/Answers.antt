use Rattle.std.proofs.Common.{List, refl, sym, ap, subst, ◌∙◌}
use Rattle.akl_terms.specs.declared.name.Place.{Place}
use Rattle.box_tree.specs.Tables.{TableValue}
use Rattle.opened_places.specs.Gone.{AreGone}
use Rattle.opened_places.specs.Placed.{PlacedValue, places_of}
use Rattle.scheduler.specs.Once.{IsEachPlaceOnce}
use Rattle.scheduler.specs.Schedulers.{SchedulerValue}
use Rattle.scheduler.proofs.Untimed.{untimed_commits}
use Rattle.scheduler.specs.Turns.{AreHintsFor}
use Rattle.scheduler.proofs.Hurrying.{suspects_urgent, still_among}
use Rattle.scheduler.proofs.WorkBound.{label_within}
use Rattle.scheduler.proofs.CoreTables.{of_run}
use Rattle.scheduler.proofs.scheduler.Scheduler.commit_fresh.Goals as goal

pub of-requires : goal.of-requires
of-requires g c = of_run c.self.inside.core c.table.ensures.core c.table.result.now c.table.ensures.table

pub returns-in_err-effects-clause-steps : goal.returns-in_err-effects-clause-steps
returns-in_err-effects-clause-steps g c = label_within c.args.self.now c.args.plan c.args.steps.now

pub commit_opening-requires-clause-gone : goal.commit_opening-requires-clause-gone
commit_opening-requires-clause-gone g c =
    subst (λ (v : TableValue). AreGone v c.args.plan.label c.args.plan.step c.as_slice-gone.result.now) (c.table.ensures.table ∙ ap (λ (x : SchedulerValue). x.core.table) c.self.view_is)
    (subst (λ (ps : List Place). AreGone c.table.result.now c.args.plan.label c.args.plan.step ps) (sym c.as_slice-gone.ensures.value) c.in_ok-effects.ensures.gone)

pub commit_opening-requires-clause-once : goal.commit_opening-requires-clause-once
commit_opening-requires-clause-once g c = subst (λ (ps : List Place). IsEachPlaceOnce ps) (sym c.as_slice-gone.ensures.value) c.in_ok-effects.ensures.once

pub returns-clause-committed : goal.returns-clause-committed
returns-clause-committed g c =
    let d : SchedulerValue = c.commit_opening.new.self in
    let e : SchedulerValue = c.set_turns.new.self in
    let places : List PlacedValue = c.as_slice-opened.result.now in
    untimed_commits c.args.self.now c.args.plan d e c.in_ok-committed.committed _ c.in_ok-committed.ensures.committed c.set_turns.ensures.places c.set_turns.ensures.core c.set_turns.ensures.waits refl refl
    (suspects_urgent c.args.self.now e c.args.plan (places_of places) (still_among c.args.self.now d e (places_of places) c.set_turns.ensures.core c.in_ok-committed.ensures.opened) c.in_ok-effects.effects.hints
    (subst (λ (v : TableValue). AreHintsFor v c.args.plan c.in_ok-effects.effects.hints) (c.table.ensures.table ∙ ap (λ (x : SchedulerValue). x.core.table) c.self.view_is) c.in_ok-effects.ensures.hints)
    c.set_turns.ensures.urgent c.set_turns.ensures.unsolved)
