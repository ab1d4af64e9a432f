use Rattle.std.proofs.Common.{◌≡◌, ℕ, List, ◌++◌, false, refl, sym, ap, subst, ◌∙◌}
use Rattle.std.specs.Prelude.{Option, IfSome, ⊤}
use Rattle.akl_terms.specs.declared.name.Var.{Var}
use Rattle.akl_terms.specs.declared.name.Place.{Place}
use Rattle.akl_model.specs.declared.label.Label.{Label}
use Rattle.box_tree.specs.Plans.{IsRight}
use Rattle.box_tree.specs.Tables.{TableValue, table_of}
use Rattle.wake_lists.specs.Open.{Openings, IsOpen}
use Rattle.wake_lists.specs.Waits.{waits_on}
use Rattle.step_commit.specs.Cores.{MayCommit, IsFresh}
use Rattle.opened_places.specs.Gone.{AreGone}
use Rattle.scheduler.specs.Dropping.{DropsWaits, after_going, places_under}
use Rattle.scheduler.specs.Listing.{AreListedFor}
use Rattle.scheduler.specs.Schedulers.{SchedulerValue}
use Rattle.scheduler.specs.declared.splits.Split.{Split}
use Rattle.scheduler.specs.Splits.{splits_at, DropsSplits, EndsThose, KeepsSplits}
use Rattle.scheduler.specs.Committed.{CommitsWithTurns, OpensAmong}
use Rattle.scheduler.specs.declared.committing.Committed.{Committed}
use Rattle.opened_places.specs.Placed.{places_of}
use Rattle.scheduler.specs.Counting.{DropBySteps, TakesLabelSteps}
use Rattle.scheduler.proofs.CountedWaits.{drop_both}
use Rattle.scheduler.proofs.UnderTokens.{drops_opened, counts_opened, own_silent}
use Rattle.scheduler.proofs.WorkBound.{label_within, opening_within, dropping_within}
use Rattle.scheduler.proofs.CommitKept.{committed_scheduler, committed_splits, opens_among, committed_so}
use Rattle.scheduler.proofs.scheduler.Scheduler.commit_opening.Goals as goal

pub returns-in_err-ended-clause-steps : goal.returns-in_err-ended-clause-steps
returns-in_err-ended-clause-steps g c = label_within c.args.self.now c.args.plan c.args.steps.now

pub invariant_of-self-in-Ok : goal.invariant_of-self-in-Ok
invariant_of-self-in-Ok g c =
    let s : SchedulerValue = record { core = c.self.inside.core; openings = c.self.inside.open; waits = c.self.inside.waits } in
    let dropped : DropsWaits s.waits (places_of c.args.places.now) c.drop_opened.new.waits = drops_opened s c.self.invariant.scheduler c.args.places.now c.open_all.new.open_places c.in_ok-opened.opened.items c.in_ok-opened.ensures.opened c.drop_opened.new.waits
    (subst (λ (ts : List ℕ). DropsWaits s.waits (places_under ts c.open_all.new.open_places) c.drop_opened.new.waits) c.as_slice.ensures c.drop_opened.ensures.waits) in
    let right : IsRight c.args.plan = subst IsRight c.plan.view_is c.plan.invariant in
    let may : MayCommit s.core c.args.plan = subst (λ (x : SchedulerValue). MayCommit x.core c.args.plan) (sym c.self.view_is) c.requires.may in
    let fresh : IsFresh s.core c.args.plan = subst (λ (x : SchedulerValue). IsFresh x.core c.args.plan) (sym c.self.view_is) c.requires.fresh in
    let gone : AreGone s.core.table c.args.plan.label c.args.plan.step c.args.gone.now = subst (λ (x : SchedulerValue). AreGone x.core.table c.args.plan.label c.args.plan.step c.args.gone.now) (sym c.self.view_is) c.requires.gone in
    let listed : AreListedFor s.core.table s.waits c.args.plan c.args.gone.now c.args.places.now =
    subst (λ (x : SchedulerValue). AreListedFor x.core.table x.waits c.args.plan c.args.gone.now c.args.places.now) (sym c.self.view_is) c.requires.places in
    let token : IsOpen s.openings c.args.plan.label.place c.token_of-own.result = subst (λ (l : Label). IsOpen s.openings l.place c.token_of-own.result) c.label-place.ensures c.token_of-own.ensures in
    let left : c.leave_gone.new.open_places ≡ after_going c.token_of-own.result c.args.plan.label.place c.args.gone.now c.open_all.new.open_places =
    c.leave_gone.ensures ∙ ap (λ (l : Label). after_going c.token_of-own.result l.place c.args.gone.now c.open_all.new.open_places) c.label-place.ensures in
    let ends : EndsThose (table_of s.core.table) (places_of c.args.places.now) c.args.gone.now c.self.inside.splits c.in_ok-ended.ended.items =
    subst (λ (t : TableValue). EndsThose (table_of t) (places_of c.args.places.now) c.args.gone.now c.self.inside.splits c.in_ok-ended.ended.items) c.table.ensures.table c.in_ok-ended.ensures in
    let drops : DropsSplits (splits_at (table_of s.core.table) (places_of c.args.places.now) ++ splits_at (table_of s.core.table) c.args.gone.now) c.self.inside.splits c.remove_all.new.self =
    λ x. subst (λ (ended : List Split). DropsSplits ended c.self.inside.splits c.remove_all.new.self) c.as_slice-in-Ok.ensures.value c.remove_all.ensures x ∙ ends x in
    subst (λ (os : Openings). KeepsSplits (record { core = c.append.new.self; openings = os; waits = c.drop_gone.new.waits }) c.remove_all.new.self) (sym left) (record {
      scheduler = committed_scheduler s c.self.invariant.scheduler c.args.plan right may fresh c.args.gone.now gone c.args.places.now listed c.open_all.new.open_places c.in_ok-opened.opened.items c.in_ok-opened.ensures.opened c.token_of-own.result token
          c.append.new.self c.table-in-Ok.ensures.core c.in-Ok.receipt c.in-Ok.ensures.committed c.drop_opened.new.waits c.drop_gone.new.waits dropped c.drop_gone.ensures.waits;
      splits = committed_splits s c.self.invariant.scheduler c.args.plan right may fresh c.args.gone.now gone c.args.places.now listed c.open_all.new.open_places c.in_ok-opened.opened.items c.in_ok-opened.ensures.opened c.token_of-own.result token
          c.append.new.self c.table-in-Ok.ensures.core c.in-Ok.receipt c.in-Ok.ensures.committed c.drop_opened.new.waits c.drop_gone.new.waits dropped c.drop_gone.ensures.waits c.self.inside.splits c.remove_all.new.self
          c.self.invariant.splits drops;
    })

pub returns-in-Ok-clause-committed : goal.returns-in-Ok-clause-committed
returns-in-Ok-clause-committed g c =
    let s : SchedulerValue = record { core = c.self.inside.core; openings = c.self.inside.open; waits = c.self.inside.waits } in
    let dropped : DropsWaits s.waits (places_of c.args.places.now) c.drop_opened.new.waits = drops_opened s c.self.invariant.scheduler c.args.places.now c.open_all.new.open_places c.in_ok-opened.opened.items c.in_ok-opened.ensures.opened c.drop_opened.new.waits
    (subst (λ (ts : List ℕ). DropsWaits s.waits (places_under ts c.open_all.new.open_places) c.drop_opened.new.waits) c.as_slice.ensures c.drop_opened.ensures.waits) in
    let right : IsRight c.args.plan = subst IsRight c.plan.view_is c.plan.invariant in
    let may : MayCommit s.core c.args.plan = subst (λ (x : SchedulerValue). MayCommit x.core c.args.plan) (sym c.self.view_is) c.requires.may in
    let fresh : IsFresh s.core c.args.plan = subst (λ (x : SchedulerValue). IsFresh x.core c.args.plan) (sym c.self.view_is) c.requires.fresh in
    let gone : AreGone s.core.table c.args.plan.label c.args.plan.step c.args.gone.now = subst (λ (x : SchedulerValue). AreGone x.core.table c.args.plan.label c.args.plan.step c.args.gone.now) (sym c.self.view_is) c.requires.gone in
    let listed : AreListedFor s.core.table s.waits c.args.plan c.args.gone.now c.args.places.now =
    subst (λ (x : SchedulerValue). AreListedFor x.core.table x.waits c.args.plan c.args.gone.now c.args.places.now) (sym c.self.view_is) c.requires.places in
    let token : IsOpen s.openings c.args.plan.label.place c.token_of-own.result = subst (λ (l : Label). IsOpen s.openings l.place c.token_of-own.result) c.label-place.ensures c.token_of-own.ensures in
    let left : c.leave_gone.new.open_places ≡ after_going c.token_of-own.result c.args.plan.label.place c.args.gone.now c.open_all.new.open_places =
    c.leave_gone.ensures ∙ ap (λ (l : Label). after_going c.token_of-own.result l.place c.args.gone.now c.open_all.new.open_places) c.label-place.ensures in
    let r : Committed = record { receipt = c.in-Ok.receipt; opened = c.in_ok-opened.opened } in
    subst (λ (x : SchedulerValue). CommitsWithTurns ⊤ x c.args.plan (record { core = c.append.new.self; openings = c.leave_gone.new.open_places; waits = c.drop_gone.new.waits }) r) c.self.view_is
    (subst (λ (os : Openings). CommitsWithTurns ⊤ s c.args.plan (record { core = c.append.new.self; openings = os; waits = c.drop_gone.new.waits }) r) (sym left)
    (committed_so s c.self.invariant.scheduler c.args.plan right may fresh c.args.gone.now gone c.args.places.now listed c.open_all.new.open_places c.in_ok-opened.opened.items c.in_ok-opened.ensures.opened c.token_of-own.result token
    c.append.new.self c.table-in-Ok.ensures.core c.in-Ok.receipt c.in-Ok.ensures.committed c.drop_opened.new.waits c.drop_gone.new.waits dropped c.drop_gone.ensures.waits r refl refl))

pub returns-in_err-opened-clause-steps : goal.returns-in_err-opened-clause-steps
returns-in_err-opened-clause-steps g c =
    let s : SchedulerValue = record { core = c.self.inside.core; openings = c.self.inside.open; waits = c.self.inside.waits } in
    let right : IsRight c.args.plan = subst IsRight c.plan.view_is c.plan.invariant in
    let may : MayCommit s.core c.args.plan = subst (λ (x : SchedulerValue). MayCommit x.core c.args.plan) (sym c.self.view_is) c.requires.may in
    let fresh : IsFresh s.core c.args.plan = subst (λ (x : SchedulerValue). IsFresh x.core c.args.plan) (sym c.self.view_is) c.requires.fresh in
    let gone : AreGone s.core.table c.args.plan.label c.args.plan.step c.args.gone.now = subst (λ (x : SchedulerValue). AreGone x.core.table c.args.plan.label c.args.plan.step c.args.gone.now) (sym c.self.view_is) c.requires.gone in
    let listed : AreListedFor s.core.table s.waits c.args.plan c.args.gone.now c.args.places.now =
    subst (λ (x : SchedulerValue). AreListedFor x.core.table x.waits c.args.plan c.args.gone.now c.args.places.now) (sym c.self.view_is) c.requires.places in
    subst (λ (x : SchedulerValue). TakesLabelSteps x c.args.plan c.args.steps.now c.open_all.new.steps) c.self.view_is
    (opening_within s c.self.invariant.scheduler c.args.plan right may fresh c.args.gone.now gone c.requires.once c.args.places.now listed c.args.steps.now c.count_written.new.steps c.open_all.new.steps c.count_written.ensures c.open_all.ensures.steps)

pub returns-clause-steps : goal.returns-clause-steps
returns-clause-steps g c =
    let s : SchedulerValue = record { core = c.self.inside.core; openings = c.self.inside.open; waits = c.self.inside.waits } in
    let right : IsRight c.args.plan = subst IsRight c.plan.view_is c.plan.invariant in
    let may : MayCommit s.core c.args.plan = subst (λ (x : SchedulerValue). MayCommit x.core c.args.plan) (sym c.self.view_is) c.requires.may in
    let fresh : IsFresh s.core c.args.plan = subst (λ (x : SchedulerValue). IsFresh x.core c.args.plan) (sym c.self.view_is) c.requires.fresh in
    let gone : AreGone s.core.table c.args.plan.label c.args.plan.step c.args.gone.now = subst (λ (x : SchedulerValue). AreGone x.core.table c.args.plan.label c.args.plan.step c.args.gone.now) (sym c.self.view_is) c.requires.gone in
    let listed : AreListedFor s.core.table s.waits c.args.plan c.args.gone.now c.args.places.now =
    subst (λ (x : SchedulerValue). AreListedFor x.core.table x.waits c.args.plan c.args.gone.now c.args.places.now) (sym c.self.view_is) c.requires.places in
    subst (λ (x : SchedulerValue). TakesLabelSteps x c.args.plan c.args.steps.now c.open_all.new.steps) c.self.view_is
    (opening_within s c.self.invariant.scheduler c.args.plan right may fresh c.args.gone.now gone c.requires.once c.args.places.now listed c.args.steps.now c.count_written.new.steps c.open_all.new.steps c.count_written.ensures c.open_all.ensures.steps)

pub returns-in-Ok-clause-steps : goal.returns-in-Ok-clause-steps
returns-in-Ok-clause-steps g c =
    let s : SchedulerValue = record { core = c.self.inside.core; openings = c.self.inside.open; waits = c.self.inside.waits } in
    let dropped : DropsWaits s.waits (places_of c.args.places.now) c.drop_opened.new.waits = drops_opened s c.self.invariant.scheduler c.args.places.now c.open_all.new.open_places c.in_ok-opened.opened.items c.in_ok-opened.ensures.opened c.drop_opened.new.waits
    (subst (λ (ts : List ℕ). DropsWaits s.waits (places_under ts c.open_all.new.open_places) c.drop_opened.new.waits) c.as_slice.ensures c.drop_opened.ensures.waits) in
    let counted : DropBySteps s.waits (places_of c.args.places.now) c.open_all.new.steps c.drop_opened.new.steps = counts_opened s c.self.invariant.scheduler c.args.places.now c.open_all.new.open_places c.in_ok-opened.opened.items c.in_ok-opened.ensures.opened c.open_all.new.steps c.drop_opened.new.steps
    (subst (λ (ts : List ℕ). DropBySteps s.waits (places_under ts c.open_all.new.open_places) c.open_all.new.steps c.drop_opened.new.steps) c.as_slice.ensures c.drop_opened.ensures.steps) in
    let right : IsRight c.args.plan = subst IsRight c.plan.view_is c.plan.invariant in
    let may : MayCommit s.core c.args.plan = subst (λ (x : SchedulerValue). MayCommit x.core c.args.plan) (sym c.self.view_is) c.requires.may in
    let fresh : IsFresh s.core c.args.plan = subst (λ (x : SchedulerValue). IsFresh x.core c.args.plan) (sym c.self.view_is) c.requires.fresh in
    let gone : AreGone s.core.table c.args.plan.label c.args.plan.step c.args.gone.now = subst (λ (x : SchedulerValue). AreGone x.core.table c.args.plan.label c.args.plan.step c.args.gone.now) (sym c.self.view_is) c.requires.gone in
    let listed : AreListedFor s.core.table s.waits c.args.plan c.args.gone.now c.args.places.now =
    subst (λ (x : SchedulerValue). AreListedFor x.core.table x.waits c.args.plan c.args.gone.now c.args.places.now) (sym c.self.view_is) c.requires.places in
    subst (λ (x : SchedulerValue). TakesLabelSteps x c.args.plan c.args.steps.now c.drop_gone.new.steps) c.self.view_is
    (dropping_within s c.self.invariant.scheduler c.args.plan right may fresh c.args.gone.now gone c.requires.once c.args.places.now listed c.args.steps.now c.count_written.new.steps c.open_all.new.steps c.drop_gone.new.steps c.count_written.ensures c.open_all.ensures.steps
    (drop_both s.waits c.drop_opened.new.waits (places_of c.args.places.now) c.args.gone.now c.open_all.new.steps c.drop_opened.new.steps c.drop_gone.new.steps dropped counted c.drop_gone.ensures.steps))

pub returns-in-Ok-clause-opened : goal.returns-in-Ok-clause-opened
returns-in-Ok-clause-opened g c =
    let s : SchedulerValue = record { core = c.self.inside.core; openings = c.self.inside.open; waits = c.self.inside.waits } in
    let dropped : DropsWaits s.waits (places_of c.args.places.now) c.drop_opened.new.waits = drops_opened s c.self.invariant.scheduler c.args.places.now c.open_all.new.open_places c.in_ok-opened.opened.items c.in_ok-opened.ensures.opened c.drop_opened.new.waits
    (subst (λ (ts : List ℕ). DropsWaits s.waits (places_under ts c.open_all.new.open_places) c.drop_opened.new.waits) c.as_slice.ensures c.drop_opened.ensures.waits) in
    let right : IsRight c.args.plan = subst IsRight c.plan.view_is c.plan.invariant in
    let may : MayCommit s.core c.args.plan = subst (λ (x : SchedulerValue). MayCommit x.core c.args.plan) (sym c.self.view_is) c.requires.may in
    let fresh : IsFresh s.core c.args.plan = subst (λ (x : SchedulerValue). IsFresh x.core c.args.plan) (sym c.self.view_is) c.requires.fresh in
    let gone : AreGone s.core.table c.args.plan.label c.args.plan.step c.args.gone.now = subst (λ (x : SchedulerValue). AreGone x.core.table c.args.plan.label c.args.plan.step c.args.gone.now) (sym c.self.view_is) c.requires.gone in
    let listed : AreListedFor s.core.table s.waits c.args.plan c.args.gone.now c.args.places.now =
    subst (λ (x : SchedulerValue). AreListedFor x.core.table x.waits c.args.plan c.args.gone.now c.args.places.now) (sym c.self.view_is) c.requires.places in
    let token : IsOpen s.openings c.args.plan.label.place c.token_of-own.result = subst (λ (l : Label). IsOpen s.openings l.place c.token_of-own.result) c.label-place.ensures c.token_of-own.ensures in
    let left : c.leave_gone.new.open_places ≡ after_going c.token_of-own.result c.args.plan.label.place c.args.gone.now c.open_all.new.open_places =
    c.leave_gone.ensures ∙ ap (λ (l : Label). after_going c.token_of-own.result l.place c.args.gone.now c.open_all.new.open_places) c.label-place.ensures in
    subst (λ (x : SchedulerValue). OpensAmong x (record { core = c.append.new.self; openings = c.leave_gone.new.open_places; waits = c.drop_gone.new.waits }) (places_of c.args.places.now)) c.self.view_is
    (subst (λ (os : Openings). OpensAmong s (record { core = c.append.new.self; openings = os; waits = c.drop_gone.new.waits }) (places_of c.args.places.now)) (sym left)
    (opens_among s c.self.invariant.scheduler c.args.plan right may fresh c.args.gone.now gone c.args.places.now listed c.open_all.new.open_places c.in_ok-opened.opened.items c.in_ok-opened.ensures.opened c.token_of-own.result token
    c.append.new.self c.table-in-Ok.ensures.core c.in-Ok.receipt c.in-Ok.ensures.committed c.drop_opened.new.waits c.drop_gone.new.waits dropped c.drop_gone.ensures.waits))

pub drop_gone-requires : goal.drop_gone-requires
drop_gone-requires g c =
    let s : SchedulerValue = record { core = c.self.inside.core; openings = c.self.inside.open; waits = c.self.inside.waits } in
    subst (λ (o : Option Place). IfSome o (λ (p : Place). (x : Var) → waits_on c.drop_opened.new.waits p x ≡ false)) (sym c.place_under.ensures)
    (own_silent s c.self.invariant.scheduler c.args.places.now c.open_all.new.open_places c.in_ok-opened.opened.items c.in_ok-opened.ensures.opened c.drop_opened.new.waits
    (subst (λ (ts : List ℕ). DropsWaits s.waits (places_under ts c.open_all.new.open_places) c.drop_opened.new.waits) c.as_slice.ensures c.drop_opened.ensures.waits) c.label-place.result.place c.token_of-own.result c.token_of-own.ensures)
