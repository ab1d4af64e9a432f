use Rattle.std.proofs.Common.{List, sym, subst}
use Rattle.akl_terms.specs.declared.name.Var.{Var}
use Rattle.akl_terms.specs.declared.name.Place.{Place}
use Rattle.step_commit.specs.Cores.{IsStale}
use Rattle.scheduler.specs.Schedulers.{SchedulerValue}
use Rattle.scheduler.specs.Settled.{MaySettle, IsFreshIdle, IsSeenEnough, IsFoundIdle}
use Rattle.scheduler.proofs.SettleCalls.{stale_so, fresh_so, idle_so}
use Rattle.scheduler.proofs.scheduler.Scheduler.settle.Goals as goal

pub returns-in-Some-clause-refused : goal.returns-in-Some-clause-refused
returns-in-Some-clause-refused c =
    subst (λ (x : SchedulerValue). IsStale x.core c.args.idle.now.journal c.args.idle.now.reads c.in-Some.item c.in-Some.stamp) c.self.view_is
    (stale_so c.self.inside.core c.self.invariant.scheduler.core c.args.idle.now c.reads.ensures.right (subst (λ (x : SchedulerValue). MaySettle x.core c.args.idle.now) (sym c.self.view_is) c.requires)
    c.reads.result.now c.seen.result c.stale.result c.in-Some.item c.in-Some.stamp c.reads.ensures.reads c.seen.ensures c.in-Some.is c.stale.ensures)

pub returns-then-is_to_look_inside-clause-refused : goal.returns-then-is_to_look_inside-clause-refused
returns-then-is_to_look_inside-clause-refused c =
    let s : SchedulerValue = record { core = c.self.inside.core; openings = c.self.inside.open; waits = c.self.inside.waits } in
    let may : MaySettle s.core c.args.idle.now = subst (λ (x : SchedulerValue). MaySettle x.core c.args.idle.now) (sym c.self.view_is) c.requires in
    let fresh : IsFreshIdle s.core c.args.idle.now =
    fresh_so s.core c.self.invariant.scheduler.core c.args.idle.now c.reads.ensures.right may c.reads.result.now c.seen.result c.stale.result c.reads.ensures.reads c.seen.ensures c.in_default.is c.stale.ensures in
    (subst (λ (x : SchedulerValue). IsFreshIdle x.core c.args.idle.now) c.self.view_is fresh, c.is_to_look_inside.ensures.little c.if-is_to_look_inside.true)

pub settle_idle-requires : goal.settle_idle-requires
settle_idle-requires c =
    let s : SchedulerValue = record { core = c.self.inside.core; openings = c.self.inside.open; waits = c.self.inside.waits } in
    let may : MaySettle s.core c.args.idle.now = subst (λ (x : SchedulerValue). MaySettle x.core c.args.idle.now) (sym c.self.view_is) c.requires in
    let fresh : IsFreshIdle s.core c.args.idle.now =
    fresh_so s.core c.self.invariant.scheduler.core c.args.idle.now c.reads.ensures.right may c.reads.result.now c.seen.result c.stale.result c.reads.ensures.reads c.seen.ensures c.in_default.is c.stale.ensures in
    let seen : IsSeenEnough s c.args.idle.now = subst (λ (x : SchedulerValue). IsSeenEnough x c.args.idle.now) (sym c.self.view_is) (c.is_to_look_inside.ensures.enough c.if-is_to_look_inside.false) in
    subst (λ (p : Place). IsFoundIdle c.args.self.now.core p c.on.result.now) (sym c.place.ensures)
    (subst (λ (xs : List Var). IsFoundIdle c.args.self.now.core c.args.idle.now.place xs) (sym c.on.ensures)
    (subst (λ (x : SchedulerValue). IsFoundIdle x.core c.args.idle.now.place c.args.idle.now.on) c.self.view_is
    (idle_so s c.self.invariant.scheduler.core c.args.idle.now c.reads.ensures.right may seen fresh)))

pub returns-clause-fresh : goal.returns-clause-fresh
returns-clause-fresh c =
    let s : SchedulerValue = record { core = c.self.inside.core; openings = c.self.inside.open; waits = c.self.inside.waits } in
    let may : MaySettle s.core c.args.idle.now = subst (λ (x : SchedulerValue). MaySettle x.core c.args.idle.now) (sym c.self.view_is) c.requires in
    let fresh : IsFreshIdle s.core c.args.idle.now =
    fresh_so s.core c.self.invariant.scheduler.core c.args.idle.now c.reads.ensures.right may c.reads.result.now c.seen.result c.stale.result c.reads.ensures.reads c.seen.ensures c.in_default.is c.stale.ensures in
    subst (λ (x : SchedulerValue). IsFreshIdle x.core c.args.idle.now) c.self.view_is fresh

pub returns-clause-seen : goal.returns-clause-seen
returns-clause-seen c = c.is_to_look_inside.ensures.enough c.if-is_to_look_inside.false
