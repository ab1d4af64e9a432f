use Rattle.std.proofs.Common.{None, subst}
use Rattle.box_tree.specs.Views.{ViewValue}
use Rattle.guard_plan.specs.Planned.{HasNoRule}
use Rattle.guard_plan.specs.Noisy.{IsNoiseAt, IsTriedBy}
use Rattle.place_steps.specs.declared.seen.Seen.{Seen}
use Rattle.place_steps.specs.Seen.{view_in, IsSeen}
use Rattle.place_steps.proofs.next.single_next.Goals as goal

pub goal_next-requires-clause-noise : goal.goal_next-requires-clause-noise
goal_next-requires-clause-noise c =
    let tried : IsTriedBy (view_in c.args.seen.now) c.plan_with_noise.new.noise.items None =
    subst (λ (v : ViewValue). IsTriedBy v c.plan_with_noise.new.noise.items None) c.view.ensures (subst (IsTriedBy c.view.result.now c.plan_with_noise.new.noise.items) c.in_default.is c.in_ok-found.ensures) in
    rw c.as_slice.ensures.value (subst (λ (s : Seen). IsNoiseAt (view_in s) (view_in s).sight c.plan_with_noise.new.noise.items) c.in-Goal.is tried.1)

pub goal_next-requires-clause-none : goal.goal_next-requires-clause-none
goal_next-requires-clause-none c =
    let tried : IsTriedBy (view_in c.args.seen.now) c.plan_with_noise.new.noise.items None =
    subst (λ (v : ViewValue). IsTriedBy v c.plan_with_noise.new.noise.items None) c.view.ensures (subst (IsTriedBy c.view.result.now c.plan_with_noise.new.noise.items) c.in_default.is c.in_ok-found.ensures) in
    subst (λ (s : Seen). HasNoRule (view_in s)) c.in-Goal.is tried.0

pub root_next-requires-clause-none : goal.root_next-requires-clause-none
root_next-requires-clause-none c =
    let tried : IsTriedBy (view_in c.args.seen.now) c.plan_with_noise.new.noise.items None =
    subst (λ (v : ViewValue). IsTriedBy v c.plan_with_noise.new.noise.items None) c.view.ensures (subst (IsTriedBy c.view.result.now c.plan_with_noise.new.noise.items) c.in_default.is c.in_ok-found.ensures) in
    subst (λ (s : Seen). HasNoRule (view_in s)) c.in-Root.is tried.0

pub still_next-requires-clause-none : goal.still_next-requires-clause-none
still_next-requires-clause-none c =
    let tried : IsTriedBy (view_in c.args.seen.now) c.plan_with_noise.new.noise.items None =
    subst (λ (v : ViewValue). IsTriedBy v c.plan_with_noise.new.noise.items None) c.view.ensures (subst (IsTriedBy c.view.result.now c.plan_with_noise.new.noise.items) c.in_default.is c.in_ok-found.ensures) in
    subst (λ (s : Seen). HasNoRule (view_in s)) c.in-Still.is tried.0

pub still_next-requires-clause-still : goal.still_next-requires-clause-still
still_next-requires-clause-still c = rw c.as_slice-in-Still.ensures.value (subst IsSeen c.in-Still.is c.requires.seen)

pub box_next-requires-clause-none : goal.box_next-requires-clause-none
box_next-requires-clause-none c =
    let tried : IsTriedBy (view_in c.args.seen.now) c.plan_with_noise.new.noise.items None =
    subst (λ (v : ViewValue). IsTriedBy v c.plan_with_noise.new.noise.items None) c.view.ensures (subst (IsTriedBy c.view.result.now c.plan_with_noise.new.noise.items) c.in_default.is c.in_ok-found.ensures) in
    subst (λ (s : Seen). HasNoRule (view_in s)) c.in-Box.is tried.0
