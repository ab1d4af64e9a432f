use Rattle.std.proofs.Common.{[], ◌∷◌, ◌++◌, ap, ◌∙◌}
use Rattle.box_tree.specs.declared.inside.InnerGoal.{InnerGoal}
use Rattle.box_copies.proofs.Sets.{listed_none, listed_next, listed_all}
use Rattle.box_copies.proofs.gathering.add_goals.Goals as goal

pub loop-goal-init : goal.loop-goal-init
loop-goal-init c = listed_none (λ (g : InnerGoal). g.name) c.args.names.now.items c.args.goals.now

pub loop-goal-preserved : goal.loop-goal-preserved
loop-goal-preserved c = listed_next (λ (g : InnerGoal). g.name) c.args.names.now.items c.args.goals.now c.loop-goal.names.items c.push.new.self.items c.loop-goal.goal-index c.goal-item.result c.loop-goal-test.true c.loop-goal.invariant (c.in_ok-push.ensures.items ∙ ap (λ (g : InnerGoal). c.loop-goal.names.items ++ g.name ∷ []) c.goal-item.is)

pub returns : goal.returns
returns c = listed_all (λ (g : InnerGoal). g.name) c.args.names.now.items c.args.goals.now c.loop-goal.names.items c.loop-goal.goal-index c.loop-goal-test.false c.loop-goal.invariant
