use Rattle.akl_terms.specs.declared.name.Place.{Place}
use Rattle.box_tree.specs.declared.inside.InnerGoal.{InnerGoal}
use Rattle.box_tree.proofs.Gathered.{gathers, gathered}
use Rattle.box_tree.proofs.inside.push_goal_places.Goals as goal

pub loop-goal-preserved : goal.loop-goal-preserved
loop-goal-preserved c = gathers (λ (g : InnerGoal). Place.Goal g.name) c.args.places.now.items c.args.goals.now c.loop-goal.goal-index c.loop-goal.places.items c.loop-goal.invariant c.goal-item.result c.goal-item.result c.push.new.self.items
    c.loop-goal-test.true c.goal-item.is c.in_ok-push.ensures.items

pub returns : goal.returns
returns c = gathered (λ (g : InnerGoal). Place.Goal g.name) c.args.places.now.items c.args.goals.now c.loop-goal.goal-index c.loop-goal.places.items c.loop-goal.invariant c.loop-goal-test.false
