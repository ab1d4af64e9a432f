use Rattle.box_copies.specs.Renamer.{swapped_name}
use Rattle.box_copies.proofs.Loops.{goals_next}
use Rattle.box_copies.proofs.goals.copied_goals.Goals as goal

pub loop-goal-preserved : goal.loop-goal-preserved
loop-goal-preserved c = goals_next (swapped_name c.args.names.now) c.args.alternative c.args.goals.now c.loop-goal.goal-index c.goal-item.result c.loop-goal.copies.items c.push.new.self.items (c.swapped.result, c.in_ok-held.held) c.loop-goal-test.true
    c.goal-item.is c.loop-goal.invariant c.swapped.ensures c.in_ok-held.ensures c.in_ok-push.ensures.items
