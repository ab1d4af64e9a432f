use Rattle.box_tree.proofs.Gathered.{gathers, gathered}
use Rattle.box_tree.proofs.named.push_names.Goals as goal

pub loop-name-preserved : goal.loop-name-preserved
loop-name-preserved g c = gathers (λ x. x.0) c.args.names.now.items c.args.goals.now c.loop-name.name-index c.loop-name.names.items c.loop-name.invariant c.loop-name-item.result c.loop-name-item.result c.push.new.self.items c.loop-name-test.true c.loop-name-item.is c.in_ok-push.ensures

pub returns : goal.returns
returns g c = gathered (λ x. x.0) c.args.names.now.items c.args.goals.now c.loop-name.name-index c.loop-name.names.items c.loop-name.invariant c.loop-name-test.false
